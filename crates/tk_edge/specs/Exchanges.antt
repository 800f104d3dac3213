-- The reply to another region, and what its request does to this one (own).
--   TellsVector     the answer has the bytes of the front
--   page_for        the page that a pull requests, plain or with runs
--   page_reply      the reply to a pull: the bundle of a page
--   unread_code     the name of the error for bytes that can't be read
--   refusal_code    the name of the error for a bundle that isn't taken in
--   TakesBundle     the region takes a bundle in, or refuses it, or is cut off by lack of memory
--   Pushes          a pushed bundle is refused by the terms, or goes to the region
--   IsTakenReply    the reply to a push, by its result
--   TakesAndTells   how a push may end
--   Exchanges       how each of the three requests may end
use Rattle.std.specs.Prelude.{◌≡◌, ℕ, List, Option, None, Some, Result, Ok, Err}
use Rattle.std.specs.declared.alloc.AllocError.{AllocError}
use Rattle.tk_format.specs.Format.{whole}
use Rattle.tk_format.specs.declared.error.ReadError.{ReadError}
use Rattle.tk_format.specs.declared.error.ReadError.TheVariants as read
use Rattle.tk_vector.specs.VersionVector.{Vector as AnyVector}
use Rattle.tk_vector.specs.VectorBytes.{vector, vector_bytes}
use Rattle.tk_store.specs.Front.{IsFront}
use Rattle.tk_store.specs.Slots.{Slots}
use Rattle.tk_store.specs.StoreFields.{StoreFields}
use Rattle.tk_bundle.specs.Bundle.{bundle, bundle_bytes}
use Rattle.tk_bundle.specs.Page.{PageFields, page_of}
use Rattle.tk_bundle.specs.RunPage.{run_page_of}
use Rattle.tk_message.specs.Place.{next_in}
use Rattle.tk_message.specs.Bodies.{taken_body}
use Rattle.tk_message.specs.Reply.{bytes_reply, error_reply, json_reply}
use Rattle.tk_message.specs.ReplyFields.{ReplyFields}
use Rattle.tk_message.specs.declared.error_code.ErrorCode.{ErrorCode}
use Rattle.tk_message.specs.declared.error_code.ErrorCode.TheVariants as code
use Rattle.tk_message.specs.declared.status_code.StatusCode.TheVariants as status
use Rattle.tk_region.specs.RegionFields.{RegionFields, place_in}
use Rattle.tk_region.specs.Taking.{TakesIn}
use Rattle.tk_region.specs.declared.take.TakeError.{TakeError}
use Rattle.tk_region.specs.declared.take.TakeError.TheVariants.{Malformed, OwnNumber, Conflict}
use Rattle.tk_region.specs.declared.take.TakeError.TheVariants.{Memory}
use Rattle.tk_edge.specs.Ahead.{refused}
use Rattle.tk_edge.specs.Answers.{rendered}
use Rattle.tk_edge.specs.Pulls.{wanted}
use Rattle.tk_edge.specs.Terms.{TermsFields}
use Rattle.tk_edge.specs.Told.{AnswerFields}
use Rattle.tk_edge.specs.declared.ahead.PushError.{PushError}
use Rattle.tk_edge.specs.declared.ahead.PushError.TheVariants.{HorizonAhead, OutOfRange, Take}
use Rattle.tk_edge.specs.declared.exchange.Exchange.{Exchange}
use Rattle.tk_edge.specs.declared.exchange.Exchange.TheVariants.{Vector, Pull, Push}
use Rattle.tk_edge.specs.declared.pull.Pages.{Pages}
use Rattle.tk_edge.specs.declared.pull.Pages.TheVariants.{Plain, WithRuns}
use Rattle.tk_edge.specs.declared.pull.Wanted.{Wanted}

-- the answer has the bytes of the front of the dots known, which fits into bytes
abbrev pub TellsVector : Slots → AnswerFields → Type 0
TellsVector S answer =
    (v : AnyVector) × IsFront S v × vector.Fits v
    × (answer ≡ rendered (bytes_reply (vector_bytes v)) None None)

-- the page of a store that a pull requests
abbrev pub page_for : Pages → StoreFields → Wanted → PageFields
page_for Plain P w = page_of P w.vector w.after
page_for WithRuns P w = run_page_of P w.vector w.after

-- the reply to a pull: the bundle of a page, or the error for bytes that are no pull
abbrev pub page_reply : Pages → StoreFields → Option Wanted → ReplyFields
page_reply pages P None = error_reply code.Malformed
page_reply pages P (Some w) = bytes_reply (bundle_bytes (page_for pages P w).bundle)

-- The bundle that the bytes spell is taken in or refused. If memory runs out, the first of its
-- facts are in.
pub record TakesBundle (old : RegionFields) (bytes : List ℕ) (taken : Result ℕ TakeError)
    (new : RegionFields) : Type 0 where
  pub number : new.number ≡ old.number
  pub settings : new.settings ≡ old.settings
  pub takes : TakesIn old.facts (next_in (place_in old)) (whole bundle bytes) taken
      new.facts

-- the outcome of a push, by why the terms refuse the bundle: the region is then unchanged; if they
-- don't refuse it, the region takes the bundle in or refuses it
abbrev pub PushesBy : Option PushError → RegionFields → List ℕ → Result ℕ PushError → RegionFields
    → Type 0
PushesBy (Some why) old bytes (Err (Take Memory)) new = new ≡ old
PushesBy (Some why) old bytes (Err error) new = (error ≡ why) × (new ≡ old)
PushesBy (Some why) old bytes (Ok n) new = ⊥
PushesBy None old bytes (Ok n) new = TakesBundle old bytes (Ok n) new
PushesBy None old bytes (Err (Take error)) new = TakesBundle old bytes (Err error) new
PushesBy None old bytes (Err HorizonAhead) new = ⊥
PushesBy None old bytes (Err OutOfRange) new = ⊥

-- a pushed bundle is refused by the terms at the moment, or the region takes it in or refuses it
abbrev pub Pushes : TermsFields → ℕ → RegionFields → List ℕ → Result ℕ PushError → RegionFields
    → Type 0
Pushes terms now old bytes taken new =
    PushesBy (refused terms now (whole bundle bytes)) old bytes taken new

-- the name of the error for bytes that can't be read; out of memory has no name and gets no reply
abbrev pub unread_code : ReadError → Option ErrorCode
unread_code read.Malformed = Some code.Malformed
unread_code read.Memory = None

-- the name of the error for a bundle that isn't taken in; out of memory has no name
abbrev pub refusal_code : PushError → Option ErrorCode
refusal_code (Take Malformed) = Some code.Malformed
refusal_code HorizonAhead = Some code.HorizonAhead
refusal_code OutOfRange = Some code.OutOfRange
refusal_code (Take OwnNumber) = Some code.OwnNumber
refusal_code (Take Conflict) = Some code.Conflict
refusal_code (Take Memory) = None

-- the reply is the error of this name; without a name no reply is right
abbrev pub IsErrorReply : Option ErrorCode → ReplyFields → Type 0
IsErrorReply (Some name) reply = reply ≡ error_reply name
IsErrorReply None reply = ⊥

-- the reply to a push: how many facts were new, or why the bundle was refused
abbrev pub IsTakenReply : Result ℕ PushError → ReplyFields → Type 0
IsTakenReply (Ok n) reply = reply ≡ json_reply status.Ok (taken_body n)
IsTakenReply (Err error) reply = IsErrorReply (refusal_code error) reply

-- Success: the answer reports what became of the bundle. Out of memory: the bundle may still have
-- been taken in, in whole or in part.
abbrev pub TakesAndTells : TermsFields → ℕ → RegionFields → List ℕ → Result AnswerFields AllocError
    → RegionFields → Type 0
TakesAndTells terms now old bytes (Ok answer) new =
    (taken : Result ℕ PushError) × Pushes terms now old bytes taken new × (reply : ReplyFields)
    × IsTakenReply taken reply × (answer ≡ rendered reply None None)
TakesAndTells terms now old bytes (Err e) new =
    (taken : Result ℕ PushError) × Pushes terms now old bytes taken new

-- how a request of another region may end, at the moment; only a push changes the region
abbrev pub Exchanges : TermsFields → ℕ → RegionFields → Exchange → Result AnswerFields AllocError
    → RegionFields → Type 0
Exchanges terms now old Vector (Ok answer) new =
    TellsVector old.facts.slots answer × (new ≡ old)
Exchanges terms now old Vector (Err e) new = new ≡ old
Exchanges terms now old (Pull pages bytes) (Ok answer) new =
    (answer ≡ rendered (page_reply pages old.facts (whole wanted bytes)) None None)
    × (new ≡ old)
Exchanges terms now old (Pull pages bytes) (Err e) new = new ≡ old
Exchanges terms now old (Push bytes) result new = TakesAndTells terms now old bytes result new
