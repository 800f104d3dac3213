-- Laws of answers, with a fact and without. Key results:
--   refused          a refusal's answer has its code and its methods
--   gains_nothing    a region that gains no facts is unchanged
--   answers_nothing  an answer without a fact changes nothing
--   answers_request  what was prepared for a request is its answer
--   answers_alone    an arrival's answer and fact, if no path of `/sync/` is served
--   answered         an arrival is answered, if memory doesn't run out
--   short_of         running out of memory leaves the region unchanged, or with the first facts of
--                    a bundle
--   short_answer     short_of, for a stream whose bytes are known
--   pulls            replying to a pull changes nothing
--   unread           a fault while replying isn't a read fault
--   faults_as        equal faults of a connection are equal faults of telling
--   served           replying to an arrival is what a connection does
--   faulted          a fault while replying is a connection's fault
use Rattle.std.proofs.Common.{◌≡◌, ◌≢◌, ℕ, Bool, true, false, List, Option, None, Some, Result, Ok}
use Rattle.std.proofs.Common.{Err, IfOk, OnOk, OnErr, refl, subst, ap, ◌∙◌, inl, inr}
use Rattle.std.specs.declared.alloc.AllocError.{AllocError}
use Rattle.tk_format.specs.Format.{whole}
use Rattle.tk_message.specs.Reply.{error_reply}
use Rattle.tk_message.specs.ReplyFields.{ReplyFields}
use Rattle.tk_message.specs.RequestFields.{RequestFields}
use Rattle.tk_message.specs.declared.error_code.ErrorCode.{ErrorCode}
use Rattle.tk_message.specs.declared.status_code.StatusCode.{StatusCode}
use Rattle.tk_region.specs.RegionFields.{RegionFields, Gains}
use Rattle.tk_region.specs.Step.{PreparedFields, prepared_of}
use Rattle.tk_edge.specs.Answers.{rendered, refused_by, answer_at, fact_by, AnswersBy}
use Rattle.tk_edge.specs.Issuer.{with_iss}
use Rattle.tk_edge.specs.Paths.{plain}
use Rattle.tk_edge.specs.Arrivals.{Answers, IsShort}
use Rattle.tk_edge.specs.Exchanges.{Exchanges, page_reply}
use Rattle.tk_edge.specs.Heard.{Arrives, IsArrival, MayArrive}
use Rattle.tk_edge.specs.Judged.{code_of, allowed_by}
use Rattle.tk_edge.specs.Pulls.{wanted}
use Rattle.tk_edge.specs.Pushes.{bundle_to_log}
use Rattle.tk_edge.specs.Served.{Asked, IsServed, RepliesTo, RunsOut, Step}
use Rattle.tk_edge.specs.Told.{AnswerFields, Change}
use Rattle.tk_edge.specs.declared.edge.Served.{Served}
use Rattle.tk_edge.specs.declared.edge.Served.TheVariants.{Done}
use Rattle.tk_edge.specs.declared.exchange.Exchange.TheVariants.{Vector, Pull, Push}
use Rattle.tk_edge.specs.declared.hear.Arrival.{Arrival}
use Rattle.tk_edge.specs.declared.hear.Arrival.TheVariants.{Silence, Refused, Request, Exchange}
use Rattle.tk_edge.specs.declared.hear.Arrival.TheVariants.{Notice}
use Rattle.tk_edge.specs.declared.pull.Pages.{Pages}
use Rattle.tk_edge.specs.declared.reach.Reach.{Reach}
use Rattle.tk_edge.specs.declared.reach.PathSet.TheVariants.{Admin, All}
use Rattle.tk_edge.specs.declared.refusal.Refusal.{Refusal}
use Rattle.tk_edge.specs.Terms.{TermsFields}
use Rattle.tk_edge.specs.declared.tell.Fault.{Fault}
use Rattle.tk_edge.specs.declared.tell.Fault.TheVariants.{Read, Write, Log, Memory}

-- a refusal is answered by its code and the methods that are allowed
pub refused : (why : Refusal) (code : ErrorCode) (reply : ReplyFields) (allowed : Option (List ℕ))
    (result : Result AnswerFields AllocError)
    → code ≡ code_of why → reply ≡ error_reply code → allowed ≡ allowed_by why
    → IfOk result (λ a. a ≡ rendered reply allowed None)
    → IfOk result (λ a. a ≡ refused_by why)
refused why code reply allowed (Ok a) code_is reply_is allowed_is is =
    is ∙ ap (λ w. rendered reply w None) allowed_is
    ∙ ap (λ (r : ReplyFields). rendered r (allowed_by why) None) (reply_is ∙ ap error_reply code_is)
refused why code reply allowed (Err e) code_is reply_is allowed_is is = tt

-- a region that is as before gained nothing
pub gains_nothing : (r : RegionFields) → Gains r None r
gains_nothing r = record { number = refl; settings = refl; facts = refl }

-- an answer without a fact leaves the region
pub answers_nothing : (r : RegionFields) (told : AnswerFields)
    (result : Result AnswerFields AllocError)
    → IfOk result (λ a. a ≡ told) → AnswersBy r told None result r
answers_nothing r told (Ok a) h = (h, gains_nothing r, tt)
answers_nothing r told (Err e) h = refl

-- a request is answered by the reply that the region prepared
pub answers_request : (terms : TermsFields) (r : RegionFields) (now : ℕ) (words : List ℕ)
    (request : RequestFields) (p : PreparedFields) (result : Result AnswerFields AllocError)
    (new : RegionFields)
    → p ≡ prepared_of r now words request
    → AnswersBy r (rendered (with_iss terms.issuer p.reply) None p.logged) p.fact result new
    → AnswersBy r (answer_at terms r now words (Request request))
    (fact_by r now words (Request request)) result new
answers_request terms r now words request p result new is answers =
    subst (λ (x : PreparedFields).
    AnswersBy r (rendered (with_iss terms.issuer x.reply) None x.logged) x.fact result new) is
    answers

-- if no path of `/sync/` is served, an arrival is answered with its answer and its fact
pub answers_alone : (terms : TermsFields) (r : RegionFields) (now : ℕ) (words : List ℕ)
    (came : Arrival) (result : Result AnswerFields AllocError) (new : RegionFields)
    → MayArrive (plain Admin) came
    → Answers terms r now words came result new
    → AnswersBy r (answer_at terms r now words came) (fact_by r now words came) result new
answers_alone terms r now words (Exchange asked) result new off told = absurd (clash off)
  where
    clash : Admin ≡ All → ⊥
    clash e = cc
answers_alone terms r now words came result new off told = told

-- running out of memory leaves the region unchanged, or with the first facts of a bundle
pub short_of : (reach : Reach) (terms : TermsFields) (known : Option (List ℕ)) (now : ℕ)
    (words : List ℕ) (came : Arrival) (old new : RegionFields) (e : AllocError)
    → Arrives reach known came
    → Answers terms old now words came (Err e) new → IsShort reach terms now known old new
short_of reach terms known now words (Exchange Vector) old new e arrives told = inl told
short_of reach terms known now words (Exchange (Pull pages sent)) old new e arrives told = inl told
short_of reach terms known now words (Exchange (Push sent)) old new e arrives told =
    inr (sent, arrives, told.0, told.1)
short_of reach terms known now words came old new e arrives told = inl told

-- an arrival is answered, if memory doesn't run out
pub answered : (reach : Reach) (terms : TermsFields) (bytes : List ℕ) (now : ℕ) (words : List ℕ)
    (came : Arrival) (old new : RegionFields) (result : Result AnswerFields AllocError)
    → IsArrival reach bytes came → Answers terms old now words came result new
    → OnOk result
    ((x : Arrival) × IsArrival reach bytes x × Answers terms old now words x result new)
answered reach terms bytes now words came old new (Ok answer) is told = (came, is, told)
answered reach terms bytes now words came old new (Err e) is told = tt

-- running out of memory over known bytes leaves the region unchanged, or with the first facts of a
-- bundle
pub short_answer : (reach : Reach) (terms : TermsFields) (bytes : List ℕ) (now : ℕ) (words : List ℕ)
    (came : Arrival) (old new : RegionFields) (result : Result AnswerFields AllocError)
    → IsArrival reach bytes came → MayArrive reach came
    → Answers terms old now words came result new
    → OnErr result (IsShort reach terms now (Some bytes) old new)
short_answer reach terms bytes now words came old new (Ok answer) is may told = tt
short_answer reach terms bytes now words came old new (Err e) is may told =
    short_of reach terms (Some bytes) now words came old new e
    (may, λ b same. subst (λ x. IsArrival reach x came) (some_is b same) is) told
  where
    some_is : (b : List ℕ) → Some bytes ≡ Some b → bytes ≡ b
    some_is b same = cc

-- replying to a pull with a page changes nothing
pub pulls : (terms : TermsFields) (now : ℕ) (r : RegionFields) (pages : Pages) (sent : List ℕ)
    (result : Result AnswerFields AllocError)
    → IfOk result (λ a. a ≡ rendered (page_reply pages r.facts (whole wanted sent)) None None)
    → Exchanges terms now r (Pull pages sent) result r
pulls terms now r pages sent (Ok a) h = (h, refl)
pulls terms now r pages sent (Err e) h = refl

-- a fault as the result of a connection
abbrev fails : Fault → Result Served Fault
fails fault = Err fault

-- a fault in place of a status
abbrev told_fault : Fault → Result StatusCode Fault
told_fault fault = Err fault

-- no arrival is replied to with a read fault
no_read : (sent : Option (List ℕ)) (terms : TermsFields) (now : ℕ) (words : List ℕ) (came : Arrival)
    (region : Step) (log : Change) (still : Type 0) (writer : Change) (sealed : Bool)
    → RepliesTo sent terms now words came region log still writer sealed (Err Read) → ⊥
no_read None terms now words came region log still writer sealed told = told
no_read (Some bytes) terms now words came region log still writer sealed told = told.4.2

module _ (asked : Asked) (came : Arrival) (old new : RegionFields) (log : Change) (still : Type 0)
    (writer : Change) (sealed : Bool) (arrives : Arrives asked.reach asked.known came)
    (spoke : came ≢ Silence) where
  -- an arrival was replied to, with the pushed bundle that is logged, if any
  abbrev Told : Option (List ℕ) → Result StatusCode Fault → Type 0
  Told sent result = RepliesTo sent asked.terms asked.now asked.words came
      (record { before = old; after = new }) log still writer sealed result

  -- a request that ended with a status was served so
  pub served : (status : StatusCode) → Told (bundle_to_log asked.log_taken came) (Ok status)
      → IsServed asked (record { before = old; after = new }) log still writer sealed
      (Ok (Done status))
  served status told = (came, arrives, spoke, told)

  -- running out of memory for an arrival's reply
  ran_out : (b : Bool) → Told (bundle_to_log b came) (Err Memory)
      → RunsOut b asked (record { before = old; after = new }) log still writer sealed
  ran_out b told = by came b arrives told
    where
      by : (c : Arrival) (b : Bool) → Arrives asked.reach asked.known c
          → RepliesTo (bundle_to_log b c) asked.terms asked.now asked.words c
          (record { before = old; after = new }) log still writer sealed (Err Memory)
          → RunsOut b asked (record { before = old; after = new }) log still writer sealed
      by c false arrives told = (
        short_of asked.reach asked.terms asked.known asked.now asked.words
            c old new told.0 arrives told.1,
        told.2,
      )
      by (Exchange (Push sent)) true arrives told = inr (sent, arrives, told)
      by (Exchange (Pull pages sent)) true arrives told = inl (told.1, told.2)
      by (Exchange Vector) true arrives told = inl (told.1, told.2)
      by Silence true arrives told = inl (told.1, told.2)
      by (Refused why) true arrives told = inl (told.1, told.2)
      by (Request request) true arrives told = inl (told.1, told.2)
      by (Notice notice) true arrives told = inl (told.1, told.2)

  -- a request that ended with a fault was served so
  pub faulted : (fault : Fault) → Told (bundle_to_log asked.log_taken came) (Err fault)
      → IsServed asked (record { before = old; after = new }) log still writer sealed (Err fault)
  faulted Read told = absurd
      (no_read (bundle_to_log asked.log_taken came) asked.terms asked.now asked.words came
      (record { before = old; after = new }) log still writer sealed told)
  faulted Write told = (came, arrives, spoke, told)
  faulted Log told = (came, arrives, spoke, told)
  faulted Memory told = ran_out asked.log_taken told

-- a fault while replying isn't a read fault
pub unread : (sent : Option (List ℕ)) (terms : TermsFields) (now : ℕ) (words : List ℕ)
    (came : Arrival) (region : Step) (log : Change) (still : Type 0) (writer : Change)
    (sealed : Bool) (fault : Fault)
    → RepliesTo sent terms now words came region log still writer sealed (Err fault)
    → fails fault ≢ fails Read
unread sent terms now words came region log still writer sealed Read told =
    absurd (no_read sent terms now words came region log still writer sealed told)
unread sent terms now words came region log still writer sealed Write told = λ is. cc
unread sent terms now words came region log still writer sealed Log told = λ is. cc
unread sent terms now words came region log still writer sealed Memory told = λ is. cc

-- equal faults of a connection are equal faults of telling
pub faults_as : (fault other : Fault) → fails fault ≡ fails other
    → told_fault fault ≡ told_fault other
faults_as fault other is = cc
