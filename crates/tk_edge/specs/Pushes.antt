-- A pushed bundle, if taken bundles are logged (own).
--   bundle_to_log   the pushed bundle, if taken bundles are logged
--   kept_of         the record of a bundle, by the result of taking it in
--   TakesSent       the region's result for a bundle that was read
--   IsNews          the record of pushed bytes
--   TellsTaken      the reply to a push is written
--   LogsAndTells    the record is logged, and then the reply is written
--   TakesAndLogs    a pushed bundle is taken in, logged and replied to
use Rattle.std.specs.Prelude.{◌≡◌, ◌⊎◌, ℕ, Bool, true, false, List, [], Option, None, Some}
use Rattle.std.specs.Prelude.{Result, Ok, Err}
use Rattle.std.specs.Io.KnownBytes.{Appends, Keeps}
use Rattle.tk_put.specs.Put.{AppendsFront}
use Rattle.tk_handle.specs.declared.dot.Dot.{Dot}
use Rattle.tk_store.specs.StoreFields.{StoreFields}
use Rattle.tk_bundle.specs.BundleFields.{BundleFields}
use Rattle.tk_bundle.specs.Bundle.{bundle, bundle_bytes}
use Rattle.tk_bundle.specs.News.{news_of, record_of}
use Rattle.tk_message.specs.ReplyFields.{ReplyFields}
use Rattle.tk_message.specs.declared.status_code.StatusCode.{StatusCode}
use Rattle.tk_region.specs.RegionFields.{RegionFields}
use Rattle.tk_region.specs.Taking.{TakesIn}
use Rattle.tk_region.specs.declared.take.TakeError.{TakeError}
use Rattle.tk_region.specs.declared.take.TakeError.TheVariants as take
use Rattle.tk_edge.specs.Ahead.{lifted}
use Rattle.tk_edge.specs.Exchanges.{IsTakenReply, Pushes}
use Rattle.tk_edge.specs.Rendering.{reply_bytes}
use Rattle.tk_edge.specs.Terms.{TermsFields}
use Rattle.tk_edge.specs.Told.{Change}
use Rattle.tk_edge.specs.declared.ahead.PushError.{PushError}
use Rattle.tk_edge.specs.declared.ahead.PushError.TheVariants.{Take}
use Rattle.tk_edge.specs.declared.exchange.Exchange.TheVariants.{Push}
use Rattle.tk_edge.specs.declared.hear.Arrival.{Arrival}
use Rattle.tk_edge.specs.declared.hear.Arrival.TheVariants.{Exchange}
use Rattle.tk_edge.specs.declared.tell.Fault.{Fault}
use Rattle.tk_edge.specs.declared.tell.Fault.TheVariants.{Log, Memory, Write}

-- the pushed bundle, if taken bundles are logged
abbrev pub bundle_to_log : Bool → Arrival → Option (List ℕ)
bundle_to_log true (Exchange (Push bytes)) = Some bytes
bundle_to_log log_taken came = None

-- the record of a bundle, by the result of taking it in: a bundle that is refused has none, and one
-- may be in, in part, if memory ran out
abbrev pub kept_of : Result ℕ PushError → Option (List ℕ) → Option (List ℕ)
kept_of (Ok n) news = news
kept_of (Err (Take take.Memory)) news = news
kept_of (Err error) news = None

-- the region's result for a bundle that was read
abbrev pub TakesSent : StoreFields → Dot → BundleFields → Result ℕ PushError → StoreFields → Type 0
TakesSent P next b taken Q =
    (t : Result ℕ TakeError) × (taken ≡ lifted t) × TakesIn P next (Some b) t Q

-- the bytes are those of this bundle, and the record is what the region doesn't drop of it, if the
-- bundle changes the region; a record can be read
pub record IsNewsOf (old : RegionFields) (bytes : List ℕ) (taken : Result ℕ PushError)
    (logged : Option (List ℕ)) (b : BundleFields) : Type 0 where
  pub fits : bundle.Fits b
  pub spelled : bytes ≡ bundle_bytes b
  pub news : logged ≡ kept_of taken (record_of old.facts b)
  pub readable : bundle.Fits (news_of old.facts.slots b)

-- the record of pushed bytes: none if the region is unchanged, otherwise that of the bundle
abbrev pub IsNews : RegionFields → List ℕ → Result ℕ PushError → Option (List ℕ) → RegionFields
    → Type 0
IsNews old bytes taken logged new =
    ((logged ≡ None) × (new ≡ old)) ⊎ ((b : BundleFields) × IsNewsOf old bytes taken logged b)

-- the bytes that the log gains
abbrev pub logged_of : Option (List ℕ) → List ℕ
logged_of None = []
logged_of (Some bytes) = bytes

-- the reply to a push is written; if memory runs out, nothing is written
abbrev pub TellsTaken : Result ℕ PushError → Change → Result StatusCode Fault → Type 0
TellsTaken taken writer (Ok status) =
    (reply : ReplyFields) × IsTakenReply taken reply × (status ≡ reply.status)
    × Appends writer.before writer.after (reply_bytes reply None)
TellsTaken taken writer (Err Write) =
    (reply : ReplyFields) × IsTakenReply taken reply
    × AppendsFront writer.before writer.after (reply_bytes reply None)
TellsTaken taken writer (Err Memory) = Keeps writer.before writer.after
TellsTaken taken writer (Err fault) = ⊥

-- the log has a beginning of the record
abbrev pub IsBegun : Option (List ℕ) → Change → Type 0
IsBegun None log = ⊥
IsBegun (Some bytes) log = AppendsFront log.before log.after bytes

-- A record is logged, and then the reply is written. Log fault: the log has a beginning of the
-- record, the client nothing, and the edge is sealed. Without a record the log isn't called.
abbrev pub LogsAndTells : Option (List ℕ) → Result ℕ PushError → Change → Type 0 → Change → Bool
    → Result StatusCode Fault → Type 0
LogsAndTells logged taken log still writer sealed (Err Log) =
    IsBegun logged log × Keeps writer.before writer.after × (sealed ≡ true)
LogsAndTells logged taken log still writer sealed result =
    Appends log.before log.after (logged_of logged) × (logged ≡ None → still)
    × TellsTaken taken writer result × (sealed ≡ false)

-- A pushed bundle is taken in or refused. If it changes the region, the log gains its record before
-- the reply, and also if memory runs out.
abbrev pub TakesAndLogs : TermsFields → ℕ → List ℕ → RegionFields → RegionFields → Change → Type 0
    → Change → Bool → Result StatusCode Fault → Type 0
TakesAndLogs terms now bytes old new log still writer sealed result =
    (taken : Result ℕ PushError) × Pushes terms now old bytes taken new
    × (logged : Option (List ℕ)) × IsNews old bytes taken logged new
    × LogsAndTells logged taken log still writer sealed result
