-- What a connection leaves of a region. Key results:
--   served_grows   a connection leaves what the region knew
--   served_less    a log that is unchanged, by less than the whole of it
use Rattle.std.proofs.Common.{ℕ, Bool, true, false, List, Option, Some, None, Result, Ok, Err, inl}
use Rattle.std.proofs.Common.{inr}
use Rattle.tk_region.specs.RegionFields.{RegionFields}
use Rattle.tk_edge.specs.Answers.{fact_by}
use Rattle.tk_edge.specs.Arrivals.{Answers, IsShort}
use Rattle.tk_edge.specs.Pushes.{LogsAndTells, TakesAndLogs, bundle_to_log}
use Rattle.tk_edge.specs.Served.{Asked, IsServed, RepliesTo, RunsOut, Step, WritesNothing}
use Rattle.tk_edge.specs.Terms.{TermsFields}
use Rattle.tk_edge.specs.Told.{AnswerFields, Change, UsesLog}
use Rattle.tk_message.specs.declared.status_code.StatusCode.{StatusCode}
use Rattle.tk_edge.specs.declared.ahead.PushError.{PushError}
use Rattle.tk_edge.specs.declared.exchange.Exchange.TheVariants.{Vector, Pull, Push}
use Rattle.tk_edge.specs.declared.hear.Arrival.{Arrival}
use Rattle.tk_edge.specs.declared.hear.Arrival.TheVariants.{Exchange}
use Rattle.tk_edge.specs.declared.edge.Served.{Served}
use Rattle.tk_edge.specs.declared.reach.Reach.{Reach}
use Rattle.tk_edge.specs.declared.edge.Served.TheVariants.{Nothing, Done}
use Rattle.tk_edge.specs.declared.tell.Fault.{Fault}
use Rattle.tk_edge.specs.declared.tell.Fault.TheVariants.{Read, Write, Log, Memory}
use Rattle.tokend.specs.Growing.{Grows}
use Rattle.tokend.proofs.Growing.{grows_same, made_grows, pushed_grows}

-- a request that was answered leaves what the region knew
answered_grows : (terms : TermsFields) (now : ℕ) (words : List ℕ) (came : Arrival)
    (answer : AnswerFields) (old new : RegionFields)
    → Answers terms old now words came (Ok answer) new → Grows old new
answered_grows terms now words (Exchange Vector) answer old new h = grows_same old new h.1
answered_grows terms now words (Exchange (Pull pages sent)) answer old new h =
    grows_same old new h.1
answered_grows terms now words (Exchange (Push sent)) answer old new h =
    pushed_grows terms now old new sent h.0 h.1
answered_grows terms now words came answer old new h =
    made_grows old new (fact_by old now words came) h.1 h.2

-- a region that is unchanged, or has some facts of a pushed bundle, knows what it knew
short_grows : (reach : Reach) (terms : TermsFields) (now : ℕ) (known : Option (List ℕ))
    (old new : RegionFields)
    → IsShort reach terms now known old new → Grows old new
short_grows reach terms now known old new (inl same) = grows_same old new same
short_grows reach terms now known old new (inr h) = pushed_grows terms now old new h.0 h.2 h.3

-- a connection for which memory ran out leaves what the region knew
runs_out_grows : (b : Bool) (asked : Asked) (old new : RegionFields) (log : Change) (still : Type 0)
    (writer : Change) (sealed : Bool)
    → RunsOut b asked (record { before = old; after = new }) log still writer sealed → Grows old new
runs_out_grows false asked old new log still writer sealed h =
    short_grows asked.reach asked.terms asked.now asked.known old new h.0
runs_out_grows true asked old new log still writer sealed (inl h) = grows_same old new h.0
runs_out_grows true asked old new log still writer sealed (inr h) =
    pushed_grows asked.terms asked.now old new h.0 h.2.0 h.2.1

-- a connection leaves what the region knew
module _ (asked : Asked) (old new : RegionFields) (log : Change) (still : Type 0) (writer : Change)
    (sealed : Bool) where
  -- the reply to what came has this result
  abbrev Replied : Option (List ℕ) → Arrival → Result StatusCode Fault → Type 0
  Replied sent came result = RepliesTo sent asked.terms asked.now asked.words came
      (record { before = old; after = new }) log still writer sealed result

  -- a reply leaves what the region knew, if each reply without a bundle does
  replied_grows : (sent : Option (List ℕ)) (came : Arrival) (result : Result StatusCode Fault)
      → ((h : Replied None came result) → Grows old new) → Replied sent came result → Grows old new
  replied_grows None came result f h = f h
  replied_grows (Some bytes) came result f h =
      pushed_grows asked.terms asked.now old new bytes h.0 h.1

  -- a region only grows by a request that is served
  pub served_grows : (result : Result Served Fault)
      → IsServed asked (record { before = old; after = new }) log still writer sealed result
      → Grows old new
  served_grows (Ok (Done status)) h =
      replied_grows (bundle_to_log asked.log_taken h.0) h.0 (Ok status)
      (λ k. answered_grows asked.terms asked.now asked.words h.0 k.0 old new k.1) h.3
  served_grows (Ok Nothing) h = grows_same old new h.1.0
  served_grows (Err Log) h =
      replied_grows (bundle_to_log asked.log_taken h.0) h.0 (Err Log)
      (λ k. answered_grows asked.terms asked.now asked.words h.0 k.0 old new k.1) h.3
  served_grows (Err Write) h =
      replied_grows (bundle_to_log asked.log_taken h.0) h.0 (Err Write)
      (λ k. answered_grows asked.terms asked.now asked.words h.0 k.0 old new k.1) h.3
  served_grows (Err Read) h = grows_same old new h.0
  served_grows (Err Memory) h =
      runs_out_grows asked.log_taken asked old new log still writer sealed h

-- ---- a log that is unchanged, by less than the whole of it

-- a reply that used the log did what follows from what it did
pub uses_less : (P Q : Type 0) (answer : AnswerFields) (result : Result StatusCode Fault) → (P → Q)
    → UsesLog answer P result → UsesLog answer Q result
uses_less P Q answer result f h = record { unused = λ none. f (h.unused none); fault = h.fault }

-- a reply that wrote nothing to the log left what follows from what it left
pub writes_less : (P Q : Type 0) (log writer : Change) (sealed : Bool) → (P → Q)
    → WritesNothing log P writer sealed → WritesNothing log Q writer sealed
writes_less P Q log writer sealed f h = (h.0, h.1, h.2, f h.3)

-- a push whose record was logged, if any, left what follows from what it left
logs_less : (P Q : Type 0) (logged : Option (List ℕ)) (taken : Result ℕ PushError)
    (log writer : Change) (sealed : Bool) (result : Result StatusCode Fault)
    → (P → Q)
    → LogsAndTells logged taken log P writer sealed result
    → LogsAndTells logged taken log Q writer sealed result
logs_less P Q logged taken log writer sealed (Ok status) f h = (h.0, λ none. f (h.1 none), h.2, h.3)
logs_less P Q logged taken log writer sealed (Err Log) f h = h
logs_less P Q logged taken log writer sealed (Err Write) f h = (h.0, λ none. f (h.1 none), h.2, h.3)
logs_less P Q logged taken log writer sealed (Err Read) f h = (h.0, λ none. f (h.1 none), h.2, h.3)
logs_less P Q logged taken log writer sealed (Err Memory) f h =
    (h.0, λ none. f (h.1 none), h.2, h.3)

-- a push that was taken in and logged left what follows from what it left
takes_less : (P Q : Type 0) (terms : TermsFields) (now : ℕ) (bytes : List ℕ)
    (old new : RegionFields) (log writer : Change) (sealed : Bool)
    (result : Result StatusCode Fault)
    → (P → Q)
    → TakesAndLogs terms now bytes old new log P writer sealed result
    → TakesAndLogs terms now bytes old new log Q writer sealed result
takes_less P Q terms now bytes old new log writer sealed result f h =
    (h.0, h.1, h.2, h.3, logs_less P Q h.2 h.0 log writer sealed result f h.4)

-- a request with a reply left what follows from what it left
replied_less : (P Q : Type 0) (sent : Option (List ℕ)) (terms : TermsFields) (now : ℕ)
    (words : List ℕ) (came : Arrival) (region : Step) (log writer : Change) (sealed : Bool)
    (result : Result StatusCode Fault) → (P → Q)
    → RepliesTo sent terms now words came region log P writer sealed result
    → RepliesTo sent terms now words came region log Q writer sealed result
replied_less P Q (Some bytes) terms now words came region log writer sealed result f h =
    takes_less P Q terms now bytes region.before region.after log writer sealed result f h
replied_less P Q None terms now words came region log writer sealed (Ok status) f h =
    (h.0, h.1, h.2, uses_less P Q h.0 (Ok status) f h.3, h.4)
replied_less P Q None terms now words came region log writer sealed (Err Log) f h =
    (h.0, h.1, h.2, uses_less P Q h.0 (Err Log) f h.3, h.4)
replied_less P Q None terms now words came region log writer sealed (Err Write) f h =
    (h.0, h.1, h.2, uses_less P Q h.0 (Err Write) f h.3, h.4)
replied_less P Q None terms now words came region log writer sealed (Err Read) f h = h
replied_less P Q None terms now words came region log writer sealed (Err Memory) f h =
    (h.0, h.1, writes_less P Q log writer sealed f h.2)

-- a connection for which memory ran out left what follows from what it left
runs_out_less : (P Q : Type 0) (b : Bool) (asked : Asked) (region : Step) (log writer : Change)
    (sealed : Bool)
    → (P → Q)
    → RunsOut b asked region log P writer sealed → RunsOut b asked region log Q writer sealed
runs_out_less P Q false asked region log writer sealed f h =
    (h.0, writes_less P Q log writer sealed f h.1)
runs_out_less P Q true asked region log writer sealed f (inl h) =
    inl (h.0, writes_less P Q log writer sealed f h.1)
runs_out_less P Q true asked region log writer sealed f (inr h) =
    inr (
      h.0,
      h.1,
      takes_less P Q asked.terms asked.now h.0 region.before region.after log writer sealed
          (Err Memory) f h.2,
    )

-- a request that was served left what follows from what it left
pub served_less : (P Q : Type 0) (asked : Asked) (region : Step) (log writer : Change)
    (sealed : Bool) (result : Result Served Fault)
    → (P → Q)
    → IsServed asked region log P writer sealed result
    → IsServed asked region log Q writer sealed result
served_less P Q asked region log writer sealed (Ok (Done status)) f h = (
  h.0,
  h.1,
  h.2,
  replied_less P Q (bundle_to_log asked.log_taken h.0) asked.terms asked.now asked.words h.0
      region log writer sealed (Ok status) f h.3,
)
served_less P Q asked region log writer sealed (Ok Nothing) f h =
    (h.0, (h.1.0, writes_less P Q log writer sealed f h.1.1))
served_less P Q asked region log writer sealed (Err Log) f h = (
  h.0,
  h.1,
  h.2,
  replied_less P Q (bundle_to_log asked.log_taken h.0) asked.terms asked.now asked.words h.0
      region log writer sealed (Err Log) f h.3,
)
served_less P Q asked region log writer sealed (Err Write) f h = (
  h.0,
  h.1,
  h.2,
  replied_less P Q (bundle_to_log asked.log_taken h.0) asked.terms asked.now asked.words h.0
      region log writer sealed (Err Write) f h.3,
)
served_less P Q asked region log writer sealed (Err Read) f h =
    (h.0, writes_less P Q log writer sealed f h.1)
served_less P Q asked region log writer sealed (Err Memory) f h =
    runs_out_less P Q asked.log_taken asked region log writer sealed f h
