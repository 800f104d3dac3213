-- One connection is one step, and the log is written before the reply (own).
--   Replies        how serving an arrival may end, unless it is a bundle to log
--   RepliesTo      how serving an arrival may end
--   IsServed       what a connection to an edge that isn't sealed does, by its result
--   IsTurnedAway   what a connection to a sealed edge does
-- Throughout, `still` is the statement that the log is as it was before, because no call reached
-- it.
use Rattle.std.specs.Prelude.{◌≡◌, ◌≢◌, ◌⊎◌, ℕ, Bool, true, false, List, [], Option, None, Some}
use Rattle.std.specs.Prelude.{IfSome, Result, Ok, Err}
use Rattle.std.specs.declared.alloc.AllocError.{AllocError}
use Rattle.std.specs.Io.KnownBytes.{Appends, Keeps}
use Rattle.tk_put.specs.Put.{AppendsFront}
use Rattle.tk_message.specs.declared.status_code.StatusCode.{StatusCode}
use Rattle.tk_region.specs.RegionFields.{RegionFields}
use Rattle.tk_edge.specs.Answers.{fact_by, IsRecorded, refused_by}
use Rattle.tk_edge.specs.Arrivals.{Answers, IsShort}
use Rattle.tk_edge.specs.Heard.{Arrives}
use Rattle.tk_edge.specs.Pushes.{TakesAndLogs, bundle_to_log}
use Rattle.tk_edge.specs.Terms.{TermsFields}
use Rattle.tk_edge.specs.Told.{AnswerFields, Change, IsTold, UsesLog}
use Rattle.tk_edge.specs.declared.edge.Served.{Served}
use Rattle.tk_edge.specs.declared.edge.Served.TheVariants.{Nothing, Done}
use Rattle.tk_edge.specs.declared.hear.Arrival.{Arrival}
use Rattle.tk_edge.specs.declared.exchange.Exchange.TheVariants.{Push}
use Rattle.tk_edge.specs.declared.hear.Arrival.TheVariants.{Exchange, Silence}
use Rattle.tk_edge.specs.declared.reach.Reach.{Reach}
use Rattle.tk_edge.specs.declared.refusal.Refusal.TheVariants.{Sealed}
use Rattle.tk_edge.specs.declared.tell.Fault.{Fault}
use Rattle.tk_edge.specs.declared.tell.Fault.TheVariants.{Read, Write, Log, Memory}

-- a connection: which paths are served, the terms of a push, whether taken bundles are logged, its
-- bytes, if known, the moment, and the random words
pub record Asked : Type 0 where
  pub reach : Reach
  pub terms : TermsFields
  pub log_taken : Bool
  pub known : Option (List ℕ)
  pub now : ℕ
  pub words : List ℕ

-- a region before a step and after it
pub record Step : Type 0 where
  pub before : RegionFields
  pub after : RegionFields

-- nothing was written, no call reached the log, and the edge isn't sealed
abbrev pub WritesNothing : Change → Type 0 → Change → Bool → Type 0
WritesNothing log still writer sealed =
    Keeps log.before log.after × Keeps writer.before writer.after × (sealed ≡ false) × still

-- the region is unchanged and nothing was written
abbrev pub IsUntouched : Step → Change → Type 0 → Change → Bool → Type 0
IsUntouched region log still writer sealed =
    (region.after ≡ region.before) × WritesNothing log still writer sealed

-- the arrival is answered at the moment and with the random words: its facts are added, and the
-- record, which can be read, and the reply are written
abbrev pub AnswersAndTells : TermsFields → ℕ → List ℕ → Arrival → Step → Change → Type 0 → Change
    → Bool → Result StatusCode Fault → Type 0
AnswersAndTells terms now words came region log still writer sealed result =
    (answer : AnswerFields) × Answers terms region.before now words came (Ok answer) region.after
    × IsTold answer log writer sealed result × UsesLog answer still result
    × IfSome (fact_by region.before now words came) IsRecorded

-- how serving an arrival may end, unless it is a bundle to log; if memory runs out, nothing is
-- written
abbrev pub Replies : TermsFields → ℕ → List ℕ → Arrival → Step → Change → Type 0 → Change → Bool
    → Result StatusCode Fault → Type 0
Replies terms now words came region log still writer sealed (Ok status) =
    AnswersAndTells terms now words came region log still writer sealed (Ok status)
Replies terms now words came region log still writer sealed (Err Read) = ⊥
Replies terms now words came region log still writer sealed (Err Write) =
    AnswersAndTells terms now words came region log still writer sealed (Err Write)
Replies terms now words came region log still writer sealed (Err Log) =
    AnswersAndTells terms now words came region log still writer sealed (Err Log)
Replies terms now words came region log still writer sealed (Err Memory) =
    (e : AllocError) × Answers terms region.before now words came (Err e) region.after
    × WritesNothing log still writer sealed

-- how serving an arrival may end, with the pushed bundle if taken bundles are logged
abbrev pub RepliesTo : Option (List ℕ) → TermsFields → ℕ → List ℕ → Arrival → Step → Change → Type 0
    → Change → Bool → Result StatusCode Fault → Type 0
RepliesTo None terms now words came region log still writer sealed result =
    Replies terms now words came region log still writer sealed result
RepliesTo (Some bytes) terms now words came region log still writer sealed result =
    TakesAndLogs terms now bytes region.before region.after log still writer sealed result

-- some arrival that the client may send, which isn't silence, is answered and the reply is written
abbrev pub IsAnswered : Asked → Step → Change → Type 0 → Change → Bool → Result StatusCode Fault
    → Type 0
IsAnswered asked region log still writer sealed result =
    (came : Arrival) × Arrives asked.reach asked.known came × (came ≢ Silence)
    × RepliesTo (bundle_to_log asked.log_taken came) asked.terms asked.now asked.words came
    region log still writer sealed result

-- Memory ran out, and nothing is written. If taken bundles are logged, either nothing was changed,
-- or a bundle was pushed and the log has it if its facts may be new.
abbrev pub RunsOut : Bool → Asked → Step → Change → Type 0 → Change → Bool → Type 0
RunsOut false asked region log still writer sealed =
    IsShort asked.reach asked.terms asked.now asked.known region.before region.after
    × WritesNothing log still writer sealed
RunsOut true asked region log still writer sealed =
    IsUntouched region log still writer sealed
    ⊎ ((sent : List ℕ) × Arrives asked.reach asked.known (Exchange (Push sent))
    × TakesAndLogs asked.terms asked.now sent region.before region.after log still writer
    sealed (Err Memory))

-- what a connection to an edge that isn't sealed does, by its result
abbrev pub IsServed : Asked → Step → Change → Type 0 → Change → Bool → Result Served Fault → Type 0
IsServed asked region log still writer sealed (Ok (Done status)) =
    IsAnswered asked region log still writer sealed (Ok status)
IsServed asked region log still writer sealed (Ok Nothing) =
    ((bytes : List ℕ) → asked.known ≡ Some bytes → bytes ≡ [])
    × IsUntouched region log still writer sealed
IsServed asked region log still writer sealed (Err Log) =
    IsAnswered asked region log still writer sealed (Err Log)
IsServed asked region log still writer sealed (Err Write) =
    IsAnswered asked region log still writer sealed (Err Write)
IsServed asked region log still writer sealed (Err Read) =
    IsUntouched region log still writer sealed
IsServed asked region log still writer sealed (Err Memory) =
    RunsOut asked.log_taken asked region log still writer sealed

-- what a connection to a sealed edge does: the reply is that of `Sealed`, whatever the request
abbrev pub IsTurnedAway : Change → Result Served Fault → Type 0
IsTurnedAway writer (Ok (Done status)) =
    (status ≡ (refused_by Sealed).status)
    × Appends writer.before writer.after (refused_by Sealed).bytes
IsTurnedAway writer (Ok Nothing) = ⊥
IsTurnedAway writer (Err Write) = AppendsFront writer.before writer.after (refused_by Sealed).bytes
IsTurnedAway writer (Err Memory) = Keeps writer.before writer.after
IsTurnedAway writer (Err Read) = ⊥
IsTurnedAway writer (Err Log) = ⊥
