-- What one connection writes to the log and to its client, in this order (own).
--   Change           what a device held before a call and after it
--   AnswerFields     what contracts see of an answer
--   IsTold           the record and then the reply were written
--   UsesLog          the log is called only for a record
--   IsFaultOfDevice  each fault is returned only if its device failed
use Rattle.std.specs.Prelude.{◌≡◌, ℕ, Bool, true, false, List, [], Option, Some, None, IsSome}
use Rattle.std.specs.Prelude.{Result, Ok, Err}
use Rattle.std.specs.Io.KnownBytes.{Appends, Keeps}
use Rattle.tk_put.specs.Put.{AppendsFront}
use Rattle.tk_message.specs.declared.status_code.StatusCode.{StatusCode}
use Rattle.tk_edge.specs.Failures.{Rose}
use Rattle.tk_edge.specs.declared.tell.Fault.{Fault}
use Rattle.tk_edge.specs.declared.tell.Fault.TheVariants.{Read, Write, Log, Memory}

-- what a device held before a call and after it
pub record Change : Type 0 where
  pub before : Option (List ℕ)
  pub after : Option (List ℕ)

-- an answer: the reply's status and bytes, and the record of the fact made, if any
pub record AnswerFields : Type 0 where
  pub status : StatusCode
  pub bytes : List ℕ
  pub logged : Option (List ℕ)

-- the bytes that the log gains
abbrev pub record_in : Option (List ℕ) → List ℕ
record_in None = []
record_in (Some bytes) = bytes

-- Success: the record and then the reply were written, and the edge isn't sealed. Log fault: the
-- log has a beginning of the record, the client nothing, and the edge is sealed. Write fault: the
-- log has the record, the client a beginning of the reply.
abbrev pub IsTold : AnswerFields → Change → Change → Bool → Result StatusCode Fault → Type 0
IsTold answer log writer sealed (Ok status) =
    (status ≡ answer.status) × Appends log.before log.after (record_in answer.logged)
    × Appends writer.before writer.after answer.bytes × (sealed ≡ false)
IsTold answer log writer sealed (Err Log) =
    AppendsFront log.before log.after (record_in answer.logged) × Keeps writer.before writer.after
    × (sealed ≡ true)
IsTold answer log writer sealed (Err Write) =
    Appends log.before log.after (record_in answer.logged)
    × AppendsFront writer.before writer.after answer.bytes × (sealed ≡ false)
IsTold answer log writer sealed (Err Read) = ⊥
IsTold answer log writer sealed (Err Memory) = ⊥

-- The log is called only for a record. Without a record the whole device is as it was, which
-- `still` states, and no log fault is returned.
pub record UsesLog (answer : AnswerFields) (still : Type 0)
    (result : Result StatusCode Fault) : Type 0 where
  pub unused : answer.logged ≡ None → still
  pub fault : result ≡ Err Log → IsSome answer.logged

-- each fault is returned only if its device failed
pub record IsFaultOfDevice (result : Result StatusCode Fault)
    (log_old log_new writer_old writer_new : ℕ) : Type 0 where
  pub log : result ≡ Err Log → Rose log_old log_new
  pub writer : result ≡ Err Write → Rose writer_old writer_new
