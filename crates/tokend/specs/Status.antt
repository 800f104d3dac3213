-- The faults of the program (own).
--   status_of     the exit status of a fault
--   facts_status  the exit status of a source whose facts weren't printed or loaded to its end
--   facts_text    the line of such a source
--   fault_text    the line of a fault
--   input_fault   the fault of an input that fails
--   LeavesBegun   what a fault leaves of the output
--   IsUnread      the fault of a file that can't be read, by its name
--   IsUnopened    the fault of a log that can't be opened, by its name
use Rattle.std.specs.Prelude.{
  ◌≡◌,
  ⊤,
  ℕ,
  string_bytes,
  List,
  [],
  ◌∷◌,
  ◌++◌,
  codes,
  decimal,
  Option,
  Some,
  None,
}
use Rattle.std.specs.Io.KnownBytes.{Keeps}
use Rattle.std.specs.declared.io.ErrorKind.{ErrorKind}
use Rattle.std.specs.declared.io.ErrorKind.TheVariants.{OutOfMemory}
use Rattle.tokend.specs.declared.fault.Fault.{Fault}
use Rattle.tokend.specs.declared.fault.Fault.TheVariants.{
  Arguments,
  CannotRead,
  CannotReadFile,
  CannotOpen,
  CannotListen,
  SharedFolder,
  SocketInUse,
  PruneAhead,
  SocketFailed,
  ScriptTooLong,
  BadLine,
  BadSeedFile,
  BadLogFile,
  Facts,
  Memory,
  Output,
}
use Rattle.tokend.specs.declared.fault.FactsFault.{FactsFault}
use Rattle.tokend.specs.declared.fault.FactsFault.TheVariants.{Malformed, Refused}
use Rattle.tokend.specs.declared.fault.FactsFault.TheVariants.{
  CannotReadFile as UnreadSource,
  Memory as NoMemory,
}

-- the exit status of a source whose facts weren't printed or loaded to its end: 2 if it is bad or
-- refused
abbrev pub facts_status : FactsFault → ℕ
facts_status (Malformed name offset) = 2
facts_status (Refused name offset) = 2
facts_status (UnreadSource name) = 1
facts_status NoMemory = 1

-- the exit status: 1 for memory and devices, 2 for arguments, scripts, seeds and logs, 3 for a
-- socket that another server has
abbrev pub status_of : Fault → ℕ
status_of (Arguments error) = 2
status_of ScriptTooLong = 2
status_of (BadLine number) = 2
status_of BadSeedFile = 2
status_of BadLogFile = 2
status_of CannotRead = 1
status_of (CannotReadFile name) = 1
status_of (CannotOpen name) = 1
status_of CannotListen = 1
status_of SharedFolder = 2
status_of SocketInUse = 3
status_of PruneAhead = 2
status_of SocketFailed = 1
status_of Memory = 1
status_of (Facts fault) = facts_status fault
status_of Output = 1

-- the fault of an input that fails, which may be out of memory, too
abbrev pub input_fault : ErrorKind → Fault
input_fault OutOfMemory = Memory
input_fault kind = CannotRead

-- the line of a source whose facts weren't printed or loaded to its end
abbrev pub facts_text : FactsFault → List ℕ
facts_text (Malformed name offset) =
    codes "tokend: bad bytes at "
    ++ (decimal offset ++ (codes " of " ++ (string_bytes name ++ 10 ∷ [])))
facts_text (Refused name offset) =
    codes "tokend: refused bundle at "
    ++ (decimal offset ++ (codes " of " ++ (string_bytes name ++ 10 ∷ [])))
facts_text (UnreadSource name) = codes "tokend: cannot read " ++ (string_bytes name ++ 10 ∷ [])
facts_text NoMemory = codes "tokend: memory" ++ 10 ∷ []

-- the line of a fault; clap writes the faults of arguments, and an output that failed has no line
abbrev pub fault_text : Fault → Option (List ℕ)
fault_text (Arguments error) = None
fault_text CannotRead = Some (codes "tokend: cannot read -" ++ 10 ∷ [])
fault_text (CannotReadFile name) =
    Some (codes "tokend: cannot read " ++ (string_bytes name ++ 10 ∷ []))
fault_text (CannotOpen name) = Some (codes "tokend: cannot open " ++ (string_bytes name ++ 10 ∷ []))
fault_text CannotListen = Some (codes "tokend: cannot listen" ++ 10 ∷ [])
fault_text SharedFolder = Some (codes "tokend: others may write the socket's folder" ++ 10 ∷ [])
fault_text SocketInUse = Some (codes "tokend: socket in use" ++ 10 ∷ [])
fault_text PruneAhead = Some (codes "tokend: prune later than the clock" ++ 10 ∷ [])
fault_text SocketFailed = Some (codes "tokend: socket failed" ++ 10 ∷ [])
fault_text BadSeedFile = Some (codes "tokend: bad seed file" ++ 10 ∷ [])
fault_text BadLogFile = Some (codes "tokend: bad log file" ++ 10 ∷ [])
fault_text ScriptTooLong = Some (codes "tokend: script too long" ++ 10 ∷ [])
fault_text (BadLine number) = Some (codes "tokend: bad line " ++ (decimal number ++ 10 ∷ []))
fault_text Memory = Some (codes "tokend: memory" ++ 10 ∷ [])
fault_text (Facts fault) = Some (facts_text fault)
fault_text Output = Some []

-- the output that failed has a beginning of what was to be written, by this statement, and so has
-- that of a source whose facts weren't printed to its end; other faults leave the output unchanged
abbrev pub LeavesBegun : Type 0 → Fault → Option (List ℕ) → Option (List ℕ) → Type 0
LeavesBegun begins Output old new = begins
LeavesBegun begins (Facts fault) old new = begins
LeavesBegun begins fault old new = Keeps old new

-- the fault of a file that can't be read: it names the file, unless there is no memory for the name
abbrev pub IsUnread : List ℕ → Fault → Type 0
IsUnread name (CannotReadFile text) = string_bytes text ≡ name
IsUnread name Memory = ⊤
IsUnread name fault = ⊥

-- the fault of a log that can't be opened: it names the log, unless there is no memory for the name
abbrev pub IsUnopened : List ℕ → Fault → Type 0
IsUnopened name (CannotOpen text) = string_bytes text ≡ name
IsUnopened name Memory = ⊤
IsUnopened name fault = ⊥
