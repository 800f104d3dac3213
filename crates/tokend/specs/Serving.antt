-- What a service prints before its first connection, and what may prevent it (own).
--   announced            the lines of the dropped bytes, if there are any, of the prune, if there
--                        was one, and of the sockets
--   Announces            the announcement was written
--   BeginsAnnouncement   a beginning of a service's announcement was written
--   connection_fault     the line about a connection that ended in a fault
--   IsFileFault          the faults of a service's files
--   IsServiceFault       the faults of a service before its first connection
--   LeavesService        what such a fault leaves of the output
use Rattle.std.specs.Prelude.{
  ◌≡◌,
  ◌≢◌,
  ◌⊎◌,
  ⊤,
  ℕ,
  ◌==◌,
  List,
  [],
  ◌∷◌,
  ◌++◌,
  Option,
  Some,
  None,
  IsSome,
  is_some,
  Ok,
  String,
  string_bytes,
  codes,
  decimal,
  if◌then◌else◌,
  true,
}
use Rattle.std.specs.Io.KnownBytes.{Appends}
use Rattle.tk_put.specs.Put.{AppendsFront}
use Rattle.tk_edge.specs.declared.tell.Fault.{Fault as EdgeFault}
use Rattle.tk_edge.specs.declared.tell.Fault.TheVariants as edge
use Rattle.tk_region.specs.RegionFields.{RegionFields}
use Rattle.tokend.specs.Starting.{LoadsOld}
use Rattle.tokend.specs.Status.{LeavesBegun}
use Rattle.tokend.specs.declared.address.Address.{Address}
use Rattle.tokend.specs.declared.address.Address.TheVariants.{Port, Socket}
use Rattle.tokend.specs.declared.address.Addresses.{Addresses}
use Rattle.tokend.specs.declared.fault.Fault.{Fault}
use Rattle.tokend.specs.declared.fault.Fault.TheVariants.{
  BadLogFile,
  BadSeedFile,
  CannotListen,
  CannotOpen,
  CannotReadFile,
  Memory,
  Output,
  PruneAhead,
  SharedFolder,
  SocketInUse,
}
use Rattle.tokend.specs.declared.listen.Opening.{Opening}
use Rattle.tokend.specs.declared.options.Service.{Service}

-- the line of the port
abbrev pub listening_line : ℕ → List ℕ
listening_line port = codes "listening 127.0.0.1:" ++ (decimal port ++ 10 ∷ [])

-- the line of some dropped bytes
abbrev pub dropped_bytes : ℕ → List ℕ
dropped_bytes n = codes "dropped " ++ (decimal n ++ (codes " bytes" ++ 10 ∷ []))

-- the line of the dropped bytes, if there are any
abbrev pub dropped_line : ℕ → List ℕ
dropped_line dropped = if dropped == 0 then [] else dropped_bytes dropped

-- the line of a prune that took some facts
abbrev pub pruned_facts : ℕ → List ℕ
pruned_facts n = codes "pruned " ++ (decimal n ++ 10 ∷ [])

-- the line of the prune, if there was one
abbrev pub pruned_line : Option ℕ → List ℕ
pruned_line None = []
pruned_line (Some n) = pruned_facts n

-- the line of a Unix socket
abbrev pub listening_at : List ℕ → List ℕ
listening_at path = codes "listening unix:" ++ (path ++ 10 ∷ [])

-- the line of the outer socket; the port is unused for a Unix socket
abbrev pub outer_line : Address → ℕ → List ℕ
outer_line (Port asked) port = listening_line port
outer_line (Socket path) port = listening_at (string_bytes path)

-- the line of the inner socket, if there is one
abbrev pub inner_line : {A : Type 0} → Option (String A) → List ℕ
inner_line None = []
inner_line (Some path) = codes "inner unix:" ++ (string_bytes path ++ 10 ∷ [])

-- the announcement: the lines of the dropped bytes, of the prune, and of the sockets
abbrev pub announced : Opening → Addresses → ℕ → List ℕ
announced opening at port =
    dropped_line opening.dropped
    ++ (pruned_line opening.pruned ++ (inner_line at.inner ++ outer_line at.outer port))

-- the port is the requested one, or any free one if that is 0; a Unix socket has none
abbrev pub IsListenedOn : Address → ℕ → Type 0
IsListenedOn (Port asked) port = asked ≢ 0 → port ≡ asked
IsListenedOn (Socket path) port = ⊤

-- the announcement of an opening and of these sockets was written
abbrev pub Announces : Opening → Addresses → Option (List ℕ) → Option (List ℕ) → Type 0
Announces opening at old new =
    (port : ℕ) × IsListenedOn at.outer port × Appends old new (announced opening at port)

-- a beginning of the announcement of an opening and of these sockets was written
abbrev pub BeginsToAnnounce : Opening → Addresses → Option (List ℕ) → Option (List ℕ) → Type 0
BeginsToAnnounce opening at old new =
    (port : ℕ) × IsListenedOn at.outer port × AppendsFront old new (announced opening at port)

-- a beginning of a service's announcement was written, with these dropped bytes; a prune is
-- announced exactly if one was requested
abbrev pub BeginsOpening : Service → ℕ → Option (List ℕ) → Option (List ℕ) → Type 0
BeginsOpening service dropped old new =
    (pruned : Option ℕ) × (is_some pruned ≡ is_some service.files.prune)
    × BeginsToAnnounce (record { dropped = dropped; pruned = pruned }) service.at old new

-- a beginning of the announcement was written of a service that began with this region; the dropped
-- bytes are those of its old log
abbrev pub BeginsAnnouncement : (List ℕ → Option (List ℕ)) → Service → RegionFields
    → Option (List ℕ) → Option (List ℕ) → Type 0
BeginsAnnouncement kept service start old new =
    (dropped : ℕ) × (region : RegionFields)
    × LoadsOld kept service.files.load start (Ok dropped) region
    × BeginsOpening service dropped old new

-- the line about a connection that ended in a fault
abbrev pub connection_fault : EdgeFault → List ℕ
connection_fault edge.Read = codes "fault read" ++ 10 ∷ []
connection_fault edge.Write = codes "fault write" ++ 10 ∷ []
connection_fault edge.Log = codes "fault log" ++ 10 ∷ []
connection_fault edge.Memory = codes "fault memory" ++ 10 ∷ []

-- the name is that of the file, if there is one
abbrev pub IsNameOf : {A : Type 0} → Option (String A) → List ℕ → Type 0
IsNameOf None name = ⊥
IsNameOf (Some file) name = string_bytes file ≡ name

-- the faults of the seed file of this name
abbrev pub IsSeedFault : List ℕ → Fault → Type 0
IsSeedFault name Memory = ⊤
IsSeedFault name (CannotReadFile file) = string_bytes file ≡ name
IsSeedFault name BadSeedFile = ⊤
IsSeedFault name fault = ⊥

-- the faults of the new log of this name
abbrev pub IsLogFault : List ℕ → Fault → Type 0
IsLogFault name Memory = ⊤
IsLogFault name (CannotOpen file) = string_bytes file ≡ name
IsLogFault name BadLogFile = ⊤
IsLogFault name fault = ⊥

-- the faults of a service's files, which name the file
abbrev pub IsFileFault : Service → Fault → Type 0
IsFileFault service Memory = ⊤
IsFileFault service (CannotReadFile file) =
    (string_bytes file ≡ string_bytes service.files.seed)
    ⊎ IsNameOf service.files.load (string_bytes file)
IsFileFault service (CannotOpen file) = IsNameOf service.files.log (string_bytes file)
IsFileFault service BadSeedFile = ⊤
IsFileFault service BadLogFile = IsSome service.files.load ⊎ IsSome service.files.log
IsFileFault service fault = ⊥

-- the faults of making a socket
abbrev pub IsBindFault : Fault → Type 0
IsBindFault CannotListen = ⊤
IsBindFault SharedFolder = ⊤
IsBindFault SocketInUse = ⊤
IsBindFault fault = ⊥

-- the faults of the sockets, of memory for their connections, and of the output
abbrev pub IsListenFault : Fault → Type 0
IsListenFault CannotListen = ⊤
IsListenFault SharedFolder = ⊤
IsListenFault SocketInUse = ⊤
IsListenFault Memory = ⊤
IsListenFault Output = ⊤
IsListenFault fault = ⊥

-- the faults of the new log, the sockets and the output
abbrev pub IsStartFault : Service → Fault → Type 0
IsStartFault service CannotListen = ⊤
IsStartFault service SharedFolder = ⊤
IsStartFault service SocketInUse = ⊤
IsStartFault service Output = ⊤
IsStartFault service Memory = ⊤
IsStartFault service (CannotOpen file) = IsNameOf service.files.log (string_bytes file)
IsStartFault service BadLogFile = IsSome service.files.log
IsStartFault service fault = ⊥

-- the faults of a service before its first connection: of its sockets, its prune, the output or a
-- file
abbrev pub IsServiceFault : Service → Fault → Type 0
IsServiceFault service CannotListen = ⊤
IsServiceFault service SharedFolder = ⊤
IsServiceFault service SocketInUse = ⊤
IsServiceFault service PruneAhead =
    (service.pushes.refuses_ahead ≡ true) × IsSome service.files.prune
IsServiceFault service Output = ⊤
IsServiceFault service fault = IsFileFault service fault

-- the output that failed has a beginning of the announcement; other faults leave the output
-- unchanged
abbrev pub LeavesAnnouncement : Opening → Addresses → Fault → Option (List ℕ) → Option (List ℕ)
    → Type 0
LeavesAnnouncement opening at fault old new =
    LeavesBegun (BeginsToAnnounce opening at old new) fault old new

-- the output that failed has a beginning of the service's announcement with these dropped bytes;
-- other faults leave the output unchanged
abbrev pub LeavesOpening : Service → ℕ → Fault → Option (List ℕ) → Option (List ℕ) → Type 0
LeavesOpening service dropped fault old new =
    LeavesBegun (BeginsOpening service dropped old new) fault old new

-- the output that failed has a beginning of the service's announcement; other faults leave the
-- output unchanged
abbrev pub LeavesService : (List ℕ → Option (List ℕ)) → Service → RegionFields → Fault
    → Option (List ℕ) → Option (List ℕ) → Type 0
LeavesService kept service start fault old new =
    LeavesBegun (BeginsAnnouncement kept service start old new) fault old new
