-- What serving the front of a connection's bytes does (own).
--   asked_by            the connection with the bytes that have come and what follows them
--   IsFrontServed       what an edge that isn't sealed does, by its result
--   IsFrontTurnedAway   what a sealed edge does
-- Throughout, `still` is the statement that the log is as it was before, because no call reached
-- it.
use Rattle.std.specs.Prelude.{◌≡◌, ℕ, Bool, false, List, ◌++◌, length, Option, None, Some}
use Rattle.std.specs.Prelude.{Result, Ok, Err}
use Rattle.tk_edge.specs.Fronts.{Follows, HasCome, IsPartial}
use Rattle.tk_edge.specs.Served.{Asked, IsServed, IsTurnedAway, IsUntouched, Step}
use Rattle.tk_edge.specs.Told.{Change}
use Rattle.tk_edge.specs.declared.edge.Served.{Served}
use Rattle.tk_edge.specs.declared.front.Taken.{Taken}
use Rattle.tk_edge.specs.declared.hear.Arrival.{Arrival}
use Rattle.tk_edge.specs.declared.tell.Fault.{Fault}

-- the connection with the bytes that have come, and with what follows them
abbrev pub asked_by : Asked → List ℕ → List ℕ → Asked
asked_by asked bytes tail = record {
  reach = asked.reach;
  terms = asked.terms;
  log_taken = asked.log_taken;
  known = Some (bytes ++ tail);
  now = asked.now;
  words = asked.words;
}

-- whatever follows the bytes, the connection is served as one whose stream is all of them
abbrev pub IsServedBy : Asked → List ℕ → Bool → Step → Change → Type 0 → Change → Bool
    → Result Served Fault → Type 0
IsServedBy asked bytes over region log still writer sealed result =
    (tail : List ℕ) → Follows over tail
    → IsServed (asked_by asked bytes tail) region log still writer sealed result

-- What serving the front of a connection's bytes does: no request is whole and nothing changed; or
-- what came is served, and takes its bytes; or a fault.
abbrev pub IsFrontServed : Asked → List ℕ → Bool → Step → Change → Type 0 → Change → Bool
    → Result (Option (Served × Taken)) Fault → Type 0
IsFrontServed asked bytes over region log still writer sealed (Ok None) =
    IsPartial asked.reach bytes over × IsUntouched region log still writer sealed
IsFrontServed asked bytes over region log still writer sealed (Ok (Some end)) =
    ((came : Arrival) × HasCome asked.reach bytes over came end.1)
    × IsServedBy asked bytes over region log still writer sealed (Ok end.0)
IsFrontServed asked bytes over region log still writer sealed (Err fault) =
    IsServedBy asked bytes over region log still writer sealed (Err fault)

-- what a sealed edge does: the reply is that of `Sealed`, all bytes are taken, and the connection
-- ends
abbrev pub IsFrontTurnedAway : List ℕ → Change → Result (Option (Served × Taken)) Fault → Type 0
IsFrontTurnedAway bytes writer (Ok None) = ⊥
IsFrontTurnedAway bytes writer (Ok (Some end)) =
    (end.1 ≡ record { size = length bytes; stays = false; path = None })
    × IsTurnedAway writer (Ok end.0)
IsFrontTurnedAway bytes writer (Err fault) = IsTurnedAway writer (Err fault)
