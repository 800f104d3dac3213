-- What a connection by a socket of `loopback` does to an edge (own): the bytes that came over it
-- are served as the front of a stream that then ends.
--   end_of          how a connection ended whose client has ended its side
--   IsConnection    a connection, at a moment and with six random words, by its result
use Rattle.std.specs.Prelude.{◌≡◌, ⊤, ℕ, true, false, List, Option, None, Some, Result, Ok, Err}
use Rattle.tk_edge.specs.EdgeFields.{EdgeFields}
use Rattle.tk_edge.specs.Served.{IsServed}
use Rattle.tk_edge.specs.Told.{Change}
use Rattle.tk_edge.specs.declared.edge.Served.{Served}
use Rattle.tk_edge.specs.declared.front.Taken.{Taken}
use Rattle.tk_edge.specs.Paths.{plain}
use Rattle.tk_edge.specs.declared.reach.PathSet.TheVariants.{Admin}
use Rattle.tk_edge.specs.declared.tell.Fault.{Fault}
use Rattle.tk_edge.specs.declared.tell.Fault.TheVariants.{Read}

-- the change of a log that keeps nothing
abbrev pub unlogged : Change
unlogged = record { before = None; after = None }

-- how a connection ended whose client has ended its side
abbrev pub end_of : Result (Option (Served × Taken)) Fault → Result Served Fault
end_of (Ok (Some end)) = Ok end.0
end_of (Ok None) = Err Read
end_of (Err fault) = Err fault

-- an edge that isn't sealed serves the bytes of the connection; a sealed edge stays unchanged
pub record IsConnection (now : ℕ) (words bytes : List ℕ) (old new : EdgeFields)
    (result : Result Served Fault) : Type 0 where
  pub served : old.sealed ≡ false
      → (reply : Change) × IsServed (record {
        reach = plain Admin;
        terms = old.terms;
        log_taken = false;
        known = Some bytes;
        now = now;
        words = words;
      })
      (record { before = old.region; after = new.region }) unlogged ⊤ reply new.sealed result
  pub shut : old.sealed ≡ true → new ≡ old
  pub terms : new.terms ≡ old.terms
