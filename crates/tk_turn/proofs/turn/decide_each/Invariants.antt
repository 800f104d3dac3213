use Rattle.std.proofs.Common.{◌≡◌, ◌≤◌, ◌-◌, ◌++◌, ℕ, List, length}
use Rattle.tk_turn.proofs.Places.{Turning}
use Rattle.tk_turn.proofs.turn.decide_each.Given as goal

-- the connections at the places before this one are decided
abbrev pub invariant-places : goal.invariant-places
invariant-places g l = record {
  within : l.at ≤ length l.places;
  many : length l.links.items ≡ length l.fn.links.items;
  decided : (logged : List ℕ) × (l.records.items ≡ l.fn.records.items ++ logged)
      × Turning g.S.Service.decides l.places l.fn.service l.fn.links.items l.at l.service
      l.links.items
      logged;
}

abbrev pub decreases-places : goal.decreases-places
decreases-places g l = length l.places - l.at
