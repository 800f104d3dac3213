use Rattle.std.proofs.Common.{◌≡◌, ◌≤◌, ◌-◌, length}
use Rattle.tk_turn.specs.Links.{withheld}
use Rattle.tk_turn.proofs.Places.{Changing}
use Rattle.tk_turn.proofs.turn.withhold_each.Given as goal

-- the connections at the places before this one are changed
abbrev pub invariant-places : goal.invariant-places
invariant-places l = record {
  within : l.at ≤ length l.places;
  many : length l.links.items ≡ length l.fn.links.items;
  changed : Changing withheld l.places l.fn.links.items l.at l.links.items;
}

abbrev pub decreases-places : goal.decreases-places
decreases-places l = length l.places - l.at
