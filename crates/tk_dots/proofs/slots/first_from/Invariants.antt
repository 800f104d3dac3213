use Rattle.std.proofs.Common.{◌≡◌, ◌<◌, ◌≤◌, ℕ, None}
use Rattle.std.proofs.Common.{slice_index_or}
use Rattle.tk_dots.proofs.slots.first_from.Given as goal

abbrev pub invariant-loop-at : goal.invariant-loop-at
invariant-loop-at g l = (j : ℕ) → l.from ≤ j → j < l.at → slice_index_or l.slots.items j None ≡ None
