use Rattle.std.proofs.Common.{◌≡◌, ◌≤◌, ℕ, None}
use Rattle.std.proofs.Common.{slice_index_or, vec_len}
use Rattle.tk_dots.proofs.slots.trim.Given as goal

abbrev pub invariant-loop-slots : goal.invariant-loop-slots
invariant-loop-slots g l = record {
  items : (j : ℕ) → slice_index_or l.slots.items j None ≡ slice_index_or l.fn.slots.items j None;
  len : vec_len l.slots ≤ vec_len l.fn.slots;
}

abbrev pub decreases-loop-slots : goal.decreases-loop-slots
decreases-loop-slots g l = vec_len l.slots
