use Rattle.std.proofs.Common.{◌≡◌, ◌<◌, ◌≤◌, ◌-◌, ℕ, None}
use Rattle.std.proofs.Common.{slice_index_or, vec_len, vec_capacity}
use Rattle.tk_dots.proofs.slots.extend.Given as goal

abbrev pub invariant-loop-slots : goal.invariant-loop-slots
invariant-loop-slots g l = record {
  len : vec_len l.slots ≤ l.at;
  room : l.at < vec_capacity l.slots;
  items : (j : ℕ) → slice_index_or l.slots.items j None ≡ slice_index_or l.fn.slots.items j None;
}

abbrev pub decreases-loop-slots : goal.decreases-loop-slots
decreases-loop-slots g l = l.at - vec_len l.slots
