use Rattle.std.proofs.Common.{ℕ, ◌≤◌, IfSome, length, slice_get, vec_len}
use Rattle.tk_world.specs.Line.{HasWords}
use Rattle.tokend.specs.Script.{AreEvents, AreShort, words_at}
use Rattle.tokend.proofs.ScriptEvents.{lines_in}
use Rattle.tokend.proofs.script.read_events.Given as goal

abbrev pub invariant-loop-at : goal.invariant-loop-at
invariant-loop-at l = record {
  can_next : (goal.iterator-loop-at).can_next l.at-iterator;
  is_finite : (goal.iterator-loop-at).is_finite l.at-iterator;
  few : vec_len l.events ≤ length l.yielded;
  words : (k : ℕ) → IfSome (slice_get l.events.items k) (HasWords (words_at k));
  short : AreShort l.fn.longest l.events.items;
  events : AreEvents (lines_in l.yielded) l.events.items;
}
