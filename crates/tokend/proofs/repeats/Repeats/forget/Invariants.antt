use Rattle.std.proofs.Common.{◌≡◌, ◌≤◌, length}
use Rattle.tokend.specs.Repeats.{forgotten, max_kept}
use Rattle.tokend.proofs.repeats.Repeats.forget.Given as goal

abbrev pub invariant-old : goal.invariant-old
invariant-old l =
    (l.now ≡ l.fn.now) × (l.self-inside.seconds ≡ l.fn.self.seconds)
    × (length l.self-inside.kept.items ≤ max_kept)
    × (forgotten l.fn.self.seconds l.fn.now l.self-inside.kept.items
    ≡ forgotten l.fn.self.seconds l.fn.now l.fn.self.kept)

abbrev pub decreases-old : goal.decreases-old
decreases-old l = length l.self-inside.kept.items
