use Rattle.std.proofs.Common.{◌≡◌, map}
use Rattle.tokend.specs.Ranges.{ranges_in}
use Rattle.tokend.proofs.ranges.listed.Given as goal

-- the ranges so far are those among the words so far
abbrev pub invariant-loop-word : goal.invariant-loop-word
invariant-loop-word l = l.ranges.items ≡ ranges_in (map (λ word. word.now) l.yielded)
