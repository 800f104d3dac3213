use Rattle.std.proofs.Common.{length}
use Rattle.tokend.specs.Loading.{TakesFront}
use Rattle.tokend.proofs.load.load_bytes.Given as goal

-- the bundles before the rest are taken in
abbrev pub invariant-loop-rest : goal.invariant-loop-rest
invariant-loop-rest l = TakesFront l.fn.region l.fn.log l.rest l.region

abbrev pub decreases-loop-rest : goal.decreases-loop-rest
decreases-loop-rest l = length l.rest
