use Rattle.tk_world.proofs.BundleLaws.{made_bundle, made_readable}
use Rattle.tk_world.proofs.bundle.MadeBundle.new.Goals as goal

pub invariant_of-result : goal.invariant_of-result
invariant_of-result c = made_readable _ c.requires

pub returns : goal.returns
returns c = λ b fits e. made_bundle _ b fits e
