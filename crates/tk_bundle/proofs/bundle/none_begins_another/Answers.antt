use Rattle.tk_bundle.specs.BundleLaws.{one_front}
use Rattle.tk_bundle.proofs.bundle.none_begins_another.Goals as goal

pub returns : goal.returns
returns c = one_front
