use Rattle.tk_bundle.specs.BundleLaws.{versions_tell}
use Rattle.tk_bundle.proofs.bundle.versions_told.Goals as goal

pub returns : goal.returns
returns c = versions_tell
