use Rattle.std.proofs.Common.{rules}
use Rattle.tk_bundle.proofs.bundle.read_versioned.Goals as goal

pub returns-then-version-version_of : goal.returns-then-version-version_of
returns-then-version-version_of c = search rules
