use Rattle.std.proofs.Common.{rules}
use Rattle.tk_region.proofs.settings.Settings.lives.Goals as goal

pub returns : goal.returns
returns c = search rules
