use Rattle.std.proofs.Common.{rules}
use Rattle.tk_match.proofs.redirects.Redirects.uris.Goals as goal

pub returns : goal.returns
returns c = search rules
