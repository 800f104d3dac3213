use Rattle.std.proofs.Common.{rules}
use Rattle.tk_authorize.proofs.clients.client_named.Goals as goal

pub returns : goal.returns
returns c = search rules
