use Rattle.std.proofs.Common.{rules}
use Rattle.tk_edge.proofs.exchange.page_reply.Goals as goal

pub returns-in_ok-page-in-Ok : goal.returns-in_ok-page-in-Ok
returns-in_ok-page-in-Ok c = search rules
