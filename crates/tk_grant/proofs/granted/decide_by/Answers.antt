use Rattle.std.proofs.Common.{rules}
use Rattle.tk_grant.proofs.granted.decide_by.Goals as goal

pub returns-in_ok-reply-in-Reused-clause-value : goal.returns-in_ok-reply-in-Reused-clause-value
returns-in_ok-reply-in-Reused-clause-value c = search rules
