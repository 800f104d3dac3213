use Rattle.std.proofs.Common.{rules}
use Rattle.tk_edge.proofs.tell.tell.Goals as goal

pub returns-then-is_err-clause-told : goal.returns-then-is_err-clause-told
returns-then-is_err-clause-told g c = search rules

pub returns-then-is_err-2-clause-told : goal.returns-then-is_err-2-clause-told
returns-then-is_err-2-clause-told g c = search rules

pub returns-clause-told : goal.returns-clause-told
returns-clause-told g c = search rules
