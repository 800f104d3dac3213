use Rattle.std.proofs.Common.{rules}
use Rattle.tk_fact.proofs.body.Body.same.Goals as goal

pub returns-in_default : goal.returns-in_default
returns-in_default c = search rules

pub returns-in_default-2 : goal.returns-in_default-2
returns-in_default-2 c = search rules

pub returns-in_default-3 : goal.returns-in_default-3
returns-in_default-3 c = search rules

pub returns-in_default-4 : goal.returns-in_default-4
returns-in_default-4 c = search rules

pub returns-in_default-5 : goal.returns-in_default-5
returns-in_default-5 c = search rules

pub returns-in_default-6 : goal.returns-in_default-6
returns-in_default-6 c = search rules

pub returns-in_default-7 : goal.returns-in_default-7
returns-in_default-7 c = search rules

pub returns-in_default-8 : goal.returns-in_default-8
returns-in_default-8 c = search rules

pub returns-in_default-9 : goal.returns-in_default-9
returns-in_default-9 c = search rules

pub returns-in_default-10 : goal.returns-in_default-10
returns-in_default-10 c = search rules

pub returns-in_default-11 : goal.returns-in_default-11
returns-in_default-11 c = search rules

pub returns-in_default-12 : goal.returns-in_default-12
returns-in_default-12 c = search rules
