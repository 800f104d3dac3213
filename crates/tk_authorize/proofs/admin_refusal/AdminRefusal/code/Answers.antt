use Rattle.std.proofs.Common.{rules}
use Rattle.tk_authorize.proofs.admin_refusal.AdminRefusal.code.Goals as goal

pub returns-in-MalformedOperator : goal.returns-in-MalformedOperator
returns-in-MalformedOperator c = search rules

pub returns-in-MalformedScope : goal.returns-in-MalformedScope
returns-in-MalformedScope c = search rules

pub returns-in-UnknownClient : goal.returns-in-UnknownClient
returns-in-UnknownClient c = search rules
