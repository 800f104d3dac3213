use Rattle.std.proofs.Common.{rules}
use Rattle.tk_authorize.proofs.consents.consent.Goals as goal

pub returns-clause-value : goal.returns-clause-value
returns-clause-value c = search rules
