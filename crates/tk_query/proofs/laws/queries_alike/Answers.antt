use Rattle.tk_query.proofs.AlikeLaws.{introspections_alike, revocations_alike}
use Rattle.tk_query.proofs.laws.queries_alike.Goals as goal

pub returns-clause-introspections : goal.returns-clause-introspections
returns-clause-introspections c = introspections_alike

pub returns-clause-revocations : goal.returns-clause-revocations
returns-clause-revocations c = revocations_alike
