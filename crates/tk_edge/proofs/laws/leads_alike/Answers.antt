use Rattle.tk_edge.proofs.IssuerLaws.{leads_same}
use Rattle.tk_edge.proofs.laws.leads_alike.Goals as goal

pub returns : goal.returns
returns c = leads_same
