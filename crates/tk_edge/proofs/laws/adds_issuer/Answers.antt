use Rattle.tk_edge.proofs.IssuerLaws.{adds_iss}
use Rattle.tk_edge.proofs.laws.adds_issuer.Goals as goal

pub returns : goal.returns
returns c = adds_iss
