use Rattle.tk_family.proofs.FamilyLaws.{IsPath-length}
use Rattle.tk_family.proofs.laws.chain_length.Goals as goal

pub returns : goal.returns
returns c = IsPath-length
