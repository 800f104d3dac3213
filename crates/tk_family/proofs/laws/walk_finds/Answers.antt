use Rattle.tk_family.proofs.WalkLaws.{code_of-sound, code_of-complete}
use Rattle.tk_family.proofs.laws.walk_finds.Goals as goal

pub returns : goal.returns
returns c = λ f d q. (code_of-sound f d q, code_of-complete f d q)
