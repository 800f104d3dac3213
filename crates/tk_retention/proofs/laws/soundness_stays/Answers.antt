use Rattle.tk_retention.proofs.KeepingLaws.{sound_stays}
use Rattle.tk_retention.proofs.MadeLaws.{made_meets}
use Rattle.tk_retention.proofs.laws.soundness_stays.Goals as goal

pub returns-clause-stays : goal.returns-clause-stays
returns-clause-stays c = sound_stays

pub returns-clause-made : goal.returns-clause-made
returns-clause-made c = made_meets
