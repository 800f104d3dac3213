use Rattle.tokend.proofs.OneSet.{all_agree}
use Rattle.tokend.proofs.promises.regions_agree.Goals as goal

pub returns : goal.returns
returns c = all_agree c.args.world.now c.known.ensures.stands
