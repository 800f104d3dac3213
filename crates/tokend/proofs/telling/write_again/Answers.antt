use Rattle.tokend.proofs.Tellings.{after_none}
use Rattle.tokend.proofs.telling.write_again.Goals as goal

pub returns-in-Ok-clause-bytes : goal.returns-in-Ok-clause-bytes
returns-in-Ok-clause-bytes g c = after_none _ _ _ _ c.loop.invariant c.in-Ok.ensures.bytes
