use Rattle.std.proofs.Common.{◌∙◌}
use Rattle.tokend.proofs.listen.put_port.Goals as goal

pub returns : goal.returns
returns g c = rw (c.as_bytes-port.ensures.value ∙ c.format.ensures.text) at c.put_and_flush.ensures
