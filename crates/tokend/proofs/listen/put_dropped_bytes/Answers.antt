use Rattle.std.proofs.Common.{◌∙◌}
use Rattle.tokend.proofs.listen.put_dropped_bytes.Goals as goal

pub returns : goal.returns
returns g c = rw (c.as_bytes-dropped.ensures.value ∙ c.format.ensures.text) at c.put_all.ensures
