use Rattle.std.proofs.Common.{◌∙◌}
use Rattle.tokend.proofs.listen.put_pruned_facts.Goals as goal

pub returns : goal.returns
returns g c = rw (c.as_bytes-count.ensures.value ∙ c.format.ensures.text) at c.put_all.ensures
