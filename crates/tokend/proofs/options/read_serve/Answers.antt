use Rattle.std.proofs.Common.{refl, rules}
use Rattle.tokend.proofs.options.read_serve.Goals as goal

pub returns-in-Ok-Some-clause-task : goal.returns-in-Ok-Some-clause-task
returns-in-Ok-Some-clause-task c = (c.in-Ok-Some.service, refl, search rules)
