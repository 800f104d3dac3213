use Rattle.tk_retention.proofs.KeepingLaws.{stands_more, mark_stands, fact_stands, drop_stands}
use Rattle.std.proofs.Common.{◌∙◌}
use Rattle.tk_retention.proofs.laws.standing_kept.Goals as goal

pub returns-clause-made : goal.returns-clause-made
returns-clause-made c = stands_more

pub returns-clause-mark : goal.returns-clause-mark
returns-clause-mark c =
    λ P U F G horizon d may gains S. mark_stands P U F G horizon d may gains.here gains.others S

pub returns-clause-fact : goal.returns-clause-fact
returns-clause-fact c =
    λ P U F G d b made gains S. fact_stands P U F G d b made (gains.here ∙ made) gains.others S

pub returns-clause-dropped : goal.returns-clause-dropped
returns-clause-dropped c =
    λ P U F G d skipped gains S. drop_stands P U F G d skipped gains.here gains.others S
