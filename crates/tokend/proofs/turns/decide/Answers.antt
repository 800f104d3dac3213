use Rattle.tokend.proofs.Turning.{goes_both}
use Rattle.tokend.proofs.turns.decide.Goals as goal

pub returns-then-decide_at : goal.returns-then-decide_at
returns-then-decide_at g c =
    record { goes = goes_both _ _ _ c.decide_at-has_stopped.ensures.goes c.decide_at.ensures.goes }

pub returns-else-decide_at : goal.returns-else-decide_at
returns-else-decide_at g c =
    record { goes = goes_both _ _ _ c.decide_at-has_stopped.ensures.goes c.decide_at.ensures.goes }
