use Rattle.std.proofs.lemmas.Result.{IfOk-weaker}
use Rattle.tokend.proofs.promises.regions_that_have_seen_the_same_are_the_same.Goals as goal

pub returns : goal.returns
returns c = IfOk-weaker c.run.result _ _
    (λ outcomes run made state stands. let ran = run made state stands in (ran.0, ran.0.alike))
    c.run.ensures.run
