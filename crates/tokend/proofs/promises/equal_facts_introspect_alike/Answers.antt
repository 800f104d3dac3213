use Rattle.std.proofs.lemmas.Result.{IfOk-weaker}
use Rattle.tokend.proofs.promises.equal_facts_introspect_alike.Goals as goal

pub returns : goal.returns
returns c = IfOk-weaker c.run.result _ _
    (λ outcomes run made state stands. let ran = run made state stands in (ran.0, ran.2))
    c.run.ensures.run
