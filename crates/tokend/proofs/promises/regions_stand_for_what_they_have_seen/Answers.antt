use Rattle.std.proofs.lemmas.Result.{IfOk-weaker}
use Rattle.tokend.proofs.promises.regions_stand_for_what_they_have_seen.Goals as goal

pub returns : goal.returns
returns c = IfOk-weaker c.run.result _ _
    (λ outcomes run made state stands. let ran = run made state stands in
    (ran.0, λ r. (ran.0.joins r).held)) c.run.ensures.run
