use Rattle.tokend.proofs.promises.facts_stay.Goals as goal

pub returns : goal.returns
returns c = λ made state stands. let ran = c.in_ok-outcomes.ensures.run made state stands in
    (ran.0, λ r. (ran.0.joins r).kept)
