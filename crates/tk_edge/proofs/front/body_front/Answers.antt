use Rattle.tk_edge.proofs.FrontLaws.{may_come, posted_takes}
use Rattle.tk_edge.proofs.front.body_front.Goals as goal

pub returns-then-size-rest-clause-takes : goal.returns-then-size-rest-clause-takes
returns-then-size-rest-clause-takes c = λ reach bytes pairs are long one.
    rw (c.whole_front.ensures)
    (posted_takes reach bytes _ c.args.posted _ pairs c.posted_to.result one
    (c.posted_to.ensures.came pairs are))

pub returns-then-size-rest-clause-may : goal.returns-then-size-rest-clause-may
returns-then-size-rest-clause-may c = λ reach post.
    rw (c.whole_front.ensures)
    (may_come reach c.posted_to.result _ (c.posted_to.ensures.may reach post))
