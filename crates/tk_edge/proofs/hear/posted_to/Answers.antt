use Rattle.tk_edge.proofs.hear.posted_to.Goals as goal

pub returns-in-Form-clause-may : goal.returns-in-Form-clause-may
returns-in-Form-clause-may c = λ reach h. c.asked.ensures.may reach
