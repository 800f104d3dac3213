use Rattle.tk_edge.proofs.AnswerLaws.{refused}
use Rattle.tk_edge.proofs.answer.refuse.Goals as goal

pub returns : goal.returns
returns c = refused c.args.why c.code.result _ _ c.answer_with.result c.code.ensures
    c.in_ok-reply.ensures c.allowed.ensures c.answer_with.ensures
