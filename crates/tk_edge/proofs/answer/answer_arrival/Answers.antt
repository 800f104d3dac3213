use Rattle.tk_edge.proofs.AnswerLaws.{gains_nothing, answers_nothing}
use Rattle.tk_edge.proofs.answer.answer_arrival.Goals as goal

pub returns-in-Silence-clause-answers : goal.returns-in-Silence-clause-answers
returns-in-Silence-clause-answers c = rw c.in-Silence.is (c.silent.ensures, gains_nothing _, tt)

pub returns-in-Refused-clause-answers : goal.returns-in-Refused-clause-answers
returns-in-Refused-clause-answers c = rw c.in-Refused.is (answers_nothing _ _ _ c.refuse.ensures)

pub returns-in-Notice-clause-answers : goal.returns-in-Notice-clause-answers
returns-in-Notice-clause-answers c =
    rw c.in-Notice.is (answers_nothing _ _ _ c.answer_notice.ensures)
