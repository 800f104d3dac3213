use Rattle.std.proofs.Common.{Some, OnOk, OnErr, subst}
use Rattle.tk_edge.specs.Arrivals.{Answers, IsShort}
use Rattle.tk_edge.specs.EdgeFields.{EdgeFields}
use Rattle.tk_edge.specs.Heard.{IsArrival}
use Rattle.tk_edge.specs.declared.hear.Arrival.{Arrival}
use Rattle.tk_edge.proofs.AnswerLaws.{answered, short_answer}
use Rattle.tk_edge.proofs.edge.Edge.answer.Goals as goal

pub returns-clause-answers : goal.returns-clause-answers
returns-clause-answers c = λ _.
    subst (λ (e : EdgeFields).
    OnOk c.answer_arrival.result
    ((x : Arrival) × IsArrival c.args.reach c.args.bytes.now x
    × Answers e.terms e.region c.args.now c.args.words.now x c.answer_arrival.result
    c.answer_arrival.new.region)) c.self.view_is
    (answered c.args.reach c.self.inside.terms c.args.bytes.now c.args.now c.args.words.now
    c.in_ok-came.came c.self.inside.region c.answer_arrival.new.region c.answer_arrival.result
    c.in_ok-came.ensures.came c.answer_arrival.ensures.answers)

pub returns-clause-err : goal.returns-clause-err
returns-clause-err c =
    subst (λ (e : EdgeFields).
    OnErr c.answer_arrival.result
    (IsShort c.args.reach e.terms c.args.now (Some c.args.bytes.now) e.region
    c.answer_arrival.new.region)) c.self.view_is
    (short_answer c.args.reach c.self.inside.terms c.args.bytes.now c.args.now c.args.words.now
    c.in_ok-came.came c.self.inside.region c.answer_arrival.new.region c.answer_arrival.result
    c.in_ok-came.ensures.came c.in_ok-came.ensures.may c.answer_arrival.ensures.answers)
