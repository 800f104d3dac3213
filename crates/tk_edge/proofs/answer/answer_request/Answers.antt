use Rattle.std.proofs.Common.{None, subst}
use Rattle.tk_edge.specs.Answers.{AnswersBy, rendered}
use Rattle.tk_edge.specs.Issuer.{with_iss}
use Rattle.tk_edge.specs.Terms.{TermsFields}
use Rattle.tk_edge.proofs.AnswerLaws.{answers_request}
use Rattle.tk_edge.proofs.answer.answer_request.Goals as goal

pub returns-clause-answers : goal.returns-clause-answers
returns-clause-answers c =
    let told = subst (λ (t : TermsFields).
    AnswersBy c.args.region.now
    (rendered (with_iss t.issuer c.in_ok-prepared.prepared.reply) None
    c.in_ok-prepared.prepared.logged) c.in_ok-prepared.prepared.fact c.send.result
    c.send.new.region) c.terms.view_is c.send.ensures in
    answers_request c.args.terms.now c.args.region.now c.args.now c.args.words.now
    c.args.request.now _ _ _ c.in_ok-prepared.ensures.value told
