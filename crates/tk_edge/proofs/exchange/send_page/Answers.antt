use Rattle.std.proofs.Common.{◌≡◌, None, IfOk, subst}
use Rattle.tk_message.specs.ReplyFields.{ReplyFields}
use Rattle.tk_edge.specs.Answers.{rendered}
use Rattle.tk_edge.proofs.exchange.send_page.Goals as goal

pub returns : goal.returns
returns c = subst (λ (r : ReplyFields).
    IfOk c.answer_with.result (λ answer. answer ≡ rendered r None None)) c.in_ok-reply.ensures
    c.answer_with.ensures
