use Rattle.std.proofs.Common.{None, ap, ◌∙◌}
use Rattle.std.proofs.lemmas.Result.{IfOk-weaker}
use Rattle.tk_message.specs.Reply.{bytes_reply}
use Rattle.tk_message.specs.ReplyFields.{ReplyFields}
use Rattle.tk_edge.specs.Answers.{rendered}
use Rattle.tk_edge.proofs.exchange.tell_vector.Goals as goal

pub returns : goal.returns
returns c =
    IfOk-weaker c.answer_with-2.result _ _ (λ answer is. (
      c.in_ok-vector.vector,
      c.in_ok-vector.ensures,
      c.in_ok-bytes.ensures.fits,
      is ∙ ap (λ (r : ReplyFields). rendered r None None)
          (c.bytes_reply.ensures ∙ ap bytes_reply c.in_ok-bytes.ensures.spelled),
    )) c.answer_with-2.ensures
