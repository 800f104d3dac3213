use Rattle.std.proofs.Common.{ap, ◌∙◌}
use Rattle.tk_message.specs.declared.status_code.StatusCode.TheVariants.{Ok}
use Rattle.tk_edge.specs.Notices as spec
use Rattle.tk_edge.proofs.notice.metadata_reply.Goals as goal

pub returns : goal.returns
returns c =
    c.text_reply.ensures
    ∙ ap (spec.text_reply Ok)
    (c.in_ok-text.ensures
    ∙ ap (λ i. spec.metadata i c.methods_of.result.now) c.as_bytes.ensures.value
    ∙ ap (spec.metadata c.args.issuer.now) c.methods_of.ensures)
