use Rattle.std.proofs.Common.{◌∙◌}
use Rattle.tk_world.proofs.RequestLaws.{request_is}
use Rattle.tk_world.proofs.request_line.request_bytes.Goals as goal

pub returns : goal.returns
returns c =
    request_is c.joined_request.result (λ bytes. bytes.items) _ _ _ _ _ _ _ _ _ _ c.args.body.now
    c.as_bytes-method.ensures.value c.as_bytes-target.ensures.value
    (c.deref.ensures.value ∙ c.in_ok-auth.ensures)
    (c.deref-2.ensures.value ∙ c.in_ok-subject.ensures)
    (c.deref-3.ensures.value ∙ c.in_ok-post.ensures)
    c.joined_request.ensures
