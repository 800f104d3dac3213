use Rattle.std.proofs.Common.{◌≡◌, List, ℕ, IfOk, length, codes, subst, ◌∙◌, arith}
use Rattle.tk_world.specs.Line.{bytes_in}
use Rattle.tk_world.specs.RequestLine.{request_of, none_text}
use Rattle.tk_world.proofs.EventForms.{four}
use Rattle.tk_world.proofs.request_line.client.Goals as goal

pub returns-in_ok-body-in-len4 : goal.returns-in_ok-body-in-len4
returns-in_ok-body-in-len4 c =
    let long : length c.args.form.now ≡ 4 = omega arith in
    rw (four c.args.form.now long)
    (subst (λ (b : List ℕ).
    IfOk c.request_of.result
    (λ request. bytes_in request
    ≡ request_of (codes "POST") (codes "/admin/client") none_text none_text b))
    (c.as_str.ensures.value ∙ c.in_ok-body-in-len4.ensures) c.request_of.ensures)
