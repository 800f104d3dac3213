use Rattle.std.proofs.Common.{[], ◌∷◌, ◌++◌, ap, ◌∙◌}
use Rattle.json.specs.Token.{end_object, key, string as a_string}
use Rattle.serde_json.specs.Data.{string, member, no_members}
use Rattle.tk_message.proofs.bodies.one_text.Goals as goal

pub returns : goal.returns
returns c =
    c.end.ensures (member c.args.name.now (string c.args.text.now) no_members)
    (c.in_ok-put_text.ensures.before ∙ c.in_ok-out.ensures.before)
    (ap (λ tokens. tokens ++ end_object ∷ [])
    (c.in_ok-put_text.ensures.ok
    ∙ ap (λ tokens. tokens ++ key c.args.name.now ∷ a_string (c.args.text.now) ∷ [])
    c.in_ok-out.ensures.tokens))
