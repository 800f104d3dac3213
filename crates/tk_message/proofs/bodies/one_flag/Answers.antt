use Rattle.std.proofs.Common.{[], ◌∷◌, ◌++◌, ap, ◌∙◌}
use Rattle.json.specs.Token.{end_object, key, boolean as a_boolean}
use Rattle.serde_json.specs.Data.{boolean, member, no_members}
use Rattle.tk_message.proofs.bodies.one_flag.Goals as goal

pub returns : goal.returns
returns c =
    c.end.ensures (member c.args.name.now (boolean c.args.flag) no_members)
    (c.in_ok-put_flag.ensures.before ∙ c.in_ok-out.ensures.before)
    (ap (λ tokens. tokens ++ end_object ∷ [])
    (c.in_ok-put_flag.ensures.ok
    ∙ ap (λ tokens. tokens ++ key c.args.name.now ∷ a_boolean (c.args.flag) ∷ [])
    c.in_ok-out.ensures.tokens))
