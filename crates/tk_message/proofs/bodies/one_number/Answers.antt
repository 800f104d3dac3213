use Rattle.std.proofs.Common.{[], ◌∷◌, ◌++◌, ap, decimal, ◌∙◌}
use Rattle.json.specs.Token.{end_object, key, number as a_number}
use Rattle.serde_json.specs.Data.{number, unsigned, member, no_members}
use Rattle.tk_message.proofs.bodies.one_number.Goals as goal

pub returns : goal.returns
returns c =
    c.end.ensures (member c.args.name.now (number (unsigned c.args.value)) no_members)
    (c.in_ok-put_number.ensures.before ∙ c.in_ok-out.ensures.before)
    (ap (λ tokens. tokens ++ end_object ∷ [])
    (c.in_ok-put_number.ensures.ok
    ∙ ap (λ tokens. tokens ++ key c.args.name.now ∷ a_number (decimal c.args.value) ∷ [])
    c.in_ok-out.ensures.tokens))
