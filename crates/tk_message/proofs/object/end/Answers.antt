use Rattle.std.proofs.Common.{◌++◌, ap₂, ◌∙◌}
use Rattle.json.specs.Print.{print}
use Rattle.serde_json.specs.Data.{object}
use Rattle.serde_json.proofs.Texts.{print-outline}
use Rattle.tk_message.proofs.object.end.Goals as goal

pub returns : goal.returns
returns c members none same =
    c.into_inner.ensures.items
    ∙ ap₂ (λ before tokens. before ++ print tokens) (c.in_ok-end_object.ensures.room.0 ∙ none)
    (c.in_ok-end_object.ensures.ok ∙ same)
    ∙ print-outline (object members)
