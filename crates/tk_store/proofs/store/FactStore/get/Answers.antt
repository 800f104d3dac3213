use Rattle.std.proofs.Common.{ap, sym, ◌∙◌, option_map}
use Rattle.std.specs.FinMap as sets
use Rattle.tk_store.specs.StoreFields.{StoreFields, held_facts}
use Rattle.tk_store.proofs.SlotLaws.{get_held}
use Rattle.tk_store.proofs.store.FactStore.get.Goals as goal

pub returns : goal.returns
returns c = c.get.ensures ∙ ap (option_map (λ body. (c.args.dot, body)))
    (sym (get_held c.self.inside.facts c.args.dot)
    ∙ ap (λ (P : StoreFields). sets.get (held_facts P) c.args.dot) c.self.view_is)
