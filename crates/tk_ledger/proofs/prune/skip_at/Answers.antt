use Rattle.std.proofs.Common.{◌≡◌, Option, Some, None, option_map, refl, subst, sym, ap, ◌∙◌}
use Rattle.std.specs.Option.{option_copied}
use Rattle.std.specs.FinMap as map
use Rattle.tk_handle.specs.declared.dot.Dot.{Dot}
use Rattle.tk_fact.specs.declared.body.Body.{Body}
use Rattle.tk_store.specs.FactSet.{FactSet}
use Rattle.tk_store.specs.StoreFields.{held_facts}
use Rattle.tk_store.proofs.PutLaws.{none_is_not_some}
use Rattle.tk_ledger.specs.Changes.{change_in}
use Rattle.tk_ledger.specs.Index.{IsIndexed}
use Rattle.tk_ledger.proofs.SkipLaws.{skipped_passes, was_indexed, free_skipped}
use Rattle.tk_ledger.proofs.TopLaws.{found_body}
use Rattle.tk_ledger.proofs.prune.skip_at.Goals as goal

-- a body with its dot
abbrev at_dot : Dot → Body → Dot × Body
at_dot d b = (d, b)

-- if no body with its dot is there, no body is
none_there : (d : Dot) (o : Option Body) → option_map (at_dot d) o ≡ None → o ≡ None
none_there d None h = refl
none_there d (Some b) h = absurd (none_is_not_some (at_dot d b) (sym h))

pub unfollow-requires-clause-passes : goal.unfollow-requires-clause-passes
unfollow-requires-clause-passes c =
    skipped_passes c.args.store.now c.skip.new.self c.args.dot c.in-Ok.added c.in-Some.fact.now.1
    c.change_of-change.result c.in-Ok.ensures.skips
    (found_body c.args.dot (map.get (held_facts c.args.store.now) c.args.dot) c.in-Some.fact.now
    (sym (ap option_copied c.in-Some.is) ∙ c.get.ensures))
    (c.change_of-change.ensures ∙ ap (λ (p : Dot × Body). change_in p.1) c.fact.view_is)

pub unfollow-requires-clause-lost : goal.unfollow-requires-clause-lost
unfollow-requires-clause-lost c =
    was_indexed c.args.store.now c.skip.new.self c.args.dot c.in-Ok.added c.in-Some.fact.now.1
    c.change_of-change.result c.args.index.now c.in-Ok.ensures.skips
    (found_body c.args.dot (map.get (held_facts c.args.store.now) c.args.dot) c.in-Some.fact.now
    (sym (ap option_copied c.in-Some.is) ∙ c.get.ensures))
    (c.change_of-change.ensures ∙ ap (λ (p : Dot × Body). change_in p.1) c.fact.view_is)
    c.requires

pub returns-in-None-clause-indexed : goal.returns-in-None-clause-indexed
returns-in-None-clause-indexed c =
    subst (λ (F : FactSet). IsIndexed F c.args.index.now)
    (sym (free_skipped c.args.store.now c.skip-in-None.new.self c.args.dot c.skip-in-None.result
    (none_there c.args.dot (map.get (held_facts c.args.store.now) c.args.dot)
    (sym c.get.ensures ∙ ap option_copied c.in-None.is))
    c.skip-in-None.ensures.skips))
    c.requires
