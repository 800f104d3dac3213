use Rattle.std.proofs.Common.{ap, sym, subst, ◌∙◌, refl}
use Rattle.std.specs.FinMap as map
use Rattle.tk_world.specs.Acts.{PrunesSomeAt}
use Rattle.tk_world.specs.WorldStands.{IsStanding}
use Rattle.tk_world.proofs.PartLaws.{world, absent_at, held_at, sorted_after, settings_after}
use Rattle.tk_world.proofs.PartLaws.{world_after, slice_act, sliced_number, ended}
use Rattle.tk_world.proofs.EventStands.{slice_standing}
use Rattle.tk_world.proofs.world.World.prune_some.Goals as goal

pub returns-in-Err : goal.returns-in-Err
returns-in-Err c =
    let w = c.self.inside in (
      ap (λ s. map.get s.regions c.args.region) (sym c.self.view_is)
          ∙ absent_at w.settings w.regions.items w.bundles.items c.self.invariant.0 c.args.region
          c.in-Err.field-0 (rw c.deref.ensures.value at c.in-Err.ensures),
      refl,
    )

pub invariant_of-self : goal.invariant_of-self
invariant_of-self c =
    let w = c.self.inside in
    let at = rw c.deref.ensures.value at c.in-Ok.ensures in
    let p = c.index_mut.result.now in
    let is = c.index_mut.ensures.value in
    let s = world w.settings w.regions.items w.bundles.items in
    let held = held_at w.settings w.regions.items w.bundles.items c.self.invariant.0 c.args.region
    c.in-Ok.at at c.self.invariant.1 p is in
    let q = c.prune_some.new.edge in
    let kept = sliced_number p q c.args.horizon c.args.after c.args.count c.prune_some.result
    c.prune_some.ensures.prunes c.prune_some.ensures.sealed c.prune_some.ensures.terms in
    let act = slice_act s c.args.region c.args.horizon c.args.after c.args.count p.region q.region
    c.prune_some.result held c.prune_some.ensures.prunes in (
      sorted_after w.settings w.regions.items w.bundles.items c.self.invariant.0 c.args.region
          c.in-Ok.at at c.self.invariant.1 p is q kept.0 kept.1,
      settings_after w.settings w.regions.items w.bundles.items c.self.invariant.0 c.args.region
          c.in-Ok.at at c.self.invariant.1 p is q kept.0 kept.1,
      subst IsStanding
          (sym (world_after w.settings w.regions.items w.bundles.items c.self.invariant.0
          c.args.region
          c.in-Ok.at at c.self.invariant.1 p is q kept.0 kept.1))
          (slice_standing s c.args.region c.args.horizon c.args.after c.args.count
          c.prune_some.result _ act c.self.invariant.2),
    )

pub returns-in-Ok : goal.returns-in-Ok
returns-in-Ok c =
    let w = c.self.inside in
    let at = rw c.deref.ensures.value at c.in-Ok.ensures in
    let p = c.index_mut.result.now in
    let is = c.index_mut.ensures.value in
    let s = world w.settings w.regions.items w.bundles.items in
    let held = held_at w.settings w.regions.items w.bundles.items c.self.invariant.0 c.args.region
    c.in-Ok.at at c.self.invariant.1 p is in
    let q = c.prune_some.new.edge in
    let kept = sliced_number p q c.args.horizon c.args.after c.args.count c.prune_some.result
    c.prune_some.ensures.prunes c.prune_some.ensures.sealed c.prune_some.ensures.terms in
    ended (λ x y.
    PrunesSomeAt x c.args.region c.args.horizon c.args.after c.args.count c.prune_some.result y) s _
    (slice_act s c.args.region c.args.horizon c.args.after c.args.count p.region q.region
    c.prune_some.result held c.prune_some.ensures.prunes)
    _ (world_after w.settings w.regions.items w.bundles.items c.self.invariant.0 c.args.region
    c.in-Ok.at at c.self.invariant.1 p is q kept.0 kept.1) _ c.self.view_is
