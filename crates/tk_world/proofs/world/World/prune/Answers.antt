use Rattle.std.proofs.Common.{ap, sym, subst, ◌∙◌, refl}
use Rattle.std.specs.FinMap as map
use Rattle.tk_world.specs.Acts.{PrunesAt}
use Rattle.tk_world.specs.WorldStands.{IsStanding}
use Rattle.tk_world.proofs.PartLaws.{world, absent_at, held_at, sorted_after, settings_after}
use Rattle.tk_world.proofs.PartLaws.{world_after, prune_act, pruned_number, ended}
use Rattle.tk_world.proofs.EventStands.{prune_standing}
use Rattle.tk_world.proofs.world.World.prune.Goals as goal

pub returns-in-Err : goal.returns-in-Err
returns-in-Err c =
    let w = c.self.inside in (
      ap (λ s. map.get s.regions c.args.region) (sym c.self.view_is)
          ∙ absent_at w.settings w.regions.items w.bundles.items c.self.invariant.0 c.args.region
          c.in-Err.field-0 (rw c.deref.ensures.value at c.in-Err.ensures),
      refl,
    )

pub invariant_of-self : goal.invariant_of-self
invariant_of-self c =
    let w = c.self.inside in
    let at = rw c.deref.ensures.value at c.in-Ok.ensures in
    let p = c.index_mut.result.now in
    let is = c.index_mut.ensures.value in
    let s = world w.settings w.regions.items w.bundles.items in
    let held = held_at w.settings w.regions.items w.bundles.items c.self.invariant.0 c.args.region
    c.in-Ok.at at c.self.invariant.1 p is in
    let q = c.prune.new.edge in
    let kept = pruned_number p q c.args.horizon c.prune.result c.prune.ensures.prunes
    c.prune.ensures.sealed c.prune.ensures.terms in
    let act = prune_act s c.args.region c.args.horizon p.region q.region c.prune.result held
    c.prune.ensures.prunes in (
      sorted_after w.settings w.regions.items w.bundles.items c.self.invariant.0 c.args.region
          c.in-Ok.at at c.self.invariant.1 p is q kept.0 kept.1,
      settings_after w.settings w.regions.items w.bundles.items c.self.invariant.0 c.args.region
          c.in-Ok.at at c.self.invariant.1 p is q kept.0 kept.1,
      subst IsStanding
          (sym (world_after w.settings w.regions.items w.bundles.items c.self.invariant.0
          c.args.region
          c.in-Ok.at at c.self.invariant.1 p is q kept.0 kept.1))
          (prune_standing s c.args.region c.args.horizon c.prune.result _ act c.self.invariant.2),
    )

pub returns-in-Ok : goal.returns-in-Ok
returns-in-Ok c =
    let w = c.self.inside in
    let at = rw c.deref.ensures.value at c.in-Ok.ensures in
    let p = c.index_mut.result.now in
    let is = c.index_mut.ensures.value in
    let s = world w.settings w.regions.items w.bundles.items in
    let held = held_at w.settings w.regions.items w.bundles.items c.self.invariant.0 c.args.region
    c.in-Ok.at at c.self.invariant.1 p is in
    let q = c.prune.new.edge in
    let kept = pruned_number p q c.args.horizon c.prune.result c.prune.ensures.prunes
    c.prune.ensures.sealed c.prune.ensures.terms in
    ended (λ x y. PrunesAt x c.args.region c.args.horizon c.prune.result y) s _
    (prune_act s c.args.region c.args.horizon p.region q.region c.prune.result held
    c.prune.ensures.prunes)
    _ (world_after w.settings w.regions.items w.bundles.items c.self.invariant.0 c.args.region
    c.in-Ok.at at c.self.invariant.1 p is q kept.0 kept.1) _ c.self.view_is
