use Rattle.std.proofs.Common.{ap, sym, ◌∙◌, refl}
use Rattle.std.specs.FinMap as map
use Rattle.tk_world.specs.Acts.{PullsAt}
use Rattle.tk_world.specs.declared.event.Event.TheVariants as event
use Rattle.tk_world.proofs.PartLaws.{world, absent_at, held_at, pull_act, ended}
use Rattle.tk_world.proofs.EventStands.{pull_standing}
use Rattle.tk_world.proofs.world.World.pull.Goals as goal

pub returns-in-Err : goal.returns-in-Err
returns-in-Err c =
    let w = c.self.inside in (
      ap (λ s. map.get s.regions c.args.region) (sym c.self.view_is)
          ∙ absent_at w.settings w.regions.items w.bundles.items c.self.invariant.0 c.args.region
          c.in-Err.field-0 (rw c.deref.ensures.value at c.in-Err.ensures),
      refl,
    )

pub invariant_of-self : goal.invariant_of-self
invariant_of-self c =
    let w = c.self.inside in
    let at = rw c.deref.ensures.value at c.in-Ok.ensures in
    let p = c.index.result.now in
    let s = world w.settings w.regions.items w.bundles.items in
    let held = held_at w.settings w.regions.items w.bundles.items c.self.invariant.0 c.args.region
    c.in-Ok.at at c.self.invariant.1 p c.index.ensures in
    let act = pull_act s c.args.region p.region.facts c.args.vector.now c.args.after
    c.pull_page.result c.pull_page.new.bundles.items held
    (rw c.region.ensures at c.pull_page.ensures) in (
      c.self.invariant.0,
      c.self.invariant.1,
      pull_standing s c.args.region c.args.vector.now c.args.after c.pull_page.result _ act
          c.self.invariant.2,
    )

pub returns-in-Ok : goal.returns-in-Ok
returns-in-Ok c =
    let w = c.self.inside in
    let at = rw c.deref.ensures.value at c.in-Ok.ensures in
    let p = c.index.result.now in
    let s = world w.settings w.regions.items w.bundles.items in
    let held = held_at w.settings w.regions.items w.bundles.items c.self.invariant.0 c.args.region
    c.in-Ok.at at c.self.invariant.1 p c.index.ensures in
    ended (λ x y. PullsAt x c.args.region c.args.vector.now c.args.after c.pull_page.result y) s _
    (pull_act s c.args.region p.region.facts c.args.vector.now c.args.after c.pull_page.result
    c.pull_page.new.bundles.items held (rw c.region.ensures at c.pull_page.ensures))
    _ refl _ c.self.view_is
