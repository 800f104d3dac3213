use Rattle.std.proofs.Common.{◌≡◌, false, ap, sym, subst, ◌∙◌, refl, is_some, slice_get}
use Rattle.std.specs.FinMap as map
use Rattle.tk_message.specs.Place.{next_in}
use Rattle.tk_region.specs.RegionFields.{RegionFields, place_in}
use Rattle.tk_region.specs.Taking.{has_unmade}
use Rattle.tk_world.specs.Acts.{DeliversAt}
use Rattle.tk_world.specs.WorldStands.{IsStanding}
use Rattle.tk_world.proofs.PartLaws.{world, absent_at, held_at, region_is, sorted_after}
use Rattle.tk_world.proofs.PartLaws.{settings_after, world_after, found_at, deliver_act}
use Rattle.tk_world.proofs.PartLaws.{taken_number, ended}
use Rattle.tk_world.proofs.EventStands.{deliver_standing, bundle_agrees, bundle_made}
use Rattle.tk_world.proofs.world.World.deliver.Goals as goal

pub returns-in-Err : goal.returns-in-Err
returns-in-Err c =
    let w = c.self.inside in (
      ap (λ s. map.get s.regions c.args.region) (sym c.self.view_is)
          ∙ absent_at w.settings w.regions.items w.bundles.items c.self.invariant.0 c.args.region
          c.in-Err.field-0 (rw c.deref.ensures.value at c.in-Err.ensures),
      refl,
    )

pub deliver-requires-clause-agree : goal.deliver-requires-clause-agree
deliver-requires-clause-agree c =
    let w = c.self.inside in
    let at = rw c.deref.ensures.value at c.in-Ok.ensures in
    let p = c.index_mut.result.now in
    let is = c.index_mut.ensures.value in
    let s = world w.settings w.regions.items w.bundles.items in
    let held = held_at w.settings w.regions.items w.bundles.items c.self.invariant.0 c.args.region
    c.in-Ok.at at c.self.invariant.1 p is in
    let there = rw c.deref-in-Ok.ensures.value at c.in-Some.ensures in
    bundle_agrees s c.self.invariant.2 c.args.region p.region.facts held c.args.bundle
    c.in-Some.bundle.now (sym there)

pub deliver-requires-clause-made : goal.deliver-requires-clause-made
deliver-requires-clause-made c =
    let w = c.self.inside in
    let at = rw c.deref.ensures.value at c.in-Ok.ensures in
    let p = c.index_mut.result.now in
    let is = c.index_mut.ensures.value in
    let s = world w.settings w.regions.items w.bundles.items in
    let held = held_at w.settings w.regions.items w.bundles.items c.self.invariant.0 c.args.region
    c.in-Ok.at at c.self.invariant.1 p is in
    let there = rw c.deref-in-Ok.ensures.value at c.in-Some.ensures in
    let same = region_is w.settings w.regions.items w.bundles.items c.self.invariant.0 c.args.region
    c.in-Ok.at at c.self.invariant.1 p is in
    subst (λ (x : RegionFields).
    has_unmade (next_in (place_in x)) c.in-Some.bundle.now.items ≡ false) (sym same)
    (bundle_made s c.self.invariant.2 c.args.region p.region.facts held c.args.bundle
    c.in-Some.bundle.now (sym there))

pub invariant_of-self : goal.invariant_of-self
invariant_of-self c =
    let w = c.self.inside in
    let at = rw c.deref.ensures.value at c.in-Ok.ensures in
    let p = c.index_mut.result.now in
    let is = c.index_mut.ensures.value in
    let s = world w.settings w.regions.items w.bundles.items in
    let held = held_at w.settings w.regions.items w.bundles.items c.self.invariant.0 c.args.region
    c.in-Ok.at at c.self.invariant.1 p is in
    let there = rw c.deref-in-Ok.ensures.value at c.in-Some.ensures in
    let q = c.deliver.new.edge in
    let kept = taken_number p q c.in-Some.bundle.now c.deliver.result c.deliver.ensures.takes
    c.deliver.ensures.sealed c.deliver.ensures.terms in
    let act = deliver_act s c.args.bundle c.args.region p.region q.region c.in-Some.bundle.now
    c.deliver.result held (sym there) c.deliver.ensures.takes in (
      sorted_after w.settings w.regions.items w.bundles.items c.self.invariant.0 c.args.region
          c.in-Ok.at at c.self.invariant.1 p is q kept.0 kept.1,
      settings_after w.settings w.regions.items w.bundles.items c.self.invariant.0 c.args.region
          c.in-Ok.at at c.self.invariant.1 p is q kept.0 kept.1,
      subst IsStanding
          (sym (world_after w.settings w.regions.items w.bundles.items c.self.invariant.0
          c.args.region
          c.in-Ok.at at c.self.invariant.1 p is q kept.0 kept.1))
          (deliver_standing s c.args.bundle c.args.region c.deliver.result _ act
          c.self.invariant.2),
    )

pub returns-in-Some : goal.returns-in-Some
returns-in-Some c =
    let w = c.self.inside in
    let at = rw c.deref.ensures.value at c.in-Ok.ensures in
    let p = c.index_mut.result.now in
    let is = c.index_mut.ensures.value in
    let s = world w.settings w.regions.items w.bundles.items in
    let held = held_at w.settings w.regions.items w.bundles.items c.self.invariant.0 c.args.region
    c.in-Ok.at at c.self.invariant.1 p is in
    let there = rw c.deref-in-Ok.ensures.value at c.in-Some.ensures in
    let q = c.deliver.new.edge in
    let kept = taken_number p q c.in-Some.bundle.now c.deliver.result c.deliver.ensures.takes
    c.deliver.ensures.sealed c.deliver.ensures.terms in
    ended (λ x y. DeliversAt x c.args.bundle c.args.region c.deliver.result y) s _
    (deliver_act s c.args.bundle c.args.region p.region q.region c.in-Some.bundle.now
    c.deliver.result held (sym there) c.deliver.ensures.takes)
    _ (world_after w.settings w.regions.items w.bundles.items c.self.invariant.0 c.args.region
    c.in-Ok.at at c.self.invariant.1 p is q kept.0 kept.1) _ c.self.view_is

pub returns-in-None : goal.returns-in-None
returns-in-None c =
    let w = c.self.inside in
    let at = rw c.deref.ensures.value at c.in-Ok.ensures in
    let none = rw c.deref-in-Ok.ensures.value at c.in-None.ensures in (
      ap (λ s. slice_get s.bundles c.args.bundle) (sym c.self.view_is) ∙ sym none,
      (
        ap (λ s. is_some (map.get s.regions c.args.region)) (sym c.self.view_is)
            ∙ found_at w.settings w.regions.items w.bundles.items c.self.invariant.0 c.args.region
            c.in-Ok.at at,
        refl,
      ),
    )
