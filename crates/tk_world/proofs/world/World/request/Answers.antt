use Rattle.std.proofs.Common.{ap, sym, subst, ◌∙◌, refl}
use Rattle.std.specs.FinMap as map
use Rattle.tk_world.specs.AskedFields.{AskedFields}
use Rattle.tk_world.specs.Broken.{Requests}
use Rattle.tk_world.specs.WorldStands.{IsStanding}
use Rattle.tk_world.proofs.PartLaws.{world, absent_at, held_at, region_is, terms_at, sorted_after}
use Rattle.tk_world.proofs.PartLaws.{settings_after, world_after, request_act, carried_number}
use Rattle.tk_world.proofs.PartLaws.{ended}
use Rattle.tk_world.proofs.RequestStands.{request_standing}
use Rattle.tk_world.proofs.world.World.request.Goals as goal

pub returns-in-Err : goal.returns-in-Err
returns-in-Err g c =
    let w = c.self.inside in (
      ap (λ s. map.get s.regions c.args.region) (sym c.self.view_is)
          ∙ absent_at w.settings w.regions.items w.bundles.items c.self.invariant.0 c.args.region
          c.in-Err.field-0 (rw c.deref.ensures.value at c.in-Err.ensures),
      refl,
    )

pub invariant_of-self : goal.invariant_of-self
invariant_of-self g c =
    let w = c.self.inside in
    let at = rw c.deref.ensures.value at c.in-Ok.ensures in
    let p = c.index_mut.result.now in
    let is = c.index_mut.ensures.value in
    let s = world w.settings w.regions.items w.bundles.items in
    let held = held_at w.settings w.regions.items w.bundles.items c.self.invariant.0 c.args.region
    c.in-Ok.at at c.self.invariant.1 p is in
    let same = region_is w.settings w.regions.items w.bundles.items c.self.invariant.0 c.args.region
    c.in-Ok.at at c.self.invariant.1 p is in
    let plain = terms_at w.settings w.regions.items w.bundles.items c.self.invariant.0 c.args.region
    c.in-Ok.at at c.self.invariant.1 p is in
    let q = c.carry.new.edge in
    let asked : AskedFields =
    record { now = c.args.now; words = c.args.words.now; bytes = c.args.bytes.now } in
    let kept = carried_number g.C.Carrier.way p q asked c.carry.result c.carry.ensures in (
      sorted_after w.settings w.regions.items w.bundles.items c.self.invariant.0 c.args.region
          c.in-Ok.at at c.self.invariant.1 p is q kept.0 kept.1,
      settings_after w.settings w.regions.items w.bundles.items c.self.invariant.0 c.args.region
          c.in-Ok.at at c.self.invariant.1 p is q kept.0 kept.1,
      subst IsStanding
          (sym (world_after w.settings w.regions.items w.bundles.items c.self.invariant.0
          c.args.region
          c.in-Ok.at at c.self.invariant.1 p is q kept.0 kept.1))
          (request_standing g.C.Carrier.way s c.args.region asked c.carry.result _
          (request_act g.C.Carrier.way s c.args.region p q asked same plain held c.carry.result
          c.carry.ensures) c.self.invariant.2),
    )

pub returns-in-Ok : goal.returns-in-Ok
returns-in-Ok g c =
    let w = c.self.inside in
    let at = rw c.deref.ensures.value at c.in-Ok.ensures in
    let p = c.index_mut.result.now in
    let is = c.index_mut.ensures.value in
    let s = world w.settings w.regions.items w.bundles.items in
    let held = held_at w.settings w.regions.items w.bundles.items c.self.invariant.0 c.args.region
    c.in-Ok.at at c.self.invariant.1 p is in
    let same = region_is w.settings w.regions.items w.bundles.items c.self.invariant.0 c.args.region
    c.in-Ok.at at c.self.invariant.1 p is in
    let plain = terms_at w.settings w.regions.items w.bundles.items c.self.invariant.0 c.args.region
    c.in-Ok.at at c.self.invariant.1 p is in
    let q = c.carry.new.edge in
    let asked : AskedFields =
    record { now = c.args.now; words = c.args.words.now; bytes = c.args.bytes.now } in
    let kept = carried_number g.C.Carrier.way p q asked c.carry.result c.carry.ensures in
    ended (λ x y. Requests g.C.Carrier.way x c.args.region asked c.carry.result y) s _
    (request_act g.C.Carrier.way s c.args.region p q asked same plain held c.carry.result
    c.carry.ensures)
    _ (world_after w.settings w.regions.items w.bundles.items c.self.invariant.0 c.args.region
    c.in-Ok.at at c.self.invariant.1 p is q kept.0 kept.1) _ c.self.view_is
