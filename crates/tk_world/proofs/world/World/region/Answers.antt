use Rattle.std.proofs.Common.{◌≡◌, Some, None, ap, sym, subst, ◌∙◌}
use Rattle.std.specs.Option.{option_map}
use Rattle.std.specs.FinMap as map
use Rattle.tk_region.specs.RegionFields.{RegionFields}
use Rattle.tk_world.specs.WorldFields.{WorldFields, region_at}
use Rattle.tk_world.proofs.PartLaws.{world, absent_at, held_at, region_is}
use Rattle.tk_world.proofs.world.World.region.Goals as goal

pub returns-in-Ok : goal.returns-in-Ok
returns-in-Ok c =
    let w = c.self.inside in
    let at = rw c.deref.ensures.value at c.in-Ok.ensures in
    let p = c.index.result.now in
    let is = c.index.ensures in
    let s = world w.settings w.regions.items w.bundles.items in
    let held = held_at w.settings w.regions.items w.bundles.items c.self.invariant.0 c.args.number
    c.in-Ok.at at c.self.invariant.1 p is in
    let same = region_is w.settings w.regions.items w.bundles.items c.self.invariant.0 c.args.number
    c.in-Ok.at at c.self.invariant.1 p is in
    subst (λ (x : WorldFields).
    Some c.region.result.now
    ≡ option_map (region_at x c.args.number) (map.get x.regions c.args.number)) c.self.view_is
    (ap (λ (r : RegionFields). Some r) (c.region.ensures ∙ same)
    ∙ sym (ap (option_map (region_at s c.args.number)) held))

pub returns-in-Err : goal.returns-in-Err
returns-in-Err c =
    let w = c.self.inside in
    let none = absent_at w.settings w.regions.items w.bundles.items c.self.invariant.0 c.args.number
    c.in-Err.field-0 (rw c.deref.ensures.value at c.in-Err.ensures) in
    subst (λ (x : WorldFields).
    None ≡ option_map (region_at x c.args.number) (map.get x.regions c.args.number)) c.self.view_is
    (sym (ap (option_map
    (region_at (world w.settings w.regions.items w.bundles.items) c.args.number)) none))
