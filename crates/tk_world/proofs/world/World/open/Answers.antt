use Rattle.std.proofs.Common.{false, ap, sym, ◌∙◌, refl, is_some}
use Rattle.std.specs.FinMap as map
use Rattle.tk_region.specs.RegionFields.{RegionFields}
use Rattle.tk_edge.specs.Terms.{TermsFields, accept_all}
use Rattle.tk_world.specs.Acts.{OpensAt}
use Rattle.tk_world.specs.Carrying.{in_place}
use Rattle.tk_world.specs.declared.event.Event.TheVariants.{Open}
use Rattle.tk_world.proofs.PartLaws.{world, open_act, sorted_new, settings_new, found_at, ended}
use Rattle.tk_world.proofs.EventStands.{step_standing}
use Rattle.tk_world.proofs.world.World.open.Goals as goal

pub returns-in-Ok : goal.returns-in-Ok
returns-in-Ok c =
    let w = c.self.inside in
    let at = rw c.deref.ensures.value at c.in-Ok.ensures in (
      ap (λ s. is_some (map.get s.regions c.args.number)) (sym c.self.view_is)
          ∙ found_at w.settings w.regions.items w.bundles.items c.self.invariant.0 c.args.number
          c.in-Ok.field-0 at,
      refl,
    )

pub invariant_of-self : goal.invariant_of-self
invariant_of-self c =
    let w = c.self.inside in
    let gap = rw c.deref.ensures.value at c.in-Err.ensures in
    let new = c.open_region.new.regions.items in
    let edge = c.new-edge.ensures
    ∙ ap (λ (t : TermsFields). record { region = c.new-region.result; terms = t; sealed = false })
    c.accept_all.ensures
    ∙ ap (λ (r : RegionFields). record { region = r; terms = accept_all; sealed = false })
    c.new-region.ensures in
    let act = open_act w.settings w.regions.items w.bundles.items c.self.invariant.0 c.args.number
    c.in-Err.at gap c.new-edge.result edge c.open_region.result new c.open_region.ensures in (
      sorted_new w.settings w.regions.items w.bundles.items c.self.invariant.0 c.args.number
          c.in-Err.at gap c.new-edge.result edge c.open_region.result new c.open_region.ensures,
      settings_new w.settings w.regions.items w.bundles.items c.self.invariant.0 c.args.number
          c.in-Err.at gap c.new-edge.result edge c.open_region.result new c.open_region.ensures
          c.self.invariant.1,
      step_standing in_place (world w.settings w.regions.items w.bundles.items)
          (Open c.args.number) c.open_region.result _ act c.self.invariant.2,
    )

pub returns-in-Err : goal.returns-in-Err
returns-in-Err c =
    let w = c.self.inside in
    let gap = rw c.deref.ensures.value at c.in-Err.ensures in
    let edge = c.new-edge.ensures
    ∙ ap (λ (t : TermsFields). record { region = c.new-region.result; terms = t; sealed = false })
    c.accept_all.ensures
    ∙ ap (λ (r : RegionFields). record { region = r; terms = accept_all; sealed = false })
    c.new-region.ensures in
    ended (λ s t. OpensAt s c.args.number c.open_region.result t)
    (world w.settings w.regions.items w.bundles.items) _
    (open_act w.settings w.regions.items w.bundles.items c.self.invariant.0 c.args.number
    c.in-Err.at gap c.new-edge.result edge c.open_region.result c.open_region.new.regions.items
    c.open_region.ensures)
    _ refl _ c.self.view_is
