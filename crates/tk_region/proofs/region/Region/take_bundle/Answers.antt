use Rattle.std.proofs.Common.{Some, sym, ap, subst, ◌∙◌}
use Rattle.tk_handle.specs.declared.dot.Dot.{Dot}
use Rattle.tk_message.specs.Place.{next_in}
use Rattle.tk_region.specs.RegionFields.{RegionFields, place_in}
use Rattle.tk_region.specs.Taking.{TakesIn}
use Rattle.tk_region.proofs.CapLaws.{capped_taken}
use Rattle.tk_region.proofs.region.Region.take_bundle.Goals as goal

pub invariant_of-self : goal.invariant_of-self
invariant_of-self c =
    let r = c.self.inside in
    let next = c.next_dot-next.ensures
    ∙ ap (λ (r : RegionFields). next_in (place_in r)) (sym c.self.view_is) in
    let takes = subst (λ (d : Dot).
    TakesIn r.ledger d (Some c.args.sent) c.take_bundle.result c.take_bundle.new.ledger) next
    c.take_bundle.ensures in
    capped_taken r.number r.settings r.ledger c.take_bundle.new.ledger c.self.invariant
    (Some c.args.sent) c.take_bundle.result takes
