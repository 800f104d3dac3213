use Rattle.tk_region.proofs.CapLaws.{capped_sliced}
use Rattle.tk_region.proofs.region.Region.prune_some.Goals as goal

pub invariant_of-self : goal.invariant_of-self
invariant_of-self c =
    let r = c.self.inside in
    capped_sliced r.number r.settings r.ledger c.prune_some.new.self c.args.moment c.args.after
    c.args.count c.prune_some.result c.self.invariant c.prune_some.ensures
