use Rattle.tk_region.proofs.CapLaws.{next_under}
use Rattle.tk_region.proofs.region.Region.next_dot.Goals as goal

pub next_in_ledger-requires : goal.next_in_ledger-requires
next_in_ledger-requires c = next_under _ c.self.invariant
