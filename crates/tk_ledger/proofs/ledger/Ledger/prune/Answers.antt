use Rattle.std.proofs.Common.{◌≡◌, true, List, subst}
use Rattle.tk_handle.specs.declared.dot.Dot.{Dot}
use Rattle.tk_family.specs.Dots.{has}
use Rattle.tk_ledger.proofs.SkipLaws.{all_may_go}
use Rattle.tk_ledger.proofs.ledger.Ledger.prune.Goals as goal

pub skip_all-requires-clause-may : goal.skip_all-requires-clause-may
skip_all-requires-clause-may c =
    all_may_go c.self.inside.store c.later-horizon.result (has c.deref.result.now)
    (λ d h. c.in_ok-dots.ensures.over d
    (subst (λ (ds : List Dot). has ds d ≡ true) c.deref.ensures.value h))
