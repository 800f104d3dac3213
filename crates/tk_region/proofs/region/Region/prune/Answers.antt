use Rattle.std.proofs.Common.{◌≡◌, Result, Ok, Err, IfOk, OnErr, ℕ, sym, subst}
use Rattle.std.specs.declared.alloc.AllocError.{AllocError}
use Rattle.tk_store.specs.StoreFields.{StoreFields}
use Rattle.tk_ledger.specs.Retention.{Prunes}
use Rattle.tk_region.specs.RegionFields.{IsCapped}
use Rattle.tk_region.specs.SettingsFields.{SettingsFields}
use Rattle.tk_region.proofs.CapLaws.{capped_pruned}
use Rattle.tk_region.proofs.region.Region.prune.Goals as goal

-- a region stays under its cap, whether it was pruned or memory ran out
kept : (n : ℕ) (s : SettingsFields) (P Q : StoreFields) (moment : ℕ) (result : Result ℕ AllocError)
    → IsCapped (record { number = n; settings = s; facts = P })
    → IfOk result (λ m. Prunes P moment m Q) → OnErr result (Q ≡ P)
    → IsCapped (record { number = n; settings = s; facts = Q })
kept n s P Q moment (Ok m) k prunes same = capped_pruned n s P Q k moment m prunes
kept n s P Q moment (Err e) k prunes same =
    subst (λ (R : StoreFields). IsCapped (record { number = n; settings = s; facts = R }))
    (sym same) k

pub invariant_of-self : goal.invariant_of-self
invariant_of-self c =
    let r = c.self.inside in
    kept r.number r.settings r.ledger c.prune.new.self c.args.moment c.prune.result c.self.invariant
    c.prune.ensures.prunes c.prune.ensures.err
