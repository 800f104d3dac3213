use Rattle.std.proofs.Common.{◌≡◌}
use Rattle.std.specs.List.{filter_map}
use Rattle.tk_store.specs.StoreFields.{held_facts}
use Rattle.tk_store.specs.Walk.{above}
use Rattle.tk_ledger.specs.SubjectWalk.{seen, login_by, logins_of}
use Rattle.tk_ledger.proofs.DotWalkLaws.{placed}
use Rattle.tk_ledger.proofs.ledger.Ledger.login_after.Given as goal

-- what is shown at the keys that are left is what is above the dot
abbrev pub invariant-loop-key : goal.invariant-loop-key
invariant-loop-key l =
    filter_map (seen (login_by (held_facts l.self) l.now l.subject))
    (placed (λ k. k.code) l.key-iterator)
    ≡ above (logins_of (held_facts l.self) l.now l.subject) l.fn.after
