use Rattle.std.proofs.Common.{ℕ, ◌+◌, Option, Some, None, sym, subst}
use Rattle.std.specs.FinMap as map
use Rattle.tk_store.specs.StoreFields.{held_facts}
use Rattle.tk_ledger.specs.SignOuts.{IsLastSignOut, IsFirstUnreached}
use Rattle.tk_ledger.proofs.SignOutLaws.{last_leaves}
use Rattle.tk_ledger.proofs.sign_outs.first_unreached.Goals as goal

pub returns-in-Some : goal.returns-in-Some
returns-in-Some c =
    subst (λ (n : ℕ).
    IsFirstUnreached (map.get (map.remove (held_facts c.args.facts.now) c.args.dot))
    c.args.subject.now (n + 1)) (sym c.seconds.ensures.value)
    (last_leaves (map.remove (held_facts c.args.facts.now) c.args.dot) c.args.subject.now
    (Some c.in-Some.last)
    (subst (λ (o : Option ℕ).
    IsLastSignOut (map.get (map.remove (held_facts c.args.facts.now) c.args.dot)) c.args.subject.now
    o) c.in-Some.is c.last_sign_out.ensures))

pub returns-in-None : goal.returns-in-None
returns-in-None c =
    last_leaves (map.remove (held_facts c.args.facts.now) c.args.dot) c.args.subject.now None
    (subst (λ (o : Option ℕ).
    IsLastSignOut (map.get (map.remove (held_facts c.args.facts.now) c.args.dot)) c.args.subject.now
    o) c.in-None.is c.last_sign_out.ensures)
