use Rattle.std.proofs.Common.{Some, None, sym, subst, ap, ◌∙◌}
use Rattle.std.specs.FinMap as map
use Rattle.std.specs.Prelude.{nat_le}
use Rattle.tk_store.specs.StoreFields.{held_facts}
use Rattle.tk_ledger.specs.SignOuts.{IsLastSignOut}
use Rattle.tk_ledger.proofs.SignOutLaws.{last_tells}
use Rattle.tk_ledger.proofs.sign_outs.is_signed_out.Goals as goal

pub returns-in-Some : goal.returns-in-Some
returns-in-Some c =
    ap (λ m. nat_le m c.seconds-in-Some.result) c.seconds.ensures.value
    ∙ ap (nat_le c.args.moment) c.seconds-in-Some.ensures.value
    ∙ sym (last_tells (held_facts c.args.facts.now) c.args.subject.now (Some c.in-Some.last)
    (subst (λ o. IsLastSignOut (map.get (held_facts c.args.facts.now)) c.args.subject.now o)
    c.in-Some.is c.last_sign_out.ensures) c.args.moment)

pub returns-in-None : goal.returns-in-None
returns-in-None c =
    sym (last_tells (held_facts c.args.facts.now) c.args.subject.now None
    (subst (λ o. IsLastSignOut (map.get (held_facts c.args.facts.now)) c.args.subject.now o)
    c.in-None.is c.last_sign_out.ensures) c.args.moment)
