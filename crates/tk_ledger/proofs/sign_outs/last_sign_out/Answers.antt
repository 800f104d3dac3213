use Rattle.std.proofs.Common.{Option, sym, subst, ap, ◌∙◌}
use Rattle.std.specs.FinMap as map
use Rattle.std.specs.Option.{option_copied}
use Rattle.tk_store.specs.StoreFields.{held_facts}
use Rattle.tk_ledger.specs.SignOuts.{IsLastSignOut, all_but}
use Rattle.tk_ledger.proofs.SignOutLaws.{last_none, last_some, last_missing}
use Rattle.tk_ledger.proofs.sign_outs.last_sign_out.Goals as goal

pub returns-in_err-key : goal.returns-in_err-key
returns-in_err-key c =
    subst (λ (o : Option _).
    IsLastSignOut (map.get (all_but c.args.but (held_facts c.args.facts.now))) c.args.subject.now o)
    (sym c.from_residual.ensures)
    (last_none (all_but c.args.but (held_facts c.args.facts.now)) c.args.outs.now c.args.subject.now
    c.requires (sym c.last_key.ensures.first ∙ ap option_copied c.in_err-key.was))

pub returns-in_err-sign_out_at : goal.returns-in_err-sign_out_at
returns-in_err-sign_out_at c =
    absurd (last_missing (all_but c.args.but (held_facts c.args.facts.now)) c.args.outs.now
    c.args.subject.now c.in_ok-key.key.now
    (sym c.last_key.ensures.first ∙ ap option_copied c.in_ok-key.was)
    (sym c.sign_out_at.ensures ∙ ap option_copied c.in_err-sign_out_at.was))

pub returns : goal.returns
returns c =
    last_some (all_but c.args.but (held_facts c.args.facts.now)) c.args.outs.now c.args.subject.now
    c.in_ok-key.key.now c.in_ok-sign_out_at.field-0.now c.requires c.last_key.ensures.sorted
    (sym c.last_key.ensures.first ∙ ap option_copied c.in_ok-key.was)
    (sym c.sign_out_at.ensures ∙ ap option_copied c.in_ok-sign_out_at.was)
