use Rattle.std.proofs.Common.{Option, sym, ap, ◌∙◌}
use Rattle.std.specs.FinMap as map
use Rattle.tk_handle.specs.declared.dot.Dot.{Dot}
use Rattle.tk_store.specs.StoreFields.{held_facts}
use Rattle.tk_ledger.specs.SignOuts.{sign_out_at, all_but}
use Rattle.tk_ledger.proofs.SignOutLaws.{sign_out-gone, sign_out-kept}
use Rattle.tk_ledger.proofs.sign_outs.sign_out_at.Goals as goal

pub returns-then-same_dots : goal.returns-then-same_dots
returns-then-same_dots c =
    sym (ap (λ (o : Option Dot).
    sign_out_at (map.get (all_but o (held_facts c.args.facts.now))) c.args.at) c.in-Some.is
    ∙ sign_out-gone (held_facts c.args.facts.now) c.in-Some.dot c.args.at
    (sym c.same_dots.ensures ∙ c.if-same_dots.true))

pub returns-else-same_dots : goal.returns-else-same_dots
returns-else-same_dots c =
    c.held_sign_out.ensures
    ∙ sym (ap (λ (o : Option Dot).
    sign_out_at (map.get (all_but o (held_facts c.args.facts.now))) c.args.at) c.in-Some.is
    ∙ sign_out-kept (held_facts c.args.facts.now) c.in-Some.dot c.args.at
    (sym c.same_dots.ensures ∙ c.if-same_dots.false))
