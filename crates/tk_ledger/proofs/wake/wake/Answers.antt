use Rattle.std.proofs.Common.{is_some, sym, ap, ◌∙◌}
use Rattle.tk_store.specs.StoreFields.{held_facts}
use Rattle.tk_ledger.specs.Index.{grant_kind}
use Rattle.tk_ledger.proofs.WakeLaws.{wakes_one, wakes_apart}
use Rattle.tk_ledger.proofs.wake.wake.Goals as goal

pub returns-then-is_some : goal.returns-then-is_some
returns-then-is_some c =
    wakes_one (held_facts c.args.facts.now) c.args.forest.now c.write_mark.new.forest c.args.at
    c.grant_kind.result (c.grant_kind.ensures ∙ ap grant_kind c.issued_at.ensures)
    c.write_mark.ensures.links c.write_mark.ensures.marks

pub returns-else-is_some : goal.returns-else-is_some
returns-else-is_some c =
    wakes_apart (held_facts c.args.facts.now) c.args.forest.now c.args.at c.requires.links
    (ap is_some (sym c.code_above.ensures) ∙ sym c.is_some.ensures ∙ c.if-is_some.false)
