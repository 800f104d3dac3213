use Rattle.std.proofs.Common.{List, ◌++◌, sym, ap, ◌∙◌}
use Rattle.std.specs.FinMap as map
use Rattle.tk_handle.specs.declared.dot.Dot.{Dot}
use Rattle.tk_family.specs.Dots.{has}
use Rattle.tk_store.specs.StoreFields.{held_facts}
use Rattle.tk_ledger.specs.Retention.{picked, picks_code, picks_other}
use Rattle.tk_ledger.proofs.RetentionLaws.{dots_over-sound, dots_over-complete}
use Rattle.tk_ledger.proofs.retention.dots_over.Goals as goal

pub returns-clause-over : goal.returns-clause-over
returns-clause-over c = λ q h.
    dots_over-sound (held_facts c.args.facts.now) c.args.horizon q
    (sym (ap (λ (ds : List Dot). has ds q)
    (c.in_ok-list_others.ensures
    ∙ ap (λ (ds : List Dot).
    ds ++ picked (picks_other (held_facts c.args.facts.now) c.args.horizon)
    (map.entries (held_facts c.args.facts.now))) (c.in_ok-list_codes.ensures
    ∙ ap (λ (ds : List Dot).
    ds ++ picked (picks_code (held_facts c.args.facts.now) c.args.horizon)
    (map.entries (held_facts c.args.facts.now))) c.new-list.ensures.items)))
    ∙ h)

pub returns-clause-all : goal.returns-clause-all
returns-clause-all c = λ q s.
    ap (λ (ds : List Dot). has ds q)
    (c.in_ok-list_others.ensures
    ∙ ap (λ (ds : List Dot).
    ds ++ picked (picks_other (held_facts c.args.facts.now) c.args.horizon)
    (map.entries (held_facts c.args.facts.now))) (c.in_ok-list_codes.ensures
    ∙ ap (λ (ds : List Dot).
    ds ++ picked (picks_code (held_facts c.args.facts.now) c.args.horizon)
    (map.entries (held_facts c.args.facts.now))) c.new-list.ensures.items))
    ∙ dots_over-complete (held_facts c.args.facts.now) c.args.horizon q s
