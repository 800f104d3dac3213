use Rattle.std.proofs.Common.{◌≡◌, ◌∙◌, ap, sym, subst, arith, ◌==◌, cond}
use Rattle.std.proofs.Common.{get_or, is_some, Option, Some, None}
use Rattle.std.specs.BTreeMap.{get}
use Rattle.tk_handle.specs.Dot.{dot_cmp}
use Rattle.tk_dots.specs.Pages.{Slots, slot_in, IsPage}
use Rattle.tk_dots.proofs.PageLaws.{cells_updated, cells_kept, pages_updated, same_lookups}
use Rattle.tk_handle.proofs.TestLaws.{ok_then as on_ok}
use Rattle.tk_dots.proofs.PageLaws.{on_both, page_one, page_put}
use Rattle.tk_handle.proofs.TestLaws.{err_then as on_err}
use Rattle.tk_dots.proofs.pages.put_in.Goals as goal
use Rattle.std.proofs.lemmas.Option.{same_Some as some_same}
use Rattle.tk_handle.proofs.TestLaws.{none_of}

pub returns-in_err-insert-clause-pages : goal.returns-in_err-insert-clause-pages
returns-in_err-insert-clause-pages g c = λ k v at.
    c.requires.pages k v
    (sym (same_lookups c.args.pages.now c.insert.new.self c.in_err-insert.ensures.err k) ∙ at)

pub returns-then-not-contains_key-clause-cells : goal.returns-then-not-contains_key-clause-cells
returns-then-not-contains_key-clause-cells g c =
    let none : get dot_cmp c.args.pages.now c.args.page ≡ None =
    none_of _ (sym c.contains_key.ensures ∙ c.if-not-contains_key.true) in
    cells_updated c.args.pages.now c.insert.new.self c.args.page (Some c.in_ok-slots.slots)
    c.in_ok-insert.ensures.updates.0 c.args.at (Some c.args.value)
    (λ j. c.in_ok-slots.ensures.items j
    ∙ ap (λ (o : Option (Slots g.row.V.Denot)).
    cond (j == c.args.at) (Some c.args.value) (slot_in o j)) (sym none))

pub returns-then-not-contains_key-clause-pages : goal.returns-then-not-contains_key-clause-pages
returns-then-not-contains_key-clause-pages g c =
    pages_updated c.args.pages.now c.insert.new.self c.args.page (Some c.in_ok-slots.slots)
    c.in_ok-insert.ensures.updates.0 c.requires.pages
    (λ v e. subst (λ (s : Slots g.row.V.Denot). IsPage c.args.page s.items)
    (some_same c.in_ok-slots.slots v e)
    (page_one c.args.page c.in_ok-slots.slots.items c.args.at c.args.value c.requires.within
    c.requires.low c.requires.high
    (omega (arith, c.in_ok-slots.ensures.len, c.in_ok-slots.slots.ok)) c.in_ok-slots.ensures.items))

pub returns-clause-cells : goal.returns-clause-cells
returns-clause-cells g c =
    let here : get dot_cmp c.args.pages.now c.args.page ≡ Some c.in-Some.slots.now =
    sym c.in-Some.ensures.value in
    on_ok c.put.result _ _ c.put.ensures.items (λ written.
    cells_updated c.args.pages.now (c.get_mut.follows.lender c.put.new.slots) c.args.page
    (Some c.put.new.slots)
    ((c.get_mut.follows.holds c.put.new.slots).3 (ap is_some here)).0 c.args.at (Some c.args.value)
    (λ j. written j
    ∙ ap (λ (o : Option (Slots g.row.V.Denot)).
    cond (j == c.args.at) (Some c.args.value) (slot_in o j)) (sym here)))

pub returns-clause-err : goal.returns-clause-err
returns-clause-err g c =
    let here : get dot_cmp c.args.pages.now c.args.page ≡ Some c.in-Some.slots.now =
    sym c.in-Some.ensures.value in
    on_err c.put.result _ _ c.put.ensures.err (λ same.
    cells_kept c.args.pages.now (c.get_mut.follows.lender c.put.new.slots) c.args.page
    c.put.new.slots
    ((c.get_mut.follows.holds c.put.new.slots).3 (ap is_some here)).0
    (λ j. ap (λ xs. get_or xs j None) same
    ∙ ap (λ (o : Option (Slots g.row.V.Denot)). slot_in o j) (sym here)))

pub returns-clause-pages : goal.returns-clause-pages
returns-clause-pages g c =
    let here : get dot_cmp c.args.pages.now c.args.page ≡ Some c.in-Some.slots.now =
    sym c.in-Some.ensures.value in
    let old : IsPage c.args.page c.in-Some.slots.now.items =
    c.requires.pages c.args.page c.in-Some.slots.now here in
    pages_updated c.args.pages.now (c.get_mut.follows.lender c.put.new.slots) c.args.page
    (Some c.put.new.slots)
    ((c.get_mut.follows.holds c.put.new.slots).3 (ap is_some here)).0 c.requires.pages
    (λ v e. subst (λ (s : Slots g.row.V.Denot). IsPage c.args.page s.items)
    (some_same c.put.new.slots v e)
    (on_both c.put.result _ _ _ (IsPage c.args.page c.put.new.slots.items) c.put.ensures.items
    c.put.ensures.len c.put.ensures.err
    (λ written len.
    page_put c.args.page c.in-Some.slots.now.items c.put.new.slots.items c.args.at old c.args.value
    c.requires.within c.requires.low c.requires.high
    (omega (arith, len, c.put.new.slots.ok, c.in-Some.slots.now.ok)) written)
    (λ same. subst (λ xs. IsPage c.args.page xs) (sym same) old)))
