use Rattle.std.proofs.Common.{◌≡◌, ◌∙◌, ap, sym, subst, arith, ◌==◌, cond}
use Rattle.std.proofs.Common.{is_some, Option, Some, None}
use Rattle.std.specs.BTreeMap.{get}
use Rattle.tk_handle.specs.Dot.{dot_cmp}
use Rattle.tk_dots.specs.Pages.{Slots, slot_in, cell, IsPage}
use Rattle.tk_dots.proofs.PageLaws.{cells_updated, pages_updated, page_set}
use Rattle.tk_dots.proofs.pages.set_in.Goals as goal
use Rattle.std.proofs.lemmas.Option.{same_Some as some_same}

pub returns-in-Some-clause-cells : goal.returns-in-Some-clause-cells
returns-in-Some-clause-cells g c =
    let here : get dot_cmp c.args.pages.now c.args.page ≡ Some c.in-Some.slots.now =
    sym c.in-Some.ensures.value in
    cells_updated c.args.pages.now (c.get_mut.follows.lender c.set.new.slots) c.args.page
    (Some c.set.new.slots)
    ((c.get_mut.follows.holds c.set.new.slots).3 (ap is_some here)).0 c.args.at
    (cond (is_some (cell c.args.pages.now c.args.page c.args.at)) (Some c.args.value) None)
    (λ j. c.set.ensures.items j
    ∙ ap (λ (o : Option (Slots g.row.V.Denot)).
    cond (j == c.args.at) (cond (is_some (slot_in o c.args.at)) (Some c.args.value) None)
    (slot_in o j)) (sym here))

pub returns-in-Some-clause-pages : goal.returns-in-Some-clause-pages
returns-in-Some-clause-pages g c =
    let here : get dot_cmp c.args.pages.now c.args.page ≡ Some c.in-Some.slots.now =
    sym c.in-Some.ensures.value in
    let old : IsPage c.args.page c.in-Some.slots.now.items =
    c.requires.pages c.args.page c.in-Some.slots.now here in
    pages_updated c.args.pages.now (c.get_mut.follows.lender c.set.new.slots) c.args.page
    (Some c.set.new.slots)
    ((c.get_mut.follows.holds c.set.new.slots).3 (ap is_some here)).0 c.requires.pages
    (λ v e. subst (λ (s : Slots g.row.V.Denot). IsPage c.args.page s.items)
    (some_same c.set.new.slots v e)
    (page_set c.args.page c.in-Some.slots.now.items c.set.new.slots.items c.args.at old c.args.value
    (omega (arith, c.set.ensures.len, c.set.new.slots.ok, c.in-Some.slots.now.ok))
    c.set.ensures.items))

pub returns-in_default-clause-pages : goal.returns-in_default-clause-pages
returns-in_default-clause-pages g c = λ k v at.
    c.requires.pages k v (ap (λ m. get dot_cmp m k) (sym c.get_mut.follows.holds-at-none) ∙ at)
