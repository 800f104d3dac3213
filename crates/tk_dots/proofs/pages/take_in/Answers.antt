use Rattle.std.proofs.Common.{◌≡◌, ◌∙◌, ap, sym, subst, arith, ℕ, ◌==◌, ◌<◌, cond}
use Rattle.std.proofs.Common.{length, is_some, Option, Some, None, Bool}
use Rattle.std.proofs.Common.{false, eqb-true as nat_same}
use Rattle.std.specs.BTreeMap.{get}
use Rattle.tk_handle.specs.Dot.{dot_cmp}
use Rattle.tk_dots.specs.Pages.{Slots, slot_in, IsPage}
use Rattle.std.proofs.lemmas.List.{get_or_past}
use Rattle.std.proofs.lemmas.Bool.Decides.{nat_tests}
use Rattle.tk_dots.proofs.PageLaws.{cells_updated, pages_updated, taken_out, page_taken}
use Rattle.tk_dots.proofs.pages.take_in.Goals as goal
use Rattle.std.proofs.lemmas.Option.{none-some as none_is, same_Some as some_same}

-- a number that isn't 0 is above 0
some_left : (n : ℕ) (b : Bool) → b ≡ (n == 0) → b ≡ false → 0 < n
some_left n b e h = grind (arith, nat_tests)

pub returns-in-None-clause-pages : goal.returns-in-None-clause-pages
returns-in-None-clause-pages g c = λ k v at.
    c.requires.pages k v (ap (λ m. get dot_cmp m k) (sym c.get_mut.follows.holds-at-none) ∙ at)

pub returns-then-is_empty-clause-cells : goal.returns-then-is_empty-clause-cells
returns-then-is_empty-clause-cells g c =
    let here : get dot_cmp c.args.pages.now c.args.page ≡ Some c.in-Some.slots.now =
    sym c.in-Some.ensures.value in
    let zero_len = nat_same _ 0 (sym c.is_empty.ensures ∙ c.if-is_empty.true) in
    let empty : length c.take-taken.new.slots.items ≡ 0 =
    omega (arith, c.take-taken.new.slots.ok, zero_len) in
    cells_updated c.args.pages.now c.remove.new.self c.args.page None
    (taken_out c.args.pages.now (c.get_mut.follows.lender c.take-taken.new.slots) c.remove.new.self
    c.args.page c.take-taken.new.slots
    ((c.get_mut.follows.holds c.take-taken.new.slots).3 (ap is_some here)).0
    c.remove.ensures.updates.0) c.args.at None
    (λ j. sym (get_or_past c.take-taken.new.slots.items j None (omega (arith, empty)))
    ∙ c.take-taken.ensures.items j
    ∙ ap (λ (o : Option (Slots g.row.V.Denot)). cond (j == c.args.at) None (slot_in o j))
    (sym here))

pub returns-then-is_empty-clause-pages : goal.returns-then-is_empty-clause-pages
returns-then-is_empty-clause-pages g c =
    let here : get dot_cmp c.args.pages.now c.args.page ≡ Some c.in-Some.slots.now =
    sym c.in-Some.ensures.value in
    pages_updated c.args.pages.now c.remove.new.self c.args.page None
    (taken_out c.args.pages.now (c.get_mut.follows.lender c.take-taken.new.slots) c.remove.new.self
    c.args.page c.take-taken.new.slots
    ((c.get_mut.follows.holds c.take-taken.new.slots).3 (ap is_some here)).0
    c.remove.ensures.updates.0) c.requires.pages
    (λ v e. absurd (none_is v e))

pub returns-else-is_empty-clause-cells : goal.returns-else-is_empty-clause-cells
returns-else-is_empty-clause-cells g c =
    let here : get dot_cmp c.args.pages.now c.args.page ≡ Some c.in-Some.slots.now =
    sym c.in-Some.ensures.value in
    cells_updated c.args.pages.now (c.get_mut.follows.lender c.take-taken.new.slots) c.args.page
    (Some c.take-taken.new.slots)
    ((c.get_mut.follows.holds c.take-taken.new.slots).3 (ap is_some here)).0 c.args.at None
    (λ j. c.take-taken.ensures.items j
    ∙ ap (λ (o : Option (Slots g.row.V.Denot)). cond (j == c.args.at) None (slot_in o j))
    (sym here))

pub returns-else-is_empty-clause-pages : goal.returns-else-is_empty-clause-pages
returns-else-is_empty-clause-pages g c =
    let here : get dot_cmp c.args.pages.now c.args.page ≡ Some c.in-Some.slots.now =
    sym c.in-Some.ensures.value in
    let old : IsPage c.args.page c.in-Some.slots.now.items =
    c.requires.pages c.args.page c.in-Some.slots.now here in
    let some = some_left _ c.is_empty.result c.is_empty.ensures c.if-is_empty.false in
    pages_updated c.args.pages.now (c.get_mut.follows.lender c.take-taken.new.slots) c.args.page
    (Some c.take-taken.new.slots)
    ((c.get_mut.follows.holds c.take-taken.new.slots).3 (ap is_some here)).0 c.requires.pages
    (λ v e. subst (λ (s : Slots g.row.V.Denot). IsPage c.args.page s.items)
    (some_same c.take-taken.new.slots v e)
    (page_taken c.args.page c.in-Some.slots.now.items c.take-taken.new.slots.items c.args.at old
    (omega (arith, c.take-taken.ensures.len, c.take-taken.new.slots.ok, c.in-Some.slots.now.ok))
    c.take-taken.ensures.items c.take-taken.ensures.full
    (omega (arith, some, c.take-taken.new.slots.ok))))
