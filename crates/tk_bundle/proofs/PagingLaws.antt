-- Paging by the flag `more` loses nothing, without runs and with them. Key results:
--   complete   a receiver that takes in each page has all
use Rattle.std.proofs.Common.{◌≡◌, ℕ, zero, suc, ◌<◌, Bool, true, false, nat_lt, List, [], ◌∷◌}
use Rattle.std.proofs.Common.{length, take, Option, Some, None, refl, sym, ap, subst, ◌∙◌, arith}
use Rattle.std.proofs.Common.{inl, inr}
use Rattle.std.proofs.lemmas.Bool.{cases_Bool, ltb-false}
use Rattle.std.specs.FinMap as sets
use Rattle.tk_handle.specs.declared.dot.Dot.{Dot}
use Rattle.tk_vector.specs.VersionVector.{Vector}
use Rattle.tk_store.specs.Beyond.{beyond, is_beyond}
use Rattle.tk_store.specs.Paging.{last_dot, page}
use Rattle.tk_store.specs.SlotJoining.{AllBelow}
use Rattle.tk_store.specs.SlotOrder.{SlotBelow}
use Rattle.tk_store.specs.Slots.{Slot, Slots}
use Rattle.tk_store.specs.StoreFields.{StoreFields}
use Rattle.tk_store.specs.Walk.{is_above}
use Rattle.tk_store.proofs.PagingLaws as store
use Rattle.tk_store.proofs.SlotOrderLaws.{below_trans}
use Rattle.tk_bundle.specs.BundleFields.{Items}
use Rattle.tk_bundle.specs.Bundle.{max_items}
use Rattle.tk_bundle.specs.Page.{PageFields}
use Rattle.tk_bundle.specs.Paging.{page_by, HasPages, PagesComplete}
use Rattle.tk_bundle.specs.PieceBytes.{max_pieces, max_run_items}
use Rattle.tk_bundle.specs.Pieces.{first_pieces}
use Rattle.tk_bundle.specs.RunPage.{run_items}
use Rattle.tk_bundle.proofs.PieceCountLaws.{fitting_is}
use Rattle.tk_bundle.proofs.RunPageLaws.{run_first}

-- a page has the first `size` slots that a vector does not cover, and some if there are any
record IsFirst (P : StoreFields) (v : Vector) (after : Option Dot) (made : PageFields)
    : Type 0 where
  size : ℕ
  items : made.bundle.items ≡ take size (beyond P.slots v after)
  last : made.last ≡ last_dot (take size (beyond P.slots v after))
  more : made.more ≡ nat_lt size (length (beyond P.slots v after))
  some : 0 < length (beyond P.slots v after) → 0 < size

-- the first pieces of some items are some items
pieces_some : (items : Items) (n : ℕ) → 0 < length items → 0 < n
    → 0 < length (take n items)
pieces_some [] n some low = absurd (omega arith)
pieces_some (i ∷ items) zero some low = absurd (omega arith)
pieces_some (i ∷ items) (suc n) some low = omega arith

-- the first pieces of some items have some items
run_some : (items : Items) → 0 < length items → 0 < length (first_pieces max_pieces items)
run_some [] some = absurd (omega arith)
run_some (i ∷ items) some = omega (arith, fitting_is max_pieces (i ∷ items))

-- each page has the first slots that a vector does not cover
first : (runs : Bool) (P : StoreFields) (v : Vector) (after : Option Dot)
    → IsFirst P v after (page_by runs P v after)
first false P v after = record {
  size = max_items;
  items = refl;
  last = refl;
  more = refl;
  some = λ some. omega arith;
}
first true P v after =
    let R = run_items P v after in
    let is = run_first P v after in
    record {
      size = length R;
      items = is;
      last = ap last_dot is;
      more = refl;
      some = λ some. run_some (page max_run_items P.slots v after)
          (pieces_some (beyond P.slots v after) max_run_items some (omega arith));
    }

-- an entry of a list shows that there are some
some_in : (items : Items) (d : Dot) (b : Slot) → store.IsIn d b items → 0 < length items
some_in [] d b h = absurd h
some_in (i ∷ items) d b h = omega arith

-- a receiver of all pages past a cursor knows each slot there that the vector doesn't cover
taken : (runs : Bool) (v : Vector) (R : Slots) (later : List StoreFields) (after : Option Dot)
    (P : StoreFields) → HasPages runs v R after P later
    → (d : Dot) (b : Slot) → sets.get P.slots d ≡ Some b → is_beyond v (d, b) ≡ true
    → is_above after (d, b) ≡ true → SlotBelow (Some b) (sets.get R d)
taken runs v R [] after P has d b known free past =
    let p = first runs P v after in
    store.in_all R (beyond P.slots v after) d b
    (store.in_beyond P.slots v after d b known free past)
    (subst (AllBelow R) (p.items
    ∙ store.take_whole p.size (beyond P.slots v after) (ltb-false _ _ (sym p.more ∙ has.1))) has.0)
taken runs v R (Q ∷ later) after P has d b known free past =
    let p = first runs P v after in
    let here = store.in_beyond P.slots v after d b known free past in
    elim (store.in_page p.size (beyond P.slots v after) d b (store.rises P.slots v after) here
    (p.some (some_in (beyond P.slots v after) d b here))) [
      | inl page_has ↦ store.in_all R (take p.size (beyond P.slots v after)) d b page_has
          (subst (AllBelow R) p.items has.0)
      | inr further ↦
          let c = store.above_known b (sets.get Q.slots d) grown in
          below_trans (Some b) (Some c.0) (sets.get R d) (subst (SlotBelow (Some b)) c.1 grown)
          (taken runs v R later (page_by runs P v after).last Q has.3 d c.0 c.1 free
          (subst (λ o. is_above o (d, c.0) ≡ true) (sym p.last)
          (store.above_any (last_dot (take p.size (beyond P.slots v after))) d b c.0 further)))
    ]
  where
    grown : SlotBelow (Some b) (sets.get Q.slots d)
    grown = subst (λ o. SlotBelow o (sets.get Q.slots d)) known (has.2 d)

-- a receiver that takes in each page has all
pub complete : PagesComplete
complete runs v P R later covered has d = by_slot (sets.get P.slots d) refl
  where
    by_slot : (o : Option Slot) → sets.get P.slots d ≡ o → SlotBelow o (sets.get R.slots d)
    by_slot None at = tt
    by_slot (Some b) at = elim (cases_Bool (is_beyond v (d, b))) [
      | inl free ↦ taken runs v R.slots later None P has d b at free refl
      | inr not_free ↦ subst (λ o. SlotBelow o (sets.get R.slots d)) at
          (covered d (store.covered v d b not_free))
    ]
