-- What a slice of a prune leaves of a store. Key results:
--   slice_above    what the store knew it knows, or has skipped since
--   slice_leaves   each slot is as it was, or its fact was skipped
use Rattle.std.proofs.Common.{◌≡◌, ℕ, true, List, [], ◌∷◌, Option, Some, None, inl, inr, refl, sym}
use Rattle.std.proofs.Common.{ap, subst, ◌∙◌, arith}
use Rattle.std.specs.Prelude.{◌⊎◌}
use Rattle.std.specs.FinMap as map
use Rattle.tk_handle.specs.declared.dot.Dot.{Dot}
use Rattle.tk_handle.specs.declared.token_id.TokenId.{TokenId}
use Rattle.tk_fact.specs.Keeping.{is_passing, kept_for, names_of}
use Rattle.tk_fact.specs.declared.body.Body.{Body}
use Rattle.tk_fact.specs.declared.body.Body.TheVariants as bodies
use Rattle.tk_store.specs.SlotOrder.{SlotBelow, SlotsBelow, StoreBelow}
use Rattle.tk_store.specs.Slots.{Slot, Held, Skipped, held_slot}
use Rattle.tk_store.specs.StoreFields.{StoreFields, with_horizon, with_skipped}
use Rattle.tk_store.proofs.PutLaws.{by_dot}
use Rattle.tk_store.proofs.SlotLaws.{get_held}
use Rattle.tk_store.proofs.SlotOrderLaws.{below_itself, slots_itself, slots_trans}
use Rattle.tk_ledger.specs.Slices.{Goes, PrunesSome, Steps}
use Rattle.tk_ledger.specs.declared.slices.Slice.{Slice}
use Rattle.tk_ledger.proofs.SkipLaws.{passing_kept}
use Rattle.tk_ledger.proofs.SlicePassLaws.{names_passing as passing_named}

-- a slot with a body holds it
pub held_at : (o : Option Slot) (b : Body) → held_slot o ≡ Some b → o ≡ Some (Held b)
held_at None b e = absurd (cc)
held_at (Some (Held c)) b e = ap (λ x. Some (Held x)) (is_body e)
  where
    is_body : Some c ≡ Some b → c ≡ b
    is_body e = cc
held_at (Some Skipped) b e = absurd (cc)

-- no slot is a slot
pub none_is_some : (s : Slot) → None ≡ Some s → ⊥
none_is_some s e = cc

-- a fact that may go is held, and is of a kind that may be skipped
abbrev IsPassing : StoreFields → Dot → Type 0
IsPassing P d = (b : Body) × (map.get P.slots d ≡ Some (Held b)) × (is_passing b ≡ true)

-- a fact that goes is held, and is of a kind that may be skipped
goes_passing : (P : StoreFields) (d : Dot) → Goes P d → IsPassing P d
goes_passing P d (inl may) = (
  may.fact,
  held_at (map.get P.slots d) may.fact (sym (get_held P.slots d) ∙ may.here),
  passing_kept d may.fact may.token may.kept,
)
goes_passing P d (inr named) = (
  named.fact,
  held_at (map.get P.slots d) named.fact (sym (get_held P.slots d) ∙ named.here),
  passing_named named.fact named.named named.names,
)

-- a store is below itself with a fact skipped that may be
skipped_above : (P : StoreFields) (d : Dot) → IsPassing P d
    → SlotsBelow P.slots (with_skipped P d).slots
skipped_above P d passing q = by_dot (λ o. SlotBelow (map.get P.slots q) o) P.slots d Skipped q
    (λ same. subst (λ o. SlotBelow o (Some Skipped)) (sym (ap (map.get P.slots) same ∙ passing.1))
    passing.2)
    (below_itself (map.get P.slots q))

-- a store knows after the steps of a slice what it knew before
steps_above : (P : StoreFields) (ds : List Dot) (Q : StoreFields) → Steps P ds Q → StoreBelow P Q
steps_above P [] Q same = subst (StoreBelow P) (sym same)
    (record { slots = slots_itself P.slots; horizon = omega (arith) })
steps_above P (d ∷ ds) Q h =
    let rest = steps_above (with_skipped P d) ds Q h.1 in
    record {
      slots = slots_trans P.slots (with_skipped P d).slots Q.slots
          (skipped_above P d (goes_passing P d h.0)) rest.slots;
      horizon = rest.horizon;
    }

-- a store knows after a slice of a prune what it knew before
pub slice_above : (P : StoreFields) (moment : ℕ) (after : Option Dot) (count : ℕ) (slice : Slice)
    (Q : StoreFields)
    → PrunesSome P moment after count slice Q → StoreBelow P Q
slice_above P moment after count slice Q h =
    let up = steps_above (with_horizon P moment) h.went.dots Q h.went.steps in
    record { slots = up.slots; horizon = omega (arith, up.horizon) }

-- a slot is as it was, or its fact was skipped
abbrev pub Leaves : Option Slot → Option Slot → Type 0
Leaves s t = (t ≡ s) ⊎ ((t ≡ Some Skipped) × (s ≡ None → ⊥))

-- the steps of a slice leave each slot, or a mark in its place
steps_leave : (P : StoreFields) (ds : List Dot) (Q : StoreFields) → Steps P ds Q → (d : Dot)
    → Leaves (map.get P.slots d) (map.get Q.slots d)
steps_leave P [] Q same d = inl (ap (λ (R : StoreFields). map.get R.slots d) same)
steps_leave P (x ∷ xs) Q h d = of (steps_leave (with_skipped P x) xs Q h.1 d)
  where
    passing : IsPassing P x
    passing = goes_passing P x h.0

    known : d ≡ x → map.get P.slots d ≡ None → ⊥
    known same none =
        none_is_some (Held passing.0) (sym none ∙ ap (map.get P.slots) same ∙ passing.1)

    step : Leaves (map.get P.slots d) (map.get (with_skipped P x).slots d)
    step = by_dot (λ o. Leaves (map.get P.slots d) o) P.slots x Skipped d
        (λ same. inr (refl, known same)) (inl refl)

    before : (map.get (with_skipped P x).slots d ≡ None → ⊥) → map.get P.slots d ≡ None → ⊥
    before = by_dot (λ o. (o ≡ None → ⊥) → map.get P.slots d ≡ None → ⊥) P.slots x Skipped d
        (λ same some. known same) (λ some. some)

    of : Leaves (map.get (with_skipped P x).slots d) (map.get Q.slots d)
        → Leaves (map.get P.slots d) (map.get Q.slots d)
    of (inl same) = subst (Leaves (map.get P.slots d)) (sym same) step
    of (inr gone) = inr (gone.0, before gone.1)

-- a slice of a prune leaves each slot, or a mark in its place
pub slice_leaves : (P : StoreFields) (moment : ℕ) (after : Option Dot) (count : ℕ) (slice : Slice)
    (Q : StoreFields)
    → PrunesSome P moment after count slice Q
    → (d : Dot) → Leaves (map.get P.slots d) (map.get Q.slots d)
slice_leaves P moment after count slice Q h =
    steps_leave (with_horizon P moment) h.went.dots Q h.went.steps
