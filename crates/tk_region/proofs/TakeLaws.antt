-- Taking in one more item of a bundle. Key results:
--   puts_fact, puts_mark      one item, by the outcomes of adding a fact and of skipping a dot
--   taken_more                the store after one more item
--   agrees_now                the next item agrees with what is known now
--   at_end                    after the last item, all are taken in
--   counted_new, counted_held   the number of known dots after one more item
use Rattle.std.proofs.Common.{◌≡◌, ◌≢◌, ℕ, zero, suc, ◌+◌, ◌<◌, ◌≤◌, [], ◌∷◌, ◌++◌, length, take}
use Rattle.std.proofs.Common.{get_or, cond, Option, Some, None, IsSome, Result, Ok, Err, refl, sym}
use Rattle.std.proofs.Common.{ap, subst, ◌∙◌, arith}
use Rattle.std.proofs.lemmas.Bool.{true≢false}
use Rattle.std.specs.FinMap as map
use Rattle.std.proofs.lemmas.Grind.{take_at_read}
use Rattle.tk_handle.specs.declared.dot.Dot.{Dot}
use Rattle.tk_handle.specs.Dot.{dot_cmp_total}
use Rattle.tk_fact.specs.declared.body.Body.{Body}
use Rattle.tk_store.specs.Adding.{AddsTo, HasFact, RefusesFact}
use Rattle.tk_store.specs.Skipping.{Skips, MayGo, Lasts}
use Rattle.tk_store.specs.SlotJoining.{Passes}
use Rattle.tk_store.specs.SlotOrder.{SlotAgrees}
use Rattle.tk_store.specs.Slots.{Slot, Slots, Held, Skipped, joined_slot, with_slots}
use Rattle.tk_store.specs.StoreFields.{StoreFields}
use Rattle.tk_store.specs.declared.store.Added.{Added}
use Rattle.tk_store.specs.declared.store.Added.TheVariants as added
use Rattle.tk_store.specs.declared.store.AddError.{AddError}
use Rattle.tk_store.specs.declared.store.AddError.TheVariants as error
use Rattle.tk_store.proofs.PutLaws.{by_dot, len_new, none_is_not_some, some_injective}
use Rattle.tk_store.proofs.SlotOrderLaws.{added_joins, added_horizon, skipped_joins}
use Rattle.tk_store.proofs.SlotOrderLaws.{skipped_horizon}
use Rattle.tk_bundle.specs.BundleFields.{Items, fact_of}
use Rattle.tk_region.specs.declared.take.TakeError.TheVariants.{Conflict}
use Rattle.tk_region.specs.declared.take.TakeError.TheVariants.{Memory}
use Rattle.tk_region.specs.Taking.{AgreesWith, raised, items_taken, Puts}

-- ---- one item

-- a store with a slot joined, and the horizon as before, is one that took one item in
one_item : (P Q : StoreFields) (e : Dot × Slot)
    → Q.slots ≡ map.insert P.slots e.0 (joined_slot (map.get P.slots e.0) e.1)
    → Q.horizon ≡ P.horizon → Q ≡ items_taken P (e ∷ [])
one_item P Q e slots horizon = λ i. record { slots = slots i; horizon = horizon i }

-- a fact that was added, or was held before, leaves the store with that one item taken in
added_one : (P Q : StoreFields) (f : Dot × Body) (a : Added) → AddsTo P f (Ok a) Q
    → Q ≡ items_taken P ((f.0, Held f.1) ∷ [])
added_one P Q f a adds =
    one_item P Q (f.0, Held f.1) (added_joins P Q f f a refl adds) (added_horizon P Q f (Ok a) adds)

-- a fact that is added is put into the store
pub puts_fact : (P Q : StoreFields) (f : Dot × Body) (r : Result Added AddError) → AddsTo P f r Q
    → Puts P (f.0, Held f.1) r Q
puts_fact P Q f (Ok added.New) adds = (adds.0, added_one P Q f added.New adds)
puts_fact P Q f (Ok added.Held) adds =
    (known (map.get P.slots f.0) adds.0, added_one P Q f added.Held adds)
  where
    known : (o : Option Slot) → HasFact f.1 o → IsSome o
    known None h = absurd h
    known (Some s) h = refl
puts_fact P Q f (Err error.Conflict) adds = differs (map.get P.slots f.0) adds.0
  where
    differs : (o : Option Slot) → RefusesFact f.1 o → ¬ SlotAgrees o (Some (Held f.1))
    differs None h agrees = h
    differs (Some (Held c)) h agrees = h agrees
    differs (Some Skipped) h agrees = true≢false (sym agrees ∙ h)
puts_fact P Q f (Err error.Memory) adds = adds.1

-- a dot that was skipped leaves the store with that one mark taken in
skipped_one : (P Q : StoreFields) (d : Dot) (a : Added) → Skips P d (Ok a) Q
    → Q ≡ items_taken P ((d, Skipped) ∷ [])
skipped_one P Q d a skips =
    one_item P Q (d, Skipped) (skipped_joins P Q d a skips) (skipped_horizon P Q d (Ok a) skips)

-- a dot that is skipped puts its mark into the store
pub puts_mark : (P Q : StoreFields) (d : Dot) (r : Result Added AddError) → Skips P d r Q
    → Puts P (d, Skipped) r Q
puts_mark P Q d (Ok added.New) skips = (skips.0, skipped_one P Q d added.New skips)
puts_mark P Q d (Ok added.Held) skips =
    (known (map.get P.slots d) skips.0, skipped_one P Q d added.Held skips)
  where
    known : (o : Option Slot) → MayGo o → IsSome o
    known None h = absurd h
    known (Some s) h = refl
puts_mark P Q d (Err error.Conflict) skips = differs (map.get P.slots d) skips.0
  where
    differs : (o : Option Slot) → Lasts o → ¬ SlotAgrees o (Some Skipped)
    differs None h agrees = h
    differs (Some (Held b)) h agrees = true≢false (sym agrees ∙ h)
    differs (Some Skipped) h agrees = h
puts_mark P Q d (Err error.Memory) skips = skips.1

-- an item is its fact, or the mark of its dot
pub item_of_fact : (i : Dot × Slot) (f : Dot × Body) → fact_of i ≡ Some f → i ≡ (f.0, Held f.1)
item_of_fact (d, Held b) f h = ap (λ (g : Dot × Body). (g.0, Held g.1)) (some_injective (d, b) f h)
item_of_fact (d, Skipped) f h = absurd (none_is_not_some f h)

-- an item without a fact is a mark
pub item_of_mark : (i : Dot × Slot) → fact_of i ≡ None → i ≡ (i.0, Skipped)
item_of_mark (d, Held b) h = absurd (none_is_not_some (d, b) (sym h))
item_of_mark (d, Skipped) h = refl

-- an item at a free dot makes one more known dot
pub counted_new : (P Q : StoreFields) (e : Dot × Slot) → map.get P.slots e.0 ≡ None
    → Q ≡ items_taken P (e ∷ []) → map.len P.slots + 1 ≡ map.len Q.slots
counted_new P Q e none is = sym (ap (λ (R : StoreFields). map.len R.slots) is
    ∙ len_new P.slots e.0 (joined_slot (map.get P.slots e.0) e.1) none)

-- an item at a known dot makes no more known dots
pub counted_held : (P Q : StoreFields) (e : Dot × Slot) → IsSome (map.get P.slots e.0)
    → Q ≡ items_taken P (e ∷ []) → map.len P.slots ≡ map.len Q.slots
counted_held P Q e known is =
    sym (ap (λ (R : StoreFields). map.len R.slots) is
    ∙ map.len-insert dot_cmp_total P.slots e.0 (joined_slot (map.get P.slots e.0) e.1)
    ∙ ap (λ t. cond t (map.len P.slots) (map.len P.slots + 1)) known)

-- ---- the next item of a list

-- the dots of the list differ from the given dot
abbrev pub Avoids : Dot → Items → Type 0
Avoids d [] = Unit {0}
Avoids d (i ∷ items) = (i.0 ≢ d) × Avoids d items

-- the dots of the list differ from each other
abbrev pub Differs : Items → Type 0
Differs [] = Unit {0}
Differs (i ∷ items) = Avoids i.0 items × Differs items

-- each fact of the list passes its check
abbrev pub AllPass : Items → Type 0
AllPass [] = Unit {0}
AllPass (i ∷ items) = Passes i.1 × AllPass items

-- the fact of an item at a place passes its check
pub passes_at : (items : Items) (i : ℕ) (e : Dot × Slot) → AllPass items → i < length items
    → Passes (get_or items i e).1
passes_at [] i e all lt = absurd (omega arith)
passes_at (x ∷ items) zero e all lt = all.0
passes_at (x ∷ items) (suc i) e all lt = passes_at items i e all.1 (omega arith)

-- a slot at one dot keeps the agreement at others
agrees_after : (S : Slots) (d : Dot) (s : Slot) (items : Items) → Avoids d items
    → AgreesWith S items → AgreesWith (map.insert S d s) items
agrees_after S d s [] v a = tt
agrees_after S d s (i ∷ items) v a = (
  by_dot (λ o. SlotAgrees o (Some i.1)) S d s i.0 (λ same. absurd (v.0 same)) a.0,
  agrees_after S d s items v.1 a.1,
)

-- an item agrees with the slots after the items before it, if all agree and dots differ
agrees_at : (S : Slots) (items : Items) (i : ℕ) (e : Dot × Slot) → Differs items
    → AgreesWith S items → i < length items
    → SlotAgrees (map.get (with_slots S (take i items)) (get_or items i e).0)
    (Some (get_or items i e).1)
agrees_at S [] i e v a lt = absurd (omega arith)
agrees_at S (x ∷ items) zero e v a lt = a.0
agrees_at S (x ∷ items) (suc i) e v a lt =
    agrees_at (map.insert S x.0 (joined_slot (map.get S x.0) x.1)) items i e v.1
    (agrees_after S x.0 (joined_slot (map.get S x.0) x.1) items v.0 a.1) (omega arith)

-- two lists of slots joined one after the other are joined as one list
with_slots-append : (S : Slots) (es fs : Items)
    → with_slots S (es ++ fs) ≡ with_slots (with_slots S es) fs
with_slots-append S [] fs = refl
with_slots-append S (e ∷ es) fs =
    with_slots-append (map.insert S e.0 (joined_slot (map.get S e.0) e.1)) es fs

module _ (P Q : StoreFields) (items : Items) (i : ℕ) (e : Dot × Slot) (is : e ≡ get_or items i e)
    (within : i < length items) (so_far : Q ≡ items_taken P (take i items)) where
  -- the slots with the items so far and the next one are those with one more item
  one_more : with_slots (with_slots P.slots (take i items)) (e ∷ [])
      ≡ with_slots P.slots (take (i + 1) items)
  one_more =
      ap (λ x. with_slots (with_slots P.slots (take i items)) (x ∷ [])) is
      ∙ sym (ap (with_slots P.slots) (take_at_read items i e within).1
      ∙ with_slots-append P.slots (take i items) (get_or items i e ∷ []))

  -- one more item is taken in
  pub taken_more : (R : StoreFields) → R ≡ items_taken Q (e ∷ [])
      → R ≡ items_taken P (take (i + 1) items)
  taken_more R more =
      more ∙ ap (λ (X : StoreFields). items_taken X (e ∷ [])) so_far
      ∙ ap (λ (S : Slots). record { slots = S; horizon = P.horizon }) one_more

  -- the next item agrees with what was taken in so far
  pub agrees_now : Differs items → AgreesWith P.slots items
      → SlotAgrees (map.get Q.slots e.0) (Some e.1)
  agrees_now differs agree =
      subst (λ (x : Dot × Slot). SlotAgrees (map.get Q.slots x.0) (Some x.1)) (sym is)
      (subst (λ (X : StoreFields).
      SlotAgrees (map.get X.slots (get_or items i e).0) (Some (get_or items i e).1)) (sym so_far)
      (agrees_at P.slots items i e differs agree within))

  -- the fact of the next item passes its check
  pub passes_now : AllPass items → Passes e.1
  passes_now all = subst (λ (x : Dot × Slot). Passes x.1) (sym is) (passes_at items i e all within)

-- after the last item, all items of the list are taken in
pub at_end : (P Q : StoreFields) (items : Items) (i : ℕ) → length items ≤ i
    → Q ≡ items_taken P (take i items) → Q ≡ items_taken P items
at_end P Q items i past so_far = so_far ∙ ap (items_taken P) (whole i items past)
  where
    whole : (i : ℕ) (items : Items) → length items ≤ i → take i items ≡ items
    whole zero [] past = refl
    whole zero (x ∷ items) past = absurd (omega arith)
    whole (suc i) [] past = refl
    whole (suc i) (x ∷ items) past = ap (λ l. x ∷ l) (whole i items (omega arith))

-- ---- the horizon

-- raising the horizon leaves the slots
pub raised_slots : (P : StoreFields) (h : Option ℕ) → (raised P h).slots ≡ P.slots
raised_slots P None = refl
raised_slots P (Some moment) = refl
