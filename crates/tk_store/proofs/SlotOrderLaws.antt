-- Stores are ordered by what they know, and two that agree have a least store above both. Key
-- results:
--   store_laws                          the contract of `stores_join`
--   whole_agree                         the contract of `whole_stores_agree`
--   join_left, join_right, join_least   a slot joined to what is known of its dot
--   get_joined                          what joined slots know of a dot
use Rattle.std.proofs.Common.{◌≡◌, max, Bool, true, false, cond, T, List, [], ◌∷◌, Option, Some}
use Rattle.std.proofs.Common.{None, Result, Ok, Err, refl, sym, ap, subst, ◌∙◌, arith}
use Rattle.std.proofs.lemmas.Bool.{true≢false}
use Rattle.std.specs.Ordering.{eq_by_cmp}
use Rattle.std.specs.FinMap as map
use Rattle.tk_handle.specs.declared.dot.Dot.{Dot}
use Rattle.tk_handle.specs.Dot.{dot_cmp, dot_cmp_total, dot_cmp-IsAntisymmetric}
use Rattle.tk_fact.specs.declared.body.Body.{Body}
use Rattle.tk_fact.specs.Keeping.{is_passing}
use Rattle.tk_vector.specs.Join.{IsJoin, JoinLaws}
use Rattle.tk_store.specs.Slots.{Slot, Slots, Held, Skipped, is_skipped_slot, joined_slot}
use Rattle.tk_store.specs.Slots.{with_slots}
use Rattle.tk_store.specs.StoreFields.{StoreFields, with_skipped}
use Rattle.tk_store.specs.Adding.{AddsTo, HasFact}
use Rattle.tk_store.specs.Skipping.{Skips}
use Rattle.tk_store.specs.declared.store.Added.{Added}
use Rattle.tk_store.specs.declared.store.Added.TheVariants as added
use Rattle.tk_store.specs.declared.store.AddError.{AddError}
use Rattle.tk_store.specs.declared.store.AddError.TheVariants.{Conflict, Memory}
use Rattle.tk_store.specs.SlotOrder.{SlotBelow, SlotsBelow, StoreBelow, SlotAgrees, SlotsAgree}
use Rattle.tk_store.specs.SlotOrder.{StoresAgree, joined_store}
use Rattle.tk_store.specs.WholeStores.{WholeAgree}
use Rattle.tk_handle.proofs.TestLaws.{tied}
use Rattle.tk_store.proofs.PutLaws.{insert_held}
use Rattle.tk_store.proofs.SlotLaws.{absent_below}
use Rattle.tk_handle.proofs.TestLaws.{both}

-- ---- the order

-- a slot is below itself
pub below_itself : (a : Option Slot) → SlotBelow a a
below_itself None = tt
below_itself (Some (Held b)) = refl
below_itself (Some Skipped) = tt

-- what is below a slot that is below another is below that one
pub below_trans : (a b c : Option Slot) → SlotBelow a b → SlotBelow b c → SlotBelow a c
below_trans None b c x y = tt
below_trans (Some s) None c x y = absurd x
below_trans (Some (Held u)) (Some (Held v)) None x y = absurd y
below_trans (Some (Held u)) (Some (Held v)) (Some (Held w)) x y = x ∙ y
below_trans (Some (Held u)) (Some (Held v)) (Some Skipped) x y = ap is_passing x ∙ y
below_trans (Some (Held u)) (Some Skipped) None x y = absurd y
below_trans (Some (Held u)) (Some Skipped) (Some (Held w)) x y = absurd y
below_trans (Some (Held u)) (Some Skipped) (Some Skipped) x y = x
below_trans (Some Skipped) (Some (Held v)) c x y = absurd x
below_trans (Some Skipped) (Some Skipped) c x y = y

-- slots that are below each other are equal
below_antisym : (a b : Option Slot) → SlotBelow a b → SlotBelow b a → a ≡ b
below_antisym None None x y = refl
below_antisym None (Some s) x y = absurd y
below_antisym (Some s) None x y = absurd x
below_antisym (Some (Held u)) (Some (Held v)) x y = ap (λ (b : Body). Some (Held b)) x
below_antisym (Some (Held u)) (Some Skipped) x y = absurd y
below_antisym (Some Skipped) (Some (Held v)) x y = absurd x
below_antisym (Some Skipped) (Some Skipped) x y = refl

-- slots are below themselves
pub slots_itself : (S : Slots) → SlotsBelow S S
slots_itself S d = below_itself (map.get S d)

-- slots below others that are below more are below these
pub slots_trans : (S T R : Slots) → SlotsBelow S T → SlotsBelow T R → SlotsBelow S R
slots_trans S T R a b d = below_trans (map.get S d) (map.get T d) (map.get R d) (a d) (b d)

-- slots that are below each other are equal
pub slots_antisym : (S T : Slots) → SlotsBelow S T → SlotsBelow T S → S ≡ T
slots_antisym S T a b = map.same_map dot_cmp_total dot_cmp-IsAntisymmetric _ _
    (λ d. below_antisym (map.get S d) (map.get T d) (a d) (b d))

-- ---- a slot joined to what is known of its dot

-- a slot is below its join with another
pub join_left : (a : Option Slot) (s : Slot) → SlotAgrees a (Some s)
    → SlotBelow a (Some (joined_slot a s))
join_left None s g = tt
join_left (Some (Held x)) (Held y) g = refl
join_left (Some (Held x)) Skipped g = g
join_left (Some Skipped) (Held y) g = tt
join_left (Some Skipped) Skipped g = tt

-- the other slot is below the join, too
pub join_right : (a : Option Slot) (s : Slot) → SlotAgrees a (Some s)
    → SlotBelow (Some s) (Some (joined_slot a s))
join_right None s g = below_itself (Some s)
join_right (Some (Held x)) (Held y) g = sym g
join_right (Some (Held x)) Skipped g = tt
join_right (Some Skipped) (Held y) g = g
join_right (Some Skipped) Skipped g = tt

-- the join is below all that are above both
pub join_least : (a : Option Slot) (s : Slot) (c : Option Slot) → SlotBelow a c
    → SlotBelow (Some s) c → SlotBelow (Some (joined_slot a s)) c
join_least None s c x y = y
join_least (Some (Held u)) (Held v) c x y = x
join_least (Some (Held u)) Skipped c x y = y
join_least (Some Skipped) s c x y = x

-- the joined slot agrees with the slot that was joined to it
pub join_agrees : (a : Option Slot) (s : Slot) → SlotAgrees a (Some s)
    → SlotAgrees (Some (joined_slot a s)) (Some s)
join_agrees None (Held y) g = refl
join_agrees None Skipped g = tt
join_agrees (Some (Held x)) (Held y) g = g
join_agrees (Some (Held x)) Skipped g = tt
join_agrees (Some Skipped) s g = g

-- ---- all slots joined

-- what one store knows of a dot, joined with what another knows of it
abbrev pub slot_join : Option Slot → Option Slot → Option Slot
slot_join a None = a
slot_join a (Some s) = Some (joined_slot a s)

-- a look-up in slots joined with a sorted list joins a look-up in each
get_with : (S : Slots) (es : List (Dot × Slot)) → T (map.is_sorted dot_cmp es) → (q : Dot)
    → map.get (with_slots S es) q ≡ slot_join (map.get S q) (map.find dot_cmp q es)
get_with S [] sorted q = refl
get_with S (e ∷ es) sorted q =
    let s = both _ _ sorted in
    get_with (map.insert S e.0 (joined_slot (map.get S e.0) e.1)) es s.1 q
    ∙ ap (λ o. slot_join o (map.find dot_cmp q es))
    (map.get-insert dot_cmp_total S e.0 (joined_slot (map.get S e.0) e.1) q)
    ∙ by_dot (eq_by_cmp dot_cmp q e.0)
    (λ same. (
      ap (map.get S) (tied q e.0 same),
      subst (λ (d : Dot). map.find dot_cmp d es ≡ None) (sym (tied q e.0 same))
          (absent_below e.0 es s.0),
    ))
  where
    by_dot : (t : Bool)
        → (t ≡ true → (map.get S q ≡ map.get S e.0) × (map.find dot_cmp q es ≡ None))
        → slot_join (cond t (Some (joined_slot (map.get S e.0) e.1)) (map.get S q))
        (map.find dot_cmp q es)
        ≡ slot_join (map.get S q) (cond t (Some e.1) (map.find dot_cmp q es))
    by_dot true h =
        ap (slot_join (Some (joined_slot (map.get S e.0) e.1))) (h refl).1
        ∙ ap (λ (a : Option Slot). Some (joined_slot a e.1)) (sym (h refl).0)
    by_dot false h = refl

-- joined slots are joined dot by dot
pub get_joined : (S T : Slots) (q : Dot)
    → map.get (with_slots S (map.entries T)) q ≡ slot_join (map.get S q) (map.get T q)
get_joined S T q = get_with S (map.entries T) (map.entries_sorted T) q
    ∙ ap (slot_join (map.get S q)) (sym (map.get-entries T q))

-- the first of two slots that agree is below their join
left_of : (a b : Option Slot) → SlotAgrees a b → SlotBelow a (slot_join a b)
left_of a None g = below_itself a
left_of a (Some s) g = join_left a s g

-- the second of two slots that agree is below their join
right_of : (a b : Option Slot) → SlotAgrees a b → SlotBelow b (slot_join a b)
right_of a None g = tt
right_of a (Some s) g = join_right a s g

-- the join of two slots is below each slot above both
least_of : (a b c : Option Slot) → SlotBelow a c → SlotBelow b c → SlotBelow (slot_join a b) c
least_of a None c x y = x
least_of a (Some s) c x y = join_least a s c x y

-- slots are below their join with others
pub joined_left : (S T : Slots) → SlotsAgree S T → SlotsBelow S (with_slots S (map.entries T))
joined_left S T agree d = subst (SlotBelow (map.get S d)) (sym (get_joined S T d))
    (left_of (map.get S d) (map.get T d) (agree d))

-- the other slots are below the join, too
pub joined_right : (S T : Slots) → SlotsAgree S T → SlotsBelow T (with_slots S (map.entries T))
joined_right S T agree d = subst (SlotBelow (map.get T d)) (sym (get_joined S T d))
    (right_of (map.get S d) (map.get T d) (agree d))

-- joined slots are below all that are above both
pub joined_least : (S T R : Slots) → SlotsBelow S R → SlotsBelow T R
    → SlotsBelow (with_slots S (map.entries T)) R
joined_least S T R a b d = subst (λ (o : Option Slot). SlotBelow o (map.get R d))
    (sym (get_joined S T d)) (least_of (map.get S d) (map.get T d) (map.get R d) (a d) (b d))

-- ---- stores

-- a store is below itself
store_itself : (P : StoreFields) → StoreBelow P P
store_itself P = record { slots = slots_itself P.slots; horizon = omega arith }

-- a store below one that is below a third is below the third
store_trans : (P Q R : StoreFields) → StoreBelow P Q → StoreBelow Q R → StoreBelow P R
store_trans P Q R a b = record {
  slots = slots_trans P.slots Q.slots R.slots a.slots b.slots;
  horizon = omega (arith, a.horizon, b.horizon);
}

-- stores that are below each other are equal
store_antisym : (P Q : StoreFields) → StoreBelow P Q → StoreBelow Q P → P ≡ Q
store_antisym P Q a b =
    let slots : P.slots ≡ Q.slots = slots_antisym P.slots Q.slots a.slots b.slots in
    let horizon : P.horizon ≡ Q.horizon = omega (arith, a.horizon, b.horizon) in
    λ i. record { slots = slots i; horizon = horizon i }

-- two stores that agree have a join
pub join_of : (P Q : StoreFields) → StoresAgree P Q → IsJoin StoreBelow P Q (joined_store P Q)
join_of P Q agree = record {
  left = record { slots = joined_left P.slots Q.slots agree; horizon = omega arith };
  right = record { slots = joined_right P.slots Q.slots agree; horizon = omega arith };
  least = λ R a b. record {
    slots = joined_least P.slots Q.slots R.slots a.slots b.slots;
    horizon = let x = a.horizon in
        let y = b.horizon in omega arith;
  };
}

-- stores and their join obey the laws of joins
pub store_laws : JoinLaws StoreBelow StoresAgree
store_laws = record {
  reflexive = store_itself;
  transitive = store_trans;
  antisymmetric = store_antisym;
  joined = λ P Q agree. (joined_store P Q, join_of P Q agree);
}

-- a store with joined slots and the later horizon is the join
pub is_join : (P Q N : StoreFields) → StoresAgree P Q
    → N.slots ≡ with_slots P.slots (map.entries Q.slots) → N.horizon ≡ max P.horizon Q.horizon
    → IsJoin StoreBelow P Q N
is_join P Q N agree slots horizon =
    let same : joined_store P Q ≡ N =
    λ i. record { slots = sym slots i; horizon = sym horizon i } in
    subst (IsJoin StoreBelow P Q) same (join_of P Q agree)

-- two slots below one that isn't skipped agree
whole_slots : (a b c : Option Slot) → is_skipped_slot c ≡ false → SlotBelow a c → SlotBelow b c
    → SlotAgrees a b
whole_slots None b c whole x y = tt
whole_slots (Some s) None c whole x y = tt
whole_slots (Some s) (Some t) None whole x y = absurd x
whole_slots (Some s) (Some t) (Some Skipped) whole x y = absurd (true≢false whole)
whole_slots (Some (Held u)) (Some (Held v)) (Some (Held w)) whole x y = x ∙ sym y
whole_slots (Some (Held u)) (Some Skipped) (Some (Held w)) whole x y = absurd y
whole_slots (Some Skipped) (Some t) (Some (Held w)) whole x y = absurd x

-- two stores below a store in which nothing is skipped agree
pub whole_agree : WholeAgree
whole_agree P Q R whole a b d = whole_slots (map.get P.slots d) (map.get Q.slots d)
    (map.get R.slots d) (whole d) (a.slots d) (b.slots d)

-- ---- the store after a call

-- adding a fact joins its slot
pub added_joins : (P Q : StoreFields) (f p : Dot × Body) (a : Added) → p ≡ f → AddsTo P p (Ok a) Q
    → Q.slots ≡ map.insert P.slots f.0 (joined_slot (map.get P.slots f.0) (Held f.1))
added_joins P Q f p a same adds =
    added_by P Q f a (subst (λ (x : Dot × Body). AddsTo P x (Ok a) Q) same adds)
  where
    added_by : (P Q : StoreFields) (f : Dot × Body) (a : Added) → AddsTo P f (Ok a) Q
        → Q.slots ≡ map.insert P.slots f.0 (joined_slot (map.get P.slots f.0) (Held f.1))
    added_by P Q f added.New adds = ap (λ (X : StoreFields). X.slots) adds.1
        ∙ ap (λ (o : Option Slot). map.insert P.slots f.0 (joined_slot o (Held f.1))) (sym adds.0)
    added_by P Q f added.Held adds =
        ap (λ (X : StoreFields). X.slots) adds.1 ∙ by_slot (map.get P.slots f.0) refl adds.0
      where
        by_slot : (o : Option Slot) → map.get P.slots f.0 ≡ o → HasFact f.1 o
            → P.slots ≡ map.insert P.slots f.0 (joined_slot (map.get P.slots f.0) (Held f.1))
        by_slot None at h = absurd h
        by_slot (Some (Held c)) at h = sym (ap (λ (x : Option Slot).
            map.insert P.slots f.0 (joined_slot x (Held f.1))) at
            ∙ insert_held P.slots f.0 (Held c) at)
        by_slot (Some Skipped) at h = sym (ap (λ (x : Option Slot).
            map.insert P.slots f.0 (joined_slot x (Held f.1))) at
            ∙ insert_held P.slots f.0 Skipped at)

-- adding a fact leaves the horizon
pub added_horizon : (P Q : StoreFields) (f : Dot × Body) (r : Result Added AddError)
    → AddsTo P f r Q → Q.horizon ≡ P.horizon
added_horizon P Q f (Ok added.New) adds = ap (λ (X : StoreFields). X.horizon) adds.1
added_horizon P Q f (Ok added.Held) adds = ap (λ (X : StoreFields). X.horizon) adds.1
added_horizon P Q f (Err Conflict) adds = ap (λ (X : StoreFields). X.horizon) adds.1
added_horizon P Q f (Err Memory) adds = ap (λ (X : StoreFields). X.horizon) adds.1

-- a mark joined to any slot leaves a mark
skipped_slot : (o : Option Slot) → joined_slot o Skipped ≡ Skipped
skipped_slot None = refl
skipped_slot (Some (Held b)) = refl
skipped_slot (Some Skipped) = refl

-- skipping a dot joins a mark
pub skipped_joins : (P Q : StoreFields) (d : Dot) (a : Added) → Skips P d (Ok a) Q
    → Q.slots ≡ map.insert P.slots d (joined_slot (map.get P.slots d) Skipped)
skipped_joins P Q d added.New skips = ap (λ (X : StoreFields). X.slots) skips.1
    ∙ ap (λ (s : Slot). map.insert P.slots d s) (sym (skipped_slot (map.get P.slots d)))
skipped_joins P Q d added.Held skips = ap (λ (X : StoreFields). X.slots) skips.1
    ∙ ap (λ (s : Slot). map.insert P.slots d s) (sym (skipped_slot (map.get P.slots d)))

-- skipping a dot leaves the horizon
pub skipped_horizon : (P Q : StoreFields) (d : Dot) (r : Result Added AddError) → Skips P d r Q
    → Q.horizon ≡ P.horizon
skipped_horizon P Q d (Ok added.New) skips = ap (λ (X : StoreFields). X.horizon) skips.1
skipped_horizon P Q d (Ok added.Held) skips = ap (λ (X : StoreFields). X.horizon) skips.1
skipped_horizon P Q d (Err Conflict) skips = ap (λ (X : StoreFields). X.horizon) skips.1
skipped_horizon P Q d (Err Memory) skips = ap (λ (X : StoreFields). X.horizon) skips.1

-- skipping a dot that is skipped changes nothing
pub skip_again : (P : StoreFields) (d : Dot) → map.get P.slots d ≡ Some Skipped
    → P ≡ with_skipped P d
skip_again P d at =
    λ i. record { slots = sym (insert_held P.slots d Skipped at) i; horizon = P.horizon }
