-- Joining slots by their entries, one after another. Key results, each a step of a loop:
--   compared_start, compared_all                                   whether the slots agree
--   joins_start, joins_fits, joins_passes, joins_next, joins_end   joining each slot
--   sought_start, sought_all                                       whether each slot is known
use Rattle.std.proofs.Common.{◌≡◌, inl, inr, List, [], ◌∷◌, Option, Some, None, refl, sym, ap}
use Rattle.std.proofs.Common.{subst, ◌∙◌}
use Rattle.std.proofs.lemmas.Bool.{cases_Bool, cond-true, cond-false}
use Rattle.std.specs.Ordering.{eq_by_cmp}
use Rattle.std.specs.FinMap as map
use Rattle.tk_handle.specs.declared.dot.Dot.{Dot}
use Rattle.tk_handle.specs.Dot.{dot_cmp}
use Rattle.tk_fact.specs.declared.body.Body.{Body}
use Rattle.tk_fact.specs.Check.{refusal_of}
use Rattle.tk_store.specs.FactSet.{AllIn, IsFactSet}
use Rattle.tk_store.specs.Slots.{Slot, Slots, Held, Skipped, held_slot, held_in, joined_slot}
use Rattle.tk_store.specs.Slots.{with_slots}
use Rattle.tk_store.specs.SlotOrder.{SlotBelow, SlotsBelow, SlotAgrees, SlotsAgree}
use Rattle.tk_store.specs.SlotJoining.{Passes, AllFit, AllBelow, Compared, Joins, Sought}
use Rattle.tk_store.proofs.EntryLaws.{AllIn-entries}
use Rattle.tk_handle.proofs.TestLaws.{tied}
use Rattle.tk_store.proofs.PutLaws.{by_dot, get_here}
use Rattle.tk_store.proofs.SlotLaws.{get_held}
use Rattle.tk_store.proofs.SlotOrderLaws.{below_itself, below_trans, slots_itself, slots_trans}
use Rattle.tk_store.proofs.SlotOrderLaws.{slots_antisym, join_left, join_right, join_least}
use Rattle.tk_store.proofs.SlotOrderLaws.{join_agrees, joined_left, joined_right, joined_least}
use Rattle.std.proofs.lemmas.Option.{none-some as none_is_not_some, same_Some as some_injective}

-- P holds of each entry of a list
abbrev All-of : (Dot → Slot → Type 0) → List (Dot × Slot) → Type 0
All-of P [] = Unit {0}
All-of P (e ∷ es) = P e.0 e.1 × All-of P es

-- P holds of each entry that is found, if it holds of all entries
found : (P : Dot → Slot → Type 0) (es : List (Dot × Slot)) (q : Dot) (s : Slot) → All-of P es
    → map.find dot_cmp q es ≡ Some s → P q s
found P [] q s a h = absurd (none_is_not_some s h)
found P (e ∷ es) q s a h = elim (cases_Bool (eq_by_cmp dot_cmp q e.0)) [
  | inl here ↦ moved (tied q e.0 here)
      (some_injective e.1 s
      (sym (cond-true (eq_by_cmp dot_cmp q e.0) (Some e.1) (map.find dot_cmp q es) here) ∙ h)) a.0
  | inr more ↦ found P es q s a.1
      (sym (cond-false (eq_by_cmp dot_cmp q e.0) (Some e.1) (map.find dot_cmp q es) more) ∙ h)
]
  where
    moved : q ≡ e.0 → e.1 ≡ s → P e.0 e.1 → P q s
    moved i j k = rw (i, ← j) k

-- slots of a list that fit agree one by one with what is known of their dots
fit_of : (S : Slots) (es : List (Dot × Slot)) → AllFit S es
    → All-of (λ d s. SlotAgrees (map.get S d) (Some s)) es
fit_of S [] a = tt
fit_of S (e ∷ es) a = (a.0, fit_of S es a.1)

-- slots of a list that are below are so one by one
below_of : (S : Slots) (es : List (Dot × Slot)) → AllBelow S es
    → All-of (λ d s. SlotBelow (Some s) (map.get S d)) es
below_of S [] a = tt
below_of S (e ∷ es) a = (a.0, below_of S es a.1)

-- what is known of a dot agrees with nothing known
agrees_none : (a : Option Slot) → SlotAgrees a None
agrees_none None = tt
agrees_none (Some s) = tt

-- ---- comparing entries

-- before the first slot nothing is compared
pub compared_start : (S T : Slots) (rest : List (Dot × Slot)) → rest ≡ map.entries T
    → Compared S T rest
compared_start S T rest e =
    record { left = subst (AllIn T) (sym e) (AllIn-entries T); fit = λ a. subst (AllFit S) e a }

-- slots of which all were compared agree
pub compared_all : (S T : Slots) (rest : List (Dot × Slot)) → rest ≡ [] → Compared S T rest
    → SlotsAgree S T
compared_all S T rest e c d = by_slot (map.get T d) refl
  where
    by_slot : (o : Option Slot) → map.get T d ≡ o → SlotAgrees (map.get S d) o
    by_slot None at = agrees_none (map.get S d)
    by_slot (Some s) at = found (λ d s. SlotAgrees (map.get S d) (Some s)) (map.entries T) d s
        (fit_of S (map.entries T) (c.fit (subst (AllFit S) (sym e) tt)))
        (sym (map.get-entries T d) ∙ at)

-- ---- joining entries

-- before the first slot nothing is joined
pub joins_start : (S T : Slots) (rest : List (Dot × Slot)) → rest ≡ map.entries T → SlotsAgree S T
    → Joins S T S rest
joins_start S T rest e agree = record {
  left = subst (AllIn T) (sym e) (AllIn-entries T);
  agree = agree;
  above = slots_itself S;
  below = joined_left S T agree;
  all = λ R w a. subst (AllBelow R) e a;
}

-- the next slot agrees with what was joined so far
pub joins_fits : (S T N : Slots) (rest : List (Dot × Slot)) (f : Dot × Slot)
    (more : List (Dot × Slot))
    → rest ≡ f ∷ more → Joins S T N rest → SlotAgrees (map.get N f.0) (Some f.1)
joins_fits S T N rest f more e j = (let left : AllIn T (f ∷ more) = subst (AllIn T) e j.left in
    subst (SlotAgrees (map.get N f.0)) left.0 (j.agree f.0))

-- a slot passes if the fact that it holds, if any, has no refusal
passes_of : (s : Slot) → ((b : Body) → held_slot (Some s) ≡ Some b → refusal_of b ≡ None) → Passes s
passes_of (Held b) h = h b refl
passes_of Skipped h = tt

-- the fact of the next slot passes its check
pub joins_passes : (S T N : Slots) (rest : List (Dot × Slot)) (f : Dot × Slot)
    (more : List (Dot × Slot))
    → rest ≡ f ∷ more → Joins S T N rest → IsFactSet (held_in T) → Passes f.1
joins_passes S T N rest f more e j sound =
    let left : AllIn T (f ∷ more) = subst (AllIn T) e j.left in
    passes_of f.1 (λ b h. sound f.0 b (get_held T f.0 ∙ ap held_slot left.0 ∙ h))

module _ (S T N M : Slots) (agree : SlotsAgree S T) (rest : List (Dot × Slot)) (f : Dot × Slot)
    (more : List (Dot × Slot)) (e : rest ≡ f ∷ more) (j : Joins S T N rest)
    (is : M ≡ map.insert N f.0 (joined_slot (map.get N f.0) f.1)) where
  -- the next slot and those behind it are slots of T
  left : AllIn T (f ∷ more)
  left = subst (AllIn T) e j.left

  -- the next slot agrees with what was joined so far
  fits : SlotAgrees (map.get N f.0) (Some f.1)
  fits = joins_fits S T N rest f more e j

  -- P holds of what is known of a dot now, if it holds of the joined slot and of what was known
  at : (P : Dot → Option Slot → Type 0) → P f.0 (Some (joined_slot (map.get N f.0) f.1))
      → ((q : Dot) → P q (map.get N q)) → (q : Dot) → P q (map.get M q)
  at P here there q = subst (λ (R : Slots). P q (map.get R q)) (sym is)
      (by_dot (P q) N f.0 (joined_slot (map.get N f.0) f.1) q
      (λ same. subst (λ (d : Dot). P d (Some (joined_slot (map.get N f.0) f.1))) (sym same) here)
      (there q))

  -- what was joined so far is below that with the next slot joined
  grows : SlotsBelow N M
  grows = at (λ q o. SlotBelow (map.get N q) o) (join_left (map.get N f.0) f.1 fits)
      (λ q. below_itself (map.get N q))

  -- one more slot is joined
  pub joins_next : Joins S T M more
  joins_next = record {
    left = left.1;
    agree = at (λ q o. SlotAgrees o (map.get T q))
        (subst (SlotAgrees (Some (joined_slot (map.get N f.0) f.1))) (sym left.0)
        (join_agrees (map.get N f.0) f.1 fits)) j.agree;
    above = slots_trans S N M j.above grows;
    below = at (λ q o. SlotBelow o (map.get (with_slots S (map.entries T)) q))
        (join_least (map.get N f.0) f.1 (map.get (with_slots S (map.entries T)) f.0) (j.below f.0)
        (subst (λ (o : Option Slot). SlotBelow o (map.get (with_slots S (map.entries T)) f.0))
        left.0 (joined_right S T agree f.0))) j.below;
    all = λ R w a.
        j.all R (slots_trans N M R grows w) (subst (AllBelow R) (sym e) (known R (w f.0), a));
  }
    where
      known : (R : Slots) → SlotBelow (map.get M f.0) (map.get R f.0)
          → SlotBelow (Some f.1) (map.get R f.0)
      known R w = below_trans (Some f.1) (Some (joined_slot (map.get N f.0) f.1)) (map.get R f.0)
          (join_right (map.get N f.0) f.1 fits)
          (subst (λ (o : Option Slot). SlotBelow o (map.get R f.0))
          (ap (λ (X : Slots). map.get X f.0) is ∙ get_here N f.0 (joined_slot (map.get N f.0) f.1))
          w)

-- behind the last slot all are joined
pub joins_end : (S T N : Slots) (rest : List (Dot × Slot)) → rest ≡ [] → Joins S T N rest
    → N ≡ with_slots S (map.entries T)
joins_end S T N rest e j = slots_antisym N (with_slots S (map.entries T)) j.below
    (joined_least S T N j.above (λ d. by_slot d (map.get T d) refl))
  where
    by_slot : (d : Dot) (o : Option Slot) → map.get T d ≡ o → SlotBelow o (map.get N d)
    by_slot d None at = tt
    by_slot d (Some s) at = found (λ d s. SlotBelow (Some s) (map.get N d)) (map.entries T) d s
        (below_of N (map.entries T) (j.all N (slots_itself N) (subst (AllBelow N) (sym e) tt)))
        (sym (map.get-entries T d) ∙ at)

-- ---- looking for entries

-- before the first slot nothing is sought
pub sought_start : (S T : Slots) (rest : List (Dot × Slot)) → rest ≡ map.entries T → Sought S T rest
sought_start S T rest e =
    record { left = subst (AllIn T) (sym e) (AllIn-entries T); all = λ a. subst (AllBelow S) e a }

-- slots of which all were found are below the others
pub sought_all : (S T : Slots) (rest : List (Dot × Slot)) → rest ≡ [] → Sought S T rest
    → SlotsBelow T S
sought_all S T rest e c d = by_slot (map.get T d) refl
  where
    by_slot : (o : Option Slot) → map.get T d ≡ o → SlotBelow o (map.get S d)
    by_slot None at = tt
    by_slot (Some s) at = found (λ d s. SlotBelow (Some s) (map.get S d)) (map.entries T) d s
        (below_of S (map.entries T) (c.all (subst (AllBelow S) (sym e) tt)))
        (sym (map.get-entries T d) ∙ at)
