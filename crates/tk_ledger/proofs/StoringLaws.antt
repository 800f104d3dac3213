-- What the store of a ledger knows after a call. Key results:
--   back_again    the store once a fact that was added is taken back
--   free_adds     adding a fact at an unknown dot adds it to the facts that are held
--   shown_known   a look-up that finds a slot finds it where one is known
--   known_kept    adding a fact at a known dot changes nothing
use Rattle.std.proofs.Common.{◌≡◌, true, Option, None, Some, is_some, Result, Ok, Err, sym, ap}
use Rattle.std.proofs.Common.{subst, ◌∙◌}
use Rattle.std.proofs.lemmas.Bool.{true≢false}
use Rattle.std.specs.FinMap as map
use Rattle.tk_handle.specs.declared.dot.Dot.{Dot}
use Rattle.tk_fact.specs.declared.body.Body.{Body}
use Rattle.tk_store.specs.Adding.{Adds, AddsTo, HasFact}
use Rattle.tk_store.specs.SlotShown.{IsShown}
use Rattle.tk_store.specs.Slots.{Slot, Slots, Held, held_slot, without_fact}
use Rattle.tk_store.specs.StoreFields.{StoreFields, held_facts, with_fact}
use Rattle.tk_store.specs.declared.slot.SlotRef.{SlotRef}
use Rattle.tk_store.specs.declared.store.Added.{Added}
use Rattle.tk_store.specs.declared.store.Added.TheVariants as added
use Rattle.tk_store.specs.declared.store.AddError.{AddError}
use Rattle.tk_store.specs.declared.store.AddError.TheVariants.{Conflict, Memory}
use Rattle.tk_store.proofs.FrontLaws.{put_taken}
use Rattle.tk_store.proofs.PutLaws.{taken_back}
use Rattle.tk_store.proofs.SlotLaws.{get_held, held_put}
pub use Rattle.tk_store.proofs.SlotOrderLaws.{added_horizon}

module _ (P Q R : StoreFields) (f : Dot × Body) (d : Dot) (b : Body) (same : (d, b) ≡ f)
    (free : map.get P.slots f.0 ≡ None) where
  -- the dot of the fact is free
  free_at : map.get P.slots d ≡ None
  free_at = ap (λ (p : Dot × Body). map.get P.slots p.0) same ∙ free

  -- adding the fact puts that fact at the free dot
  set_by : (a : Added) → AddsTo P (d, b) (Ok a) Q → Q ≡ with_fact P d b
  set_by added.New adds = adds.1
  set_by added.Held adds = absurd (subst (HasFact b) free_at adds.0)

  -- the store is as before once a fact that was added is taken back
  pub back_again : (a : Added) → AddsTo P f (Ok a) Q
      → R.slots ≡ without_fact Q.slots d (map.get Q.slots d) → R.horizon ≡ Q.horizon → R ≡ P
  back_again a adds rest level =
      let set : Q ≡ with_fact P d b =
      set_by a (subst (λ (p : Dot × Body). AddsTo P p (Ok a) Q) (sym same) adds) in
      let is : Q.slots ≡ map.insert P.slots d (Held b) = ap (λ (X : StoreFields). X.slots) set in
      let slots : R.slots ≡ P.slots = put_taken P.slots Q.slots R.slots d b is rest
      ∙ ap (λ (X : Slots). map.remove X d) is ∙ taken_back P.slots d (Held b) free_at in
      let horizon : R.horizon ≡ P.horizon = level ∙ ap (λ (X : StoreFields). X.horizon) set in
      λ i. record { slots = slots i; horizon = horizon i }

-- adding a fact at an unknown dot adds it to the facts that are held
pub free_adds : (P Q : StoreFields) (f : Dot × Body) (a : Added) → map.get P.slots f.0 ≡ None
    → AddsTo P f (Ok a) Q → Adds (held_facts P) f (Ok a) (held_facts Q)
free_adds P Q f added.New free adds =
    (get_held P.slots f.0 ∙ ap held_slot free, ap held_facts adds.1 ∙ held_put P.slots f.0 f.1)
free_adds P Q f added.Held free adds = absurd (subst (HasFact f.1) free adds.0)

-- a look-up that finds a slot finds it where one is known
pub shown_known : (d : Dot) (o : Option SlotRef) (s : Option Slot) → IsShown d o s
    → is_some o ≡ true → is_some s ≡ true
shown_known d None s shown h = absurd (true≢false (sym h))
shown_known d (Some r) s shown h = ap is_some shown.0

-- adding a fact at a known dot changes nothing
pub known_kept : (P Q : StoreFields) (f : Dot × Body) (r : Result Added AddError)
    → is_some (map.get P.slots f.0) ≡ true → AddsTo P f r Q → Q ≡ P
known_kept P Q f (Ok added.New) known adds = absurd (true≢false (sym known ∙ ap is_some adds.0))
known_kept P Q f (Ok added.Held) known adds = adds.1
known_kept P Q f (Err Conflict) known adds = adds.1
known_kept P Q f (Err Memory) known adds = absurd (true≢false (sym known ∙ ap is_some adds.0))
