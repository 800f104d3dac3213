-- What serving leaves of a region. Key results:
--   grows_same    an unchanged region
--   grows_twice   two changes, one after the other
--   made_grows    a fact is made
--   taken_grows   a bundle is taken in, refused or cut short
--   pushed_grows  taken_grows, for a bundle that the edge may refuse
use Rattle.std.proofs.Common.{◌≡◌, ◌≤◌, ℕ, max, List, take, Option, Some, None, Result, Ok, Err}
use Rattle.std.proofs.Common.{IfSome, inl, inr, refl, sym, ap, subst, ◌∙◌, arith}
use Rattle.std.specs.FinMap as map
use Rattle.tk_format.specs.Format.{whole}
use Rattle.tk_handle.specs.declared.dot.Dot.{Dot}
use Rattle.tk_fact.specs.declared.body.Body.{Body}
use Rattle.tk_store.specs.SlotOrder.{SlotBelow, SlotsBelow, StoreBelow}
use Rattle.tk_store.specs.Slots.{Held}
use Rattle.tk_store.specs.StoreFields.{StoreFields, with_fact}
use Rattle.tk_store.proofs.FitLaws.{fit_below, fit_first}
use Rattle.tk_store.proofs.PutLaws.{by_dot}
use Rattle.tk_store.proofs.SlotOrderLaws.{below_itself, slots_itself, slots_trans}
use Rattle.tk_bundle.specs.Bundle.{bundle}
use Rattle.tk_bundle.specs.BundleFields.{BundleFields, Items}
use Rattle.tk_message.specs.Place.{next_in}
use Rattle.tk_region.specs.RegionFields.{RegionFields, Gains, place_in}
use Rattle.tk_region.specs.Step.{IsNextFact}
use Rattle.tk_region.specs.Taking.{AgreesWith, TakesIn, items_taken, raised}
use Rattle.tk_region.specs.declared.take.TakeError.{TakeError}
use Rattle.tk_region.specs.declared.take.TakeError.TheVariants as refusal
use Rattle.tk_region.proofs.CapLaws.{next_unknown}
use Rattle.tk_edge.specs.Ahead.{refused}
use Rattle.tk_edge.specs.Exchanges.{Pushes, PushesBy, TakesBundle}
use Rattle.tk_edge.specs.Terms.{TermsFields}
use Rattle.tk_edge.specs.declared.ahead.PushError.{PushError}
use Rattle.tk_edge.specs.declared.ahead.PushError.TheVariants.{HorizonAhead, OutOfRange, Take}
use Rattle.tokend.specs.Growing.{Grows}

-- ---- stores

-- a store is below an equal one
same_store : (P Q : StoreFields) → Q ≡ P → StoreBelow P Q
same_store P Q same = subst (StoreBelow P) (sym same)
    (record { slots = slots_itself P.slots; horizon = omega (arith) })

-- a store is below itself with a fact at a free dot
with_fact_above : (P : StoreFields) (d : Dot) (b : Body) → map.get P.slots d ≡ None
    → StoreBelow P (with_fact P d b)
with_fact_above P d b free = record { slots = above; horizon = omega (arith) }
  where
    above : SlotsBelow P.slots (map.insert P.slots d (Held b))
    above q = by_dot (λ o. SlotBelow (map.get P.slots q) o) P.slots d (Held b) q
        (λ same. subst (λ o. SlotBelow o (Some (Held b))) (sym (ap (map.get P.slots) same ∙ free))
        tt)
        (below_itself (map.get P.slots q))

-- a store is below itself with its horizon raised, and with items that agree with what it knows
with_items_above : (P : StoreFields) (horizon : Option ℕ) (items : Items) → AgreesWith P.slots items
    → StoreBelow P (items_taken (raised P horizon) items)
with_items_above P None items agree =
    record { slots = fit_below P.slots items agree; horizon = omega (arith) }
with_items_above P (Some moment) items agree =
    record { slots = fit_below P.slots items agree; horizon = later P.horizon moment }
  where
    later : (m n : ℕ) → m ≤ max m n
    later m n = omega (arith)

-- ---- regions

-- a region that is as before has grown, by nothing
pub grows_same : (old new : RegionFields) → new ≡ old → Grows old new
grows_same old new same = subst (Grows old) (sym same)
    (record { number = refl; settings = refl; facts = same_store old.facts old.facts refl })

-- a region that has grown twice has grown
pub grows_twice : (old mid new : RegionFields) → Grows old mid → Grows mid new → Grows old new
grows_twice old mid new h k = record {
  number = k.number ∙ h.number;
  settings = k.settings ∙ h.settings;
  facts = record {
    slots = slots_trans old.facts.slots mid.facts.slots new.facts.slots h.facts.slots k.facts.slots;
    horizon = omega (arith, h.facts.horizon, k.facts.horizon);
  };
}

-- the fact that a region makes, if any, is at a dot that it doesn't know
pub made_grows : (old new : RegionFields) (fact : Option (Dot × Body)) → Gains old fact new
    → IfSome fact (IsNextFact old) → Grows old new
made_grows old new None gains next = record {
  number = gains.number;
  settings = gains.settings;
  facts = same_store old.facts new.facts gains.facts;
}
made_grows old new (Some f) gains next = record {
  number = gains.number;
  settings = gains.settings;
  facts = subst (StoreBelow old.facts) (sym gains.facts)
      (with_fact_above old.facts f.0 f.1 (next_unknown old f next));
}

-- a bundle that is taken in, refused or cut short
pub taken_grows : (old new : RegionFields) (bytes : List ℕ) (taken : Result ℕ TakeError)
    → TakesBundle old bytes taken new → Grows old new
taken_grows old new bytes taken h = record {
  number = h.number;
  settings = h.settings;
  facts = by_bundle (whole bundle bytes) taken h.takes;
}
  where
    kept : new.facts ≡ old.facts → StoreBelow old.facts new.facts
    kept same = same_store old.facts new.facts same

    joined : (b : BundleFields) (items : Items) → AgreesWith old.facts.slots items
        → new.facts ≡ items_taken (raised old.facts b.horizon) items
        → StoreBelow old.facts new.facts
    joined b items agree is =
        subst (StoreBelow old.facts) (sym is) (with_items_above old.facts b.horizon items agree)

    by_bundle : (o : Option BundleFields) (t : Result ℕ TakeError)
        → TakesIn old.facts (next_in (place_in old)) o t new.facts → StoreBelow old.facts new.facts
    by_bundle None (Err refusal.Malformed) k = kept k
    by_bundle None (Err refusal.Memory) k = kept k
    by_bundle None (Err refusal.OwnNumber) k = absurd k
    by_bundle None (Err refusal.Conflict) k = absurd k
    by_bundle None (Ok n) k = absurd k
    by_bundle (Some b) (Err refusal.OwnNumber) k = kept k.1
    by_bundle (Some b) (Err refusal.Conflict) k = kept k.2
    by_bundle (Some b) (Err refusal.Malformed) k = absurd k
    by_bundle (Some b) (Err refusal.Memory) (inl k) = kept k
    by_bundle (Some b) (Err refusal.Memory) (inr k) =
        joined b (take k.2.0 b.items) (fit_first old.facts.slots k.2.0 b.items k.1) k.2.1
    by_bundle (Some b) (Ok n) k = joined b b.items k.1 k.2.0

-- a pushed bundle that the edge refuses, or that goes to the region
pub pushed_grows : (terms : TermsFields) (now : ℕ) (old new : RegionFields) (bytes : List ℕ)
    (taken : Result ℕ PushError)
    → Pushes terms now old bytes taken new → Grows old new
pushed_grows terms now old new bytes taken h = by (refused terms now (whole bundle bytes)) taken h
  where
    by : (r : Option PushError) (t : Result ℕ PushError) → PushesBy r old bytes t new
        → Grows old new
    by (Some why) (Err HorizonAhead) h = grows_same old new h.1
    by (Some why) (Err OutOfRange) h = grows_same old new h.1
    by (Some why) (Err (Take refusal.Memory)) h = grows_same old new h
    by (Some why) (Err (Take refusal.Malformed)) h = grows_same old new h.1
    by (Some why) (Err (Take refusal.OwnNumber)) h = grows_same old new h.1
    by (Some why) (Err (Take refusal.Conflict)) h = grows_same old new h.1
    by (Some why) (Ok n) h = absurd h
    by None (Ok n) h = taken_grows old new bytes (Ok n) h
    by None (Err (Take error)) h = taken_grows old new bytes (Err error) h
    by None (Err HorizonAhead) h = absurd h
    by None (Err OutOfRange) h = absurd h
