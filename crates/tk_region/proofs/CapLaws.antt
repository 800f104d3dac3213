-- The dots of a region under its own number have serials up to its cap. Key results:
--   next_under     the region's next serial is one
--   capped_empty   a region without facts
--   next_unknown   the dot of the next fact is unknown
--   capped_added   a region that adds its next fact
--   capped_taken   a region that takes in a bundle
--   capped_pruned  a region that is pruned
--   capped_sliced  a region of which a slice is pruned
use Rattle.std.proofs.Common.{◌≡◌, ℕ, zero, suc, ◌+◌, ◌<◌, ◌≤◌, ◌==◌, ◌&&◌, ◌||◌, Bool, true, false}
use Rattle.std.proofs.Common.{if◌then◌else◌, nat_le, max, List, [], ◌∷◌, take, Option, Some, None}
use Rattle.std.proofs.Common.{Result, Ok, Err, refl, sym, ap, subst, ◌∙◌, inl, inr, arith}
use mathlib.Core.Bool.{false≢true}
use Rattle.std.specs.FinMap as map
use Rattle.std.proofs.lemmas.Bool.Decides.{nat_tests}
use Rattle.tk_handle.specs.declared.dot.Dot.{Dot}
use Rattle.tk_handle.specs.Dot.{dot_cmp}
use Rattle.tk_handle.specs.Ranges.{max_serial}
use Rattle.tk_fact.specs.declared.body.Body.{Body}
use Rattle.tk_store.specs.FactSet.{AllIn}
use Rattle.tk_store.specs.NextDot.{last_serial, next_serial}
use Rattle.tk_store.specs.Slots.{Slot, Slots, Skipped, held_slot, joined_slot, with_slots}
use Rattle.tk_store.specs.StoreFields.{StoreFields, empty_store, with_fact, with_horizon}
use Rattle.tk_store.specs.StoreFields.{with_skipped}
use Rattle.tk_store.proofs.EntryLaws.{AllIn-entries}
use Rattle.tk_store.proofs.NextDotLaws.{next_is_free}
use Rattle.tk_store.proofs.PutLaws.{of_dot, none_is_not_some}
use Rattle.tk_store.proofs.SlotLaws.{get_held}
use Rattle.tk_ledger.specs.Retention.{Prunes}
use Rattle.tk_ledger.specs.Slices.{Goes, PrunesSome, Steps}
use Rattle.tk_ledger.specs.declared.slices.Slice.{Slice}
use Rattle.tk_bundle.specs.BundleFields.{BundleFields, Items}
use Rattle.tk_message.specs.Place.{next_in}
use Rattle.tk_region.specs.declared.take.TakeError.{TakeError}
use Rattle.tk_region.specs.declared.take.TakeError.TheVariants.{Malformed, OwnNumber, Conflict}
use Rattle.tk_region.specs.declared.take.TakeError.TheVariants.{Memory}
use Rattle.tk_region.specs.RegionFields.{RegionFields, IsCapped, place_in}
use Rattle.tk_region.specs.SettingsFields.{SettingsFields, max_cap}
use Rattle.tk_region.specs.Step.{IsNextFact}
use Rattle.tk_region.specs.Taking.{has_unmade, is_unmade, raised, items_taken, TakesIn}
use Rattle.tk_region.proofs.TakeLaws.{raised_slots}

-- an item within the cap keeps the last serial of the items behind it within the cap
one_under : (region r serial rest cap : ℕ) → (region ≡ r → serial ≤ cap) → rest ≤ cap
    → max (if region == r then serial else 0) rest ≤ cap
one_under region r serial rest cap p q = grind (arith, nat_tests)

-- the last serial of items of a capped region under its own number is within the cap
all_under : (r : RegionFields) → IsCapped r → (es : Items) → AllIn r.facts.slots es
    → last_serial r.number es ≤ r.settings.cap
all_under r k [] a = omega arith
all_under r k (e ∷ es) a = one_under e.0.region r.number e.0.serial (last_serial r.number es)
    r.settings.cap (k.own e.0 e.1 a.0) (all_under r k es a.1)

-- the next serial of a capped region is at most one past its cap
last_under : (r : RegionFields) → IsCapped r
    → next_serial r.facts.slots r.number ≤ r.settings.cap + 1
last_under r k =
    let most = all_under r k (map.entries r.facts.slots) (AllIn-entries r.facts.slots) in
    omega arith

-- the next serial of a capped region is a serial
pub next_under : (r : RegionFields) → IsCapped r
    → next_serial r.facts.slots r.number ≤ max_serial
next_under r k = let most = last_under r k in omega (arith, k.low)

-- a region without facts is capped
pub capped_empty : (r : RegionFields) → r.facts ≡ empty_store → r.settings.cap ≤ max_cap
    → IsCapped r
capped_empty r none low = record {
  own = λ d s h. absurd
      (none_is_not_some s
      (sym (map.get-empty dot_cmp d) ∙ ap (λ (P : StoreFields). map.get P.slots d) (sym none) ∙ h));
  low = low;
}

-- the dots of a region among slots have serials up to the cap
abbrev AreUnder : ℕ → ℕ → Slots → Type 0
AreUnder n cap S = (d : Dot) (s : Slot) → map.get S d ≡ Some s → d.region ≡ n → d.serial ≤ cap

-- slots keep to the cap if a slot is put that keeps to it
under_put : (n cap : ℕ) (S : Slots) (d : Dot) (s : Slot) → (d.region ≡ n → d.serial ≤ cap)
    → AreUnder n cap S → AreUnder n cap (map.insert S d s)
under_put n cap S d s low under q t h here =
    of_dot S d s q t (q.serial ≤ cap)
    (λ same _. subst (λ (e : Dot). e.serial ≤ cap) (sym same)
    (low (ap (λ (e : Dot). e.region) (sym same) ∙ here)))
    (λ there. under q t there here) h

-- an item under the region's number, in a bundle that is not refused, is below the next dot
below : (a b m n : ℕ) (rest : Bool) → ((a == b) && nat_le m n) || rest ≡ false → a ≡ b → n < m
below a b m n rest h e = grind (arith, nat_tests)

-- if neither of two holds, the second doesn't
others : (a b : Bool) → a || b ≡ false → b ≡ false
others true b h = absurd (false≢true (sym h))
others false b h = h

module _ (next : Dot) (cap : ℕ) (low : next.serial ≤ cap + 1) where
  -- dots stay under the cap with items whose dots of the region are below its next one
  under_with : (items : Items) (S : Slots) → has_unmade next items ≡ false
      → AreUnder next.region cap S → AreUnder next.region cap (with_slots S items)
  under_with [] S h under = under
  under_with (i ∷ items) S h under =
      under_with items (map.insert S i.0 (joined_slot (map.get S i.0) i.1))
      (others (is_unmade next i.0) (has_unmade next items) h)
      (under_put next.region cap S i.0 (joined_slot (map.get S i.0) i.1)
      (λ here. let lt =
      below i.0.region next.region next.serial i.0.serial (has_unmade next items) h here in
      omega (arith, lt, low)) under)

-- the first items of a bundle that is not refused
made_take : (next : Dot) (k : ℕ) (items : Items) → has_unmade next items ≡ false
    → has_unmade next (take k items) ≡ false
made_take next zero items h = refl
made_take next (suc k) [] h = refl
made_take next (suc k) (i ∷ items) h = both _ _ (made_take next k items) h
  where
    both : (a b : Bool) {c : Bool} → (b ≡ false → c ≡ false) → a || b ≡ false → a || c ≡ false
    both true b g h = h
    both false b g h = g h

-- nothing is known of the dot of the next fact
pub next_unknown : (r : RegionFields) (f : Dot × Body) → IsNextFact r f
    → map.get r.facts.slots f.0 ≡ None
next_unknown r f i = ap (map.get r.facts.slots) i.next ∙ next_is_free r.facts.slots r.number

module _ (n : ℕ) (s : SettingsFields) (P Q : StoreFields)
    (k : IsCapped (record { number = n; settings = s; facts = P })) where
  -- the region with the store P
  abbrev r : RegionFields
  r = record { number = n; settings = s; facts = P }

  -- the region with the store Q
  abbrev changed : RegionFields
  changed = record { number = n; settings = s; facts = Q }

  -- the next dot of the region
  abbrev next : Dot
  next = next_in (place_in r)

  -- a region whose store is unchanged stays under its cap
  same : Q ≡ P → IsCapped changed
  same e = subst (λ (R : StoreFields). IsCapped (record { number = n; settings = s; facts = R }))
      (sym e) k

  -- a region that took in items, none ahead of its next dot, stays under its cap
  taken : (h : Option ℕ) (items : Items) → has_unmade next items ≡ false
      → Q ≡ items_taken (raised P h) items → IsCapped changed
  taken h items made is =
      let slots : Q.slots ≡ with_slots P.slots items =
      ap (λ (R : StoreFields). R.slots) is
      ∙ ap (λ (S : Slots). with_slots S items) (raised_slots P h) in
      record {
        own = subst (AreUnder n s.cap) (sym slots)
            (under_with next s.cap (last_under r k) items P.slots made k.own);
        low = k.low;
      }

  -- a region stays capped with the items of a bundle, none of which is its own
  pub capped_taken : (o : Option BundleFields) (result : Result ℕ TakeError)
      → TakesIn P next o result Q → IsCapped changed
  capped_taken None (Err Malformed) t = same t
  capped_taken None (Err Memory) t = same t
  capped_taken None (Err OwnNumber) t = absurd t
  capped_taken None (Err Conflict) t = absurd t
  capped_taken None (Ok m) t = absurd t
  capped_taken (Some b) (Err OwnNumber) t = same t.1
  capped_taken (Some b) (Err Conflict) t = same t.2
  capped_taken (Some b) (Err Malformed) t = absurd t
  capped_taken (Some b) (Err Memory) t = elim t [
    | inl e ↦ same e
    | inr u ↦ taken b.horizon (take u.2.0 b.items) (made_take next u.2.0 b.items u.0) u.2.1
  ]
  capped_taken (Some b) (Ok m) t = taken b.horizon b.items t.0 t.2.0

  -- a region stays capped with a fact that it made
  pub capped_added : (f : Dot × Body) → IsNextFact r f → Q ≡ with_fact P f.0 f.1 → IsCapped changed
  capped_added f i is =
      subst (λ (R : StoreFields). IsCapped (record { number = n; settings = s; facts = R }))
      (sym is)
      (record { own = under_put n s.cap P.slots f.0 _ (λ _. i.under) k.own; low = k.low })

  -- a fact that may be skipped was held
  pub capped_pruned : (moment m : ℕ) → Prunes P moment m Q → IsCapped changed
  capped_pruned moment m prunes = record {
    own = λ d t h here. elim (prunes.keeps d) [
      | inl kept ↦ k.own d t (sym kept ∙ h) here
      | inr may ↦ was (map.get P.slots d) refl may.fact (sym (get_held P.slots d) ∙ may.here) here
    ];
    low = k.low;
  }
    where
      was : {d : Dot} → (o : Option Slot) → map.get P.slots d ≡ o → (b : Body)
          → held_slot o ≡ Some b → d.region ≡ n → d.serial ≤ s.cap
      was None at b h here = absurd (none_is_not_some b h)
      was {d} (Some t) at b h here = k.own d t at here

module _ (n : ℕ) (s : SettingsFields) where
  -- the region with this store has its dots under its cap
  abbrev IsCappedWith : StoreFields → Type 0
  IsCappedWith P = IsCapped (record { number = n; settings = s; facts = P })

  -- a dot with a fact that may go is known
  go_under : (P : StoreFields) (d : Dot) → IsCappedWith P → Goes P d → d.region ≡ n
      → d.serial ≤ s.cap
  go_under P d k go here = by go
    where
      was : (o : Option Slot) → map.get P.slots d ≡ o → (b : Body) → held_slot o ≡ Some b
          → d.serial ≤ s.cap
      was None at b h = absurd (none_is_not_some b h)
      was (Some t) at b h = k.own d t at here

      by : Goes P d → d.serial ≤ s.cap
      by (inl may) = was (map.get P.slots d) refl may.fact (sym (get_held P.slots d) ∙ may.here)
      by (inr names) =
          was (map.get P.slots d) refl names.fact (sym (get_held P.slots d) ∙ names.here)

  -- a region of which facts that may go were skipped, one by one, stays under its cap
  capped_steps : (P Q : StoreFields) (ds : List Dot) → IsCappedWith P → Steps P ds Q
      → IsCappedWith Q
  capped_steps P Q [] k is = subst IsCappedWith (sym is) k
  capped_steps P Q (d ∷ ds) k steps =
      capped_steps (with_skipped P d) Q ds
      (record {
        own = under_put n s.cap P.slots d Skipped (go_under P d k steps.0) k.own;
        low = k.low;
      })
      steps.1

  -- a region stays capped after a slice of a prune
  pub capped_sliced : (P Q : StoreFields) (moment : ℕ) (after : Option Dot) (count : ℕ)
      (slice : Slice)
      → IsCappedWith P → PrunesSome P moment after count slice Q → IsCappedWith Q
  capped_sliced P Q moment after count slice k looks =
      capped_steps (with_horizon P moment) Q looks.went.dots (record { own = k.own; low = k.low })
      looks.went.steps
