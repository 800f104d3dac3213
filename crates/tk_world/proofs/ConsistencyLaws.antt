-- All facts made stay one set when a state changes. Key results:
--   consists_kept     a region has more of the facts made
--   consists_opened   a region without facts opens
--   consists_made     a region makes its next fact
--   consists_bundle   one more bundle is made
--   new_consists      a state without regions and bundles has no facts
use Rattle.std.proofs.Common.{◌≡◌, ℕ, zero, suc, ◌≤◌, true, false, cond, List, [], ◌∷◌, ◌++◌}
use Rattle.std.proofs.Common.{length, slice_get, Option, Some, None, refl, sym, ap, subst, ◌∙◌}
use Rattle.std.proofs.Common.{arith}
use Rattle.std.specs.Ordering.{nat_cmp, eq_by_cmp, is_eq}
use Rattle.std.specs.Cmp.{nat_cmp_total}
use Rattle.std.proofs.lemmas.Cmp.{tied_itself}
use Rattle.std.specs.FinMap as map
use Rattle.std.proofs.lemmas.Bool.Decides.{nat_tests}
use Rattle.std.proofs.lemmas.List.{length-take}
use Rattle.tk_handle.specs.declared.dot.Dot.{Dot}
use Rattle.tk_handle.specs.Dot.{dot_cmp}
use Rattle.tk_fact.specs.Check.{refusal_of}
use Rattle.tk_fact.specs.declared.body.Body.{Body}
use Rattle.tk_vector.specs.VersionVector.{Vector}
use Rattle.tk_store.specs.FactSet.{FactSet, AllIn, IsSubset}
use Rattle.tk_store.specs.Beyond.{beyond}
use Rattle.tk_store.proofs.EntryLaws.{AllIn-beyond}
use Rattle.tk_store.proofs.PutLaws.{by_dot, of_dot, get_here, some_injective, none_is_not_some}
use Rattle.tk_store.proofs.PutLaws.{IsFactSet-empty, IsFactSet-insert}
use Rattle.tk_store.proofs.SubsetLaws.{subset_trans, AllIn-take, AllIn-subset}
use Rattle.tk_region.specs.SettingsFields.{SettingsFields, max_cap}
use Rattle.tk_world.specs.State.{Kept, Sent, State, new_kept, new_state, with_region, with_bundle}
use Rattle.tk_world.specs.State.{Consists}
use Rattle.tk_world.specs.Pages.{page_of}

-- ---- pages

-- the facts of a page are among those of the set
pub AllIn-page : (F : FactSet) (v : Vector) (after : Option Dot) → AllIn F (page_of F v after).facts
AllIn-page F v after = AllIn-take F 128 (beyond F v after) (AllIn-beyond F v after)

-- a page has at most 128 facts
pub short_page : (F : FactSet) (v : Vector) (after : Option Dot)
    → length (page_of F v after).facts ≤ 128
short_page F v after = omega (arith, length-take 128 (beyond F v after))

-- ---- regions

-- what holds of the new value, and of the old one at any other number, holds of the value after an
-- insert
pub region_of_get : {A : Type 0} (m : map.FinMap nat_cmp A) (n : ℕ) (k : A) (r : ℕ)
    (P : Option A → Type 0)
    → (r ≡ n → P (Some k)) → ((r ≡ n → ⊥) → P (map.get m r)) → P (map.get (map.insert m n k) r)
region_of_get m n k r P here there =
    subst P (sym (map.get-insert nat_cmp_total m n k r))
    (elim (eq_by_cmp nat_cmp r n) as
    (λ t. eq_by_cmp nat_cmp r n ≡ t → P (cond t (Some k) (map.get m r))) [
      | true ↦ λ e. here (same_number r n e)
      | false ↦ λ e. there (other_number r n e)
    ] refl)
  where
    same_number : (a b : ℕ) → eq_by_cmp nat_cmp a b ≡ true → a ≡ b
    same_number a b h = grind (arith, nat_tests)

    other_number : (a b : ℕ) → eq_by_cmp nat_cmp a b ≡ false → a ≡ b → ⊥
    other_number a b h same = grind (arith, nat_tests)

-- the region that a look-up after an insertion finds, by its two cases
of_region : (s : State) (n : ℕ) (k : Kept) (r : ℕ) (j : Kept) (P : Type 0) → (r ≡ n → k ≡ j → P)
    → (map.get s.regions r ≡ Some j → P) → map.get (map.insert s.regions n k) r ≡ Some j → P
of_region s n k r j P here there h = region_of_get s.regions n k r (λ o. o ≡ Some j → P)
    (λ e q. here e (some_injective k j q)) (λ _. there) h

-- a region that was put under a number is found under it
region_here : (s : State) (n : ℕ) (k : Kept) (r : ℕ) → r ≡ n
    → map.get (map.insert s.regions n k) r ≡ Some k
region_here s n k r same = map.get-insert nat_cmp_total s.regions n k r
    ∙ ap (λ o. cond (is_eq o) (Some k) (map.get s.regions r))
    (ap (nat_cmp r) (sym same) ∙ tied_itself nat_cmp_total r)

-- a region's facts grow within U
pub consists_kept : (s : State) (U : FactSet) (n : ℕ) (k j : Kept) → Consists s U
    → map.get s.regions n ≡ Some k → IsSubset j.facts U → IsSubset k.facts j.facts
    → Consists (with_region s n j) U
consists_kept s U n k j c at within grows = record {
  sound = c.sound;
  held = λ r i h. of_region s n j r i (IsSubset i.facts U)
      (λ _ same. subst (λ (x : Kept). IsSubset x.facts U) same within) (c.held r i) h;
  home = λ d b h.
      let old = c.home d b h in
      region_of_get s.regions n j d.region
      (λ o. (i : Kept) × (o ≡ Some i) × (map.get i.facts d ≡ Some b))
      (λ same. (
        j,
        refl,
        grows d b
            (ap (λ (x : Kept). map.get x.facts d)
            (some_injective k old.0 (sym at ∙ ap (map.get s.regions) (sym same) ∙ old.1))
            ∙ old.2),
      ))
      (λ _. old);
  carried = c.carried;
  capped = c.capped;
  low = c.low;
}

-- a region without facts opens
pub consists_opened : (s : State) (U : FactSet) (n : ℕ) → Consists s U → map.get s.regions n ≡ None
    → Consists (with_region s n new_kept) U
consists_opened s U n c none = record {
  sound = c.sound;
  held = λ r i h. of_region s n new_kept r i (IsSubset i.facts U)
      (λ _ same d b at.
      absurd (none_is_not_some b
      (sym (map.get-empty dot_cmp d) ∙ ap (λ (x : Kept). map.get x.facts d) same ∙ at)))
      (c.held r i) h;
  home = λ d b h.
      let old = c.home d b h in
      region_of_get s.regions n new_kept d.region
      (λ o. (i : Kept) × (o ≡ Some i) × (map.get i.facts d ≡ Some b))
      (λ same. absurd
      (none_is_not_some old.0 (sym none ∙ ap (map.get s.regions) (sym same) ∙ old.1)))
      (λ _. old);
  carried = c.carried;
  capped = c.capped;
  low = c.low;
}

-- no fact was made at a dot that is free in its own region
pub free_everywhere : (s : State) (U : FactSet) (n : ℕ) (k : Kept) (d : Dot) → Consists s U
    → map.get s.regions n ≡ Some k → d.region ≡ n → map.get k.facts d ≡ None → map.get U d ≡ None
free_everywhere s U n k d c at own free = elim (map.get U d) as (λ o. map.get U d ≡ o → o ≡ None) [
  | None ↦ λ _. refl
  | Some b ↦ λ h.
      let old = c.home d b h in
      absurd (none_is_not_some b
      (sym free ∙ ap (λ (x : Kept). map.get x.facts d)
      (some_injective k old.0 (sym at ∙ ap (map.get s.regions) (sym own) ∙ old.1)) ∙ old.2))
] refl

-- a set is part of that set with a fact at a free dot
pub subset_more : (U : FactSet) (d : Dot) (b : Body) → map.get U d ≡ None
    → IsSubset U (map.insert U d b)
subset_more U d b new q c h = by_dot (λ o. o ≡ Some c) U d b q
    (λ same. absurd (none_is_not_some c (sym new ∙ ap (map.get U) (sym same) ∙ h))) h

-- a fact is made at a free dot of its own region
pub consists_made : (s : State) (U : FactSet) (n : ℕ) (k : Kept) (d : Dot) (b : Body) → Consists s U
    → map.get s.regions n ≡ Some k → d.region ≡ n → map.get k.facts d ≡ None
    → d.serial ≤ s.settings.cap → refusal_of b ≡ None
    → Consists (with_region s n (record { facts = map.insert k.facts d b; horizon = k.horizon }))
    (map.insert U d b)
consists_made s U n k d b c at own free under passes =
    let F : FactSet = k.facts in
    let j : Kept = record { facts = map.insert F d b; horizon = k.horizon } in
    let new = free_everywhere s U n k d c at own free in
    let grows : IsSubset U (map.insert U d b) = subset_more U d b new in
    record {
      sound = IsFactSet-insert U d b c.sound passes;
      held = λ r i h. of_region s n j r i (IsSubset i.facts (map.insert U d b))
          (λ _ same. subst (λ (x : Kept). IsSubset x.facts (map.insert U d b)) same (λ q e z.
          of_dot F d b q e (map.get (map.insert U d b) q ≡ Some e)
          (λ here bc. ap (map.get (map.insert U d b)) here ∙ get_here U d b ∙ ap Some bc)
          (λ y. grows q e (c.held n k at q e y)) z))
          (λ y. subset_trans i.facts U _ (c.held r i y) grows) h;
      home = λ q e h.
          of_dot U d b q e
          ((i : Kept) × (map.get (map.insert s.regions n j) q.region ≡ Some i)
          × (map.get i.facts q ≡ Some e))
          (λ here bc. (
            j,
            region_here s n j q.region (ap (λ x. x.region) here ∙ own),
            ap (map.get j.facts) here ∙ get_here F d b ∙ ap Some bc,
          ))
          (λ y.
          let old = c.home q e y in
          region_of_get s.regions n j q.region
          (λ o. (i : Kept) × (o ≡ Some i) × (map.get i.facts q ≡ Some e))
          (λ same. (
            j,
            refl,
            by_dot (λ o. o ≡ Some e) F d b q
                (λ here. absurd (none_is_not_some e (sym new ∙ ap (map.get U) (sym here) ∙ y)))
                (ap (λ (x : Kept). map.get x.facts q)
                (some_injective k old.0 (sym at ∙ ap (map.get s.regions) (sym same) ∙ old.1))
                ∙ old.2),
          ))
          (λ _. old)) h;
      carried = λ i fs h. let x = c.carried i fs h in
          (AllIn-subset U (map.insert U d b) fs.facts grows x.0, x.1);
      capped = λ q e h. of_dot U d b q e (q.serial ≤ s.settings.cap)
          (λ here bc. subst (λ x. x.serial ≤ s.settings.cap) (sym here) under) (c.capped q e) h;
      low = c.low;
    }

-- what holds of each bundle and of one more holds of each bundle with that one behind them
at_end : (bs : List Sent) (b : Sent) (i : ℕ) (e : Sent) (P : Type 0) → (slice_get bs i ≡ Some e → P)
    → (b ≡ e → P) → slice_get (bs ++ b ∷ []) i ≡ Some e → P
at_end [] b zero e P there here h = here (some_injective b e h)
at_end [] b (suc i) e P there here h = absurd (none_is_not_some e h)
at_end (x ∷ bs) b zero e P there here h = there h
at_end (x ∷ bs) b (suc i) e P there here h = at_end bs b i e P there here h

-- one more bundle of facts in U
pub consists_bundle : (s : State) (U : FactSet) (b : Sent) → Consists s U → AllIn U b.facts
    → length b.facts ≤ 128 → Consists (with_bundle s b) U
consists_bundle s U b c a short = record {
  sound = c.sound;
  held = c.held;
  home = c.home;
  carried = λ i e h. at_end s.bundles b i e (AllIn U e.facts × (length e.facts ≤ 128))
      (c.carried i e)
      (λ same. subst (λ (x : Sent). AllIn U x.facts × (length x.facts ≤ 128)) same (a, short)) h;
  capped = c.capped;
  low = c.low;
}

-- a state without regions and bundles
pub new_consists : (settings : SettingsFields) → settings.cap ≤ max_cap
    → Consists (new_state settings) map.empty
new_consists settings low = record {
  sound = IsFactSet-empty;
  held = λ r k h. absurd (none_is_not_some k (sym (map.get-empty nat_cmp r) ∙ h));
  home = λ d b h. absurd (none_is_not_some b (sym (map.get-empty dot_cmp d) ∙ h));
  carried = λ i b h. absurd (none_is_not_some b (nothing i ∙ h));
  capped = λ d b h. absurd (none_is_not_some b (sym (map.get-empty dot_cmp d) ∙ h));
  low = low;
}
  where
    nothing : (i : ℕ) → None ≡ slice_get {X = Sent} [] i
    nothing zero = refl
    nothing (suc i) = refl
