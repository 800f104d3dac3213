-- What holds between a world and the state for which it stands. Key results:
--   open_for, closed_for, some_for   a region of the world, in the state
--   stands_put                       a region's store and the facts for which it stands change
--   new_stands                       a world without regions and bundles
use Rattle.std.proofs.Common.{◌≡◌, ℕ, ◌≤◌, Option, Some, None, IsSome, refl, sym, ap, subst, ◌∙◌}
use Rattle.std.specs.Ordering.{nat_cmp}
use Rattle.std.specs.Cmp.{nat_cmp_total}
use Rattle.std.specs.Option.{option_and_then}
use Rattle.std.specs.FinMap as map
use Rattle.tk_handle.specs.declared.dot.Dot.{Dot}
use Rattle.tk_handle.specs.Dot.{dot_cmp}
use Rattle.tk_handle.specs.declared.token_id.TokenId.{TokenId}
use Rattle.tk_family.specs.Families.{use_of}
use Rattle.tk_fact.specs.Tokens.{MintedFields, minted_of}
use Rattle.tk_fact.specs.declared.body.Body.{Body}
use Rattle.tk_fact.specs.declared.body.Body.TheVariants.{ReuseSeen, AccessRefreshed}
use Rattle.tk_ledger.specs.Tokens.{link_of, links_in, minted_in}
use Rattle.tk_store.specs.FactSet.{FactSet, IsSubset}
use Rattle.tk_store.specs.Slots.{Slot}
use Rattle.tk_store.specs.StoreFields.{StoreFields, empty_store}
use Rattle.tk_store.proofs.PutLaws.{none_is_not_some}
use Rattle.tk_region.specs.SettingsFields.{SettingsFields, max_cap}
use Rattle.tk_retention.specs.StandsFor.{SlotStands, StandsFor, AreSound}
use Rattle.tk_retention.proofs.KeepingLaws.{stands_more}
use Rattle.tk_world.specs.State.{Kept, State, new_state, with_region, Consists}
use Rattle.tk_world.specs.WorldFields.{WorldFields, new_world, with_store}
use Rattle.tk_world.specs.WorldStands.{RegionFor, WorldStands}
use Rattle.tk_world.proofs.ConsistencyLaws.{region_of_get, new_consists}
use Rattle.tk_world.proofs.ItemLaws.{bundles_more}

-- inserting the value that a map has changes nothing
pub same_again : {A : Type 0} (m : map.FinMap nat_cmp A) (r : ℕ) (x : A) → map.get m r ≡ Some x
    → map.insert m r x ≡ m
same_again m r x at = map.same_map nat_cmp_total map.nat_cmp-IsAntisymmetric _ _ (λ q.
    region_of_get m r x q (λ o. o ≡ map.get m q) (λ same. sym at ∙ ap (map.get m) (sym same))
    (λ _. refl))

-- ---- a region of a world

-- a region that is open in the world is open in the state
pub record OpenFor (w : WorldFields) (U : FactSet) (s : State) (r : ℕ)
    (P : StoreFields) : Type 0 where
  pub k : Kept
  pub at : map.get s.regions r ≡ Some k
  pub stands : StandsFor P U k.facts
  pub horizon : k.horizon ≡ P.horizon

-- a region that is open in the world is open in the state
pub open_for : (w : WorldFields) (U : FactSet) (s : State) → WorldStands w U s
    → (r : ℕ) (P : StoreFields) → map.get w.regions r ≡ Some P → OpenFor w U s r P
open_for w U s S r P at = by (map.get s.regions r) refl
    (subst (λ (o : Option StoreFields). RegionFor U o (map.get s.regions r)) at (S.regions r))
  where
    by : (o : Option Kept) → map.get s.regions r ≡ o → RegionFor U (Some P) o → OpenFor w U s r P
    by None is x = absurd x
    by (Some k) is x = record { k = k; at = is; stands = x.0; horizon = x.1 }

-- a region that is not open in the world is not open in the state
pub closed_for : (w : WorldFields) (U : FactSet) (s : State) → WorldStands w U s → (r : ℕ)
    → map.get w.regions r ≡ None → map.get s.regions r ≡ None
closed_for w U s S r at = by (map.get s.regions r)
    (subst (λ (o : Option StoreFields). RegionFor U o (map.get s.regions r)) at (S.regions r))
  where
    by : (o : Option Kept) → RegionFor U None o → o ≡ None
    by None x = refl
    by (Some k) x = absurd x

-- if a region is open in the world, one is open in the state
pub some_for : (w : WorldFields) (U : FactSet) (s : State) → WorldStands w U s → (r : ℕ)
    → IsSome (map.get w.regions r) → IsSome (map.get s.regions r)
some_for w U s S r is = by (map.get w.regions r) (map.get s.regions r) (S.regions r) is
  where
    by : (o : Option StoreFields) (k : Option Kept) → RegionFor U o k → IsSome o → IsSome k
    by None None x is = is
    by None (Some k) x is = absurd x
    by (Some P) None x is = absurd x
    by (Some P) (Some k) x is = refl

-- a region's store and the facts for which it stands change
pub stands_put : (w : WorldFields) (U V : FactSet) (s : State) (r : ℕ) (P : StoreFields) (k : Kept)
    → WorldStands w U s → IsSubset U V → Consists (with_region s r k) V → AreSound V
    → StandsFor P V k.facts → k.horizon ≡ P.horizon
    → WorldStands (with_store w r P) V (with_region s r k)
stands_put w U V s r P k S more consists sound stands level = record {
  settings = S.settings;
  consists = consists;
  sound = sound;
  regions = λ q.
      region_of_get w.regions r P q (λ o. RegionFor V o (map.get (map.insert s.regions r k) q))
      (λ same. region_of_get s.regions r k q (λ o. RegionFor V (Some P) o) (λ _. (stands, level))
      (λ other. absurd (other same)))
      (λ other. region_of_get s.regions r k q (λ o. RegionFor V (map.get w.regions q) o)
      (λ same. absurd (other same))
      (λ _. region_more (map.get w.regions q) (map.get s.regions q) (S.regions q)));
  bundles = bundles_more U V more w.bundles s.bundles S.bundles;
}
  where
    region_more : (o : Option StoreFields) (p : Option Kept) → RegionFor U o p → RegionFor V o p
    region_more None None x = tt
    region_more (Some Q) (Some j) x = (stands_more Q U V j.facts more x.0, x.1)
    region_more None (Some j) x = absurd x
    region_more (Some Q) None x = absurd x

-- ---- parts that stay

-- a world that is as before stands for the state as before
pub unchanged_stands : (w new : WorldFields) (U : FactSet) (s : State) → new ≡ w → WorldStands w U s
    → WorldStands new U s
unchanged_stands w new U s same S = subst (λ (x : WorldFields). WorldStands x U s) (sym same) S

-- setting the store that a region has changes nothing
pub put_back : (w : WorldFields) (r : ℕ) (P : StoreFields) → map.get w.regions r ≡ Some P
    → with_store w r P ≡ w
put_back w r P at = ap (λ (m : map.FinMap nat_cmp StoreFields).
    record { settings = w.settings; regions = m; bundles = w.bundles })
    (same_again w.regions r P at)

-- no facts
abbrev pub no_facts : FactSet
no_facts = map.empty

-- an empty store stands for no facts
pub empty_stands : (U : FactSet) → StandsFor empty_store U no_facts
empty_stands U d = subst (λ (o : Option Slot). SlotStands U 0 d o (map.get no_facts d))
    (sym (map.get-empty dot_cmp d)) (map.get-empty dot_cmp d)

-- ---- worlds

-- no region
abbrev no_kept : map.FinMap nat_cmp Kept
no_kept = map.empty

-- a world without regions and bundles
pub new_stands : (settings : SettingsFields) → settings.cap ≤ max_cap
    → WorldStands (new_world settings) map.empty (new_state settings)
new_stands settings low = record {
  settings = refl;
  consists = new_consists settings low;
  sound = record {
    ends = λ k m c code other minted under issues. absurd (nothing_minted k m minted);
    parents = λ d k u. absurd (nothing_used d k u);
    reuses = λ d reuse at.
        absurd (none_is_not_some (ReuseSeen reuse) (sym (map.get-empty dot_cmp d) ∙ at));
    refreshed =
        λ d f at. absurd
        (none_is_not_some (AccessRefreshed f) (sym (map.get-empty dot_cmp d) ∙ at));
  };
  regions = λ r. subst (λ (o : Option StoreFields). RegionFor no_facts o (map.get no_kept r))
      (sym (map.get-empty nat_cmp r))
      (subst (λ (o : Option Kept). RegionFor no_facts None o) (sym (map.get-empty nat_cmp r)) tt);
  bundles = tt;
}
  where
    nothing_minted : (k : TokenId) (m : MintedFields) → minted_in (map.get no_facts) k ≡ Some m → ⊥
    nothing_minted k m h = none_is_not_some m
        (sym (ap (option_and_then (λ (b : Body). minted_of b k.kind)) (map.get-empty dot_cmp k.dot))
        ∙ h)

    nothing_used : (d : Dot) (k : TokenId) → use_of (links_in (map.get no_facts) d) ≡ Some k → ⊥
    nothing_used d k h = none_is_not_some k
        (sym (ap (λ (o : Option Body). use_of (option_and_then link_of o))
        (map.get-empty dot_cmp d))
        ∙ h)
