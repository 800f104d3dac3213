-- The list of regions and the entries that it stands for. Key results:
--   searched_entries   the result of a binary search for a number
--   entry_at           the entry of the region at an index
--   entries_set        the entries after a region is set at an index
--   entries_insert     the entries after a region is inserted
--   settings_at        the settings of the region at an index
--   settings_set       the settings after a region is set at an index
--   settings_insert    the settings after a region is inserted
use Rattle.std.proofs.Common.{◌≡◌, ℕ, zero, suc, ◌<◌, T, false, List, [], ◌∷◌, length, get_or, set}
use Rattle.std.proofs.Common.{Result, Ok, Err, MatchResult, refl, sym, ap, subst, ◌∙◌, arith}
use Rattle.std.specs.List.{insert}
use Rattle.std.specs.List.Sorted.{IsBinarySearchResult, IsSearchInRange, IsNonDecreasingBy}
use Rattle.std.specs.Ordering.{nat_cmp, ordering_index}
use Rattle.std.specs.declared.cmp.Ordering.TheVariants.{Less, Equal, Greater}
use Rattle.std.specs.Cmp.{nat_cmp_total}
use Rattle.std.specs.FinMap as map
use Rattle.tk_handle.specs.SortedEntries.{IsAt, IsGap}
use Rattle.tk_handle.proofs.SortedEntriesLaws.{searched}
use Rattle.tk_store.specs.StoreFields.{StoreFields}
use Rattle.std.proofs.lemmas.List.{get_or-map, map-set, length-map}
use Rattle.tk_edge.specs.EdgeFields.{EdgeFields}
use Rattle.tk_edge.specs.Terms.{accept_all}
use Rattle.tk_message.specs.Choices.{profile_choices}
use Rattle.tk_region.specs.SettingsFields.{SettingsFields}
use Rattle.tk_world.specs.Regions.{entry_of, entries_of, IsOpen, HaveSettings}

-- there are as many entries as regions
many : (rs : List EdgeFields) → length (entries_of rs) ≡ length rs
many rs = length-map rs entry_of

-- the entry of the region at an index
pub entry_at : (rs : List EdgeFields) (i : ℕ) (p : EdgeFields) → i < length (entries_of rs)
    → p ≡ get_or rs i p → entry_of p ≡ get_or (entries_of rs) i (entry_of p)
entry_at rs i p within is = ap entry_of is
    ∙ sym (get_or-map entry_of rs i p (entry_of p) (subst (λ n. i < n) (many rs) within))

-- the entries after an edge was replaced are the old ones with that entry replaced
pub entries_set : (rs : List EdgeFields) (i : ℕ) (q : EdgeFields)
    → entries_of (set rs i q) ≡ set (entries_of rs) i (entry_of q)
entries_set rs i q = map-set entry_of rs i q

-- the entries after an edge was inserted are the old ones with that entry inserted
pub entries_insert : (rs : List EdgeFields) (i : ℕ) (q : EdgeFields)
    → entries_of (insert rs i q) ≡ insert (entries_of rs) i (entry_of q)
entries_insert [] zero q = refl
entries_insert [] (suc i) q = refl
entries_insert (r ∷ rs) zero q = refl
entries_insert (r ∷ rs) (suc i) q = ap (λ es. entry_of r ∷ es) (entries_insert rs i q)

-- ---- a search by number

-- a region with this entry
abbrev region_of : ℕ × StoreFields → EdgeFields
region_of e = record {
  region = record {
    number = e.0;
    settings = record {
      code = 0;
      access = 0;
      refresh = 0;
      family = 0;
      cap = 0;
      choices = profile_choices;
    };
    facts =
        e.1;
  };
  terms = accept_all;
  sealed = false;
}

-- the entry at an index, or a region's entry past the end, is that of the region at the index
get_entry : (rs : List EdgeFields) (i : ℕ) (d : EdgeFields)
    → get_or (entries_of rs) i (entry_of d) ≡ entry_of (get_or rs i d)
get_entry [] i d = refl
get_entry (r ∷ rs) zero d = refl
get_entry (r ∷ rs) (suc i) d = get_entry rs i d

-- the entry at an index, or a given entry past the end, is that of the region at the index
at_entry : (rs : List EdgeFields) (i : ℕ) (d : ℕ × StoreFields)
    → get_or (entries_of rs) i d ≡ entry_of (get_or rs i (region_of d))
at_entry [] i d = refl
at_entry (r ∷ rs) zero d = refl
at_entry (r ∷ rs) (suc i) d = at_entry rs i d

-- a search among regions is a search among their entries
by_entries : (rs : List EdgeFields) (k : ℕ) (r : Result ℕ ℕ)
    → IsBinarySearchResult (λ (edge : EdgeFields). nat_cmp edge.region.number k) rs r
    → IsBinarySearchResult (λ (e : ℕ × StoreFields). nat_cmp e.0 k) (entries_of rs) r
by_entries rs k (Ok i) here =
    λ d. subst (λ e. nat_cmp e.0 k ≡ Equal) (sym (at_entry rs i d)) (here (region_of d))
by_entries rs k (Err i) parted = λ rises.
    let along : IsNonDecreasingBy
    (λ (edge : EdgeFields). ordering_index (nat_cmp edge.region.number k)) rs =
    λ a b d le lt. let x = rises a b (entry_of d) le (subst (λ n. b < n) (sym (many rs)) lt) in
    rw (get_entry rs a d, get_entry rs b d) at x in
    let p = parted along in (
      λ j d le lt.
          subst (λ e. nat_cmp e.0 k ≡ Less) (sym (at_entry rs j d)) (p.0 j (region_of d) le lt),
      λ j d le lt.
          subst (λ e. nat_cmp e.0 k ≡ Greater) (sym (at_entry rs j d))
          (p.1 j (region_of d) le (subst (λ n. j < n) (many rs) lt)),
    )

-- a search result in range of the regions is in range of the entries
in_entries : (rs : List EdgeFields) (r : Result ℕ ℕ) → IsSearchInRange r (length rs)
    → IsSearchInRange r (length (entries_of rs))
in_entries rs r within = subst (IsSearchInRange r) (sym (many rs)) within

-- a search by number in the list of edges finds the entry of a region, or its gap
pub searched_entries : (rs : List EdgeFields) → T (map.is_sorted nat_cmp (entries_of rs))
    → (k : ℕ) (r : Result ℕ ℕ) → IsSearchInRange r (length rs)
    → IsBinarySearchResult (λ (edge : EdgeFields). nat_cmp edge.region.number k) rs r
    → MatchResult r (IsAt nat_cmp (entries_of rs) k) (IsGap nat_cmp (entries_of rs) k)
searched_entries rs sorted k r within result =
    searched nat_cmp nat_cmp_total (entries_of rs) sorted k r (in_entries rs r within)
    (by_entries rs k r result)

-- ---- settings

module _ (settings : SettingsFields) where
  -- an edge of the list has the world's settings
  pub settings_at : (rs : List EdgeFields) (i : ℕ) (p : EdgeFields) → i < length (entries_of rs)
      → p ≡ get_or rs i p → HaveSettings settings rs → IsOpen settings p
  settings_at rs i p within is all = subst (IsOpen settings) (sym is) (here rs i p within all)
    where
      here : (rs : List EdgeFields) (i : ℕ) (d : EdgeFields) → i < length (entries_of rs)
          → HaveSettings settings rs → IsOpen settings (get_or rs i d)
      here [] i d within all = absurd (omega (arith, within))
      here (r ∷ rs) zero d within all = all.0
      here (r ∷ rs) (suc i) d within all = here rs i d (omega (arith, within)) all.1

  -- all edges have the world's settings after one with them was set
  pub settings_set : (rs : List EdgeFields) (i : ℕ) (q : EdgeFields) → IsOpen settings q
      → HaveSettings settings rs → HaveSettings settings (set rs i q)
  settings_set [] i q same all = tt
  settings_set (r ∷ rs) zero q same all = (same, all.1)
  settings_set (r ∷ rs) (suc i) q same all = (all.0, settings_set rs i q same all.1)

  -- all edges have the world's settings after one with them was inserted
  pub settings_insert : (rs : List EdgeFields) (i : ℕ) (q : EdgeFields) → IsOpen settings q
      → HaveSettings settings rs → HaveSettings settings (insert rs i q)
  settings_insert [] zero q same all = (same, tt)
  settings_insert [] (suc i) q same all = (same, tt)
  settings_insert (r ∷ rs) zero q same all = (same, all)
  settings_insert (r ∷ rs) (suc i) q same all = (all.0, settings_insert rs i q same all.1)
