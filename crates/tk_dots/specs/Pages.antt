-- The pages of a map from dots, and the map that they hold (own).
--   span, page_of               the number of dots of a page; the page of a dot
--   dot_in                      the dot at a place of a page
--   slot_in, cell, cell_at      the value at a place of a page, of one of the pages, and at a dot
--   seen                        the finite map that pages hold
--   FirstFrom                   the first value from a place on
--   FirstIn, FirstOn            the first value of a page, and of one of the pages
--   EndsFull                    no empty place is at the end
--   IsPage, IsPages, IsPaged    what holds of a page, of all pages, and of pages with their length
--   IsFirstPage, FirstOfPages   the first value above a page
--   IsNext                      the least dot above a dot that has a value, and that value
--   IsLast                      the greatest serial of a region
use Rattle.std.specs.Prelude.{◌≡◌, ℕ, zero, suc, ◌+◌, ◌*◌, ◌-◌, ◌/◌, ◌%◌, ◌<◌, ◌≤◌, true}
use Rattle.std.specs.Prelude.{false, List, [], ◌∷◌, length, Option, Some, None, IsSome}
use Rattle.std.specs.Prelude.{slice_index_or}
use Rattle.std.proofs.Common.{Vec, Global}
use Rattle.std.specs.BTreeMap.{BTreeMap, get}
use Rattle.std.specs.Ordering.{is_lt}
use Rattle.std.specs.FinMap as map
use Rattle.tk_handle.specs.declared.dot.Dot.{Dot}
use Rattle.tk_handle.specs.Dot.{dot_cmp}
use Rattle.tk_handle.specs.Ranges.{max_serial}

-- the number of dots of a page
abbrev pub span : ℕ
span = 64

-- the page of a dot, as a dot: the region, and the number of the page, from 1
abbrev pub page_of : Dot → Dot
page_of d = record { region = d.region; serial = d.serial / span + 1 }

-- the dot at a place of a page
abbrev pub dot_in : Dot → ℕ → Dot
dot_in k i = record { region = k.region; serial = (k.serial - 1) * span + i }

-- q is above the given dot, or no dot is given
abbrev pub IsAbove : Option Dot → Dot → Type 0
IsAbove None q = Unit {0}
IsAbove (Some d) q = is_lt (dot_cmp d q) ≡ true

-- the places of a page
abbrev pub Slots : Type 0 → Type 0
Slots X = Vec (Option X) Global

-- the pages
abbrev pub Pages : Type 0 → Type 0
Pages X = BTreeMap Dot (Slots X)

module _ {X : Type 0} where
  -- the value at a place of a page, if there is such a page
  abbrev pub slot_in : Option (Slots X) → ℕ → Option X
  slot_in None i = None
  slot_in (Some v) i = slice_index_or v.items i None

  -- the value at a place of one of the pages
  abbrev pub cell : Pages X → Dot → ℕ → Option X
  cell m k i = slot_in (get dot_cmp m k) i

  -- the value at a dot
  abbrev pub cell_at : Pages X → Dot → Option X
  cell_at m d = cell m (page_of d) (d.serial % span)

  -- the map with a value put at a dot, or with none there
  abbrev pub with_slot : map.FinMap dot_cmp X → Dot → Option X → map.FinMap dot_cmp X
  with_slot m d None = map.remove m d
  with_slot m d (Some x) = map.insert m d x

  -- the map with the first n places of the p-th page of a region
  unfoldable pub with_places : ℕ → ℕ → List (Option X) → ℕ → map.FinMap dot_cmp X
      → map.FinMap dot_cmp X
  with_places r p os zero m = m
  with_places r p os (suc n) m =
      with_slot (with_places r p os n m) (record { region = r; serial = p * span + n })
      (slice_index_or os n None)

  -- the map with the values of a page; pages are numbered from 1
  unfoldable pub with_page : ℕ → ℕ → List (Option X) → map.FinMap dot_cmp X
      → map.FinMap dot_cmp X
  with_page r zero os m = m
  with_page r (suc p) os m = with_places r p os span m

  -- the finite map that pages hold
  abbrev pub seen : List (Dot × Slots X) → map.FinMap dot_cmp X
  seen [] = map.empty
  seen (e ∷ es) = with_page e.0.region e.0.serial e.1.items (seen es)

  -- the first place, from a place on, that has a value, and that value
  abbrev pub FirstFrom : (ℕ → Option X) → ℕ → Option (ℕ × X) → Type 0
  FirstFrom f from None = (j : ℕ) → from ≤ j → f j ≡ None
  FirstFrom f from (Some p) =
      (from ≤ p.0) × (f p.0 ≡ Some p.1) × ((j : ℕ) → from ≤ j → j < p.0 → f j ≡ None)

  -- the dot of the first place of a page, from a place on, that has a value, and that value
  abbrev pub FirstIn : Dot → List (Option X) → ℕ → Option (Dot × X) → Type 0
  FirstIn k os from None = FirstFrom (λ j. slice_index_or os j None) from None
  FirstIn k os from (Some p) =
      (i : ℕ) × (p.0 ≡ dot_in k i)
      × FirstFrom (λ j. slice_index_or os j None) from (Some (i, p.1))

  -- the dot of the first place of one of the pages, from a place on, that has a value, and that
  -- value
  abbrev pub FirstOn : Pages X → Dot → ℕ → Option (Dot × X) → Type 0
  FirstOn m k from None = FirstFrom (cell m k) from None
  FirstOn m k from (Some p) =
      (i : ℕ) × (p.0 ≡ dot_in k i) × FirstFrom (cell m k) from (Some (i, p.1))

  -- no empty place is at the end
  abbrev pub EndsFull : List (Option X) → Type 0
  EndsFull os = 0 < length os → IsSome (slice_index_or os (length os - 1) None)

  -- a page: its last place has a value, and each value is at a dot
  pub record IsPage (k : Dot) (os : List (Option X)) : Type 0 where
    pub some : 0 < length os
    pub full : EndsFull os
    pub short : length os ≤ span
    pub high : (k.serial - 1) * span + length os ≤ max_serial + 1
    pub low : k.serial ≡ 1 → slice_index_or os 0 None ≡ None

  -- each page is as `IsPage` says
  abbrev pub IsPages : Pages X → Type 0
  IsPages m = (k : Dot) (v : Slots X) → get dot_cmp m k ≡ Some v → IsPage k v.items

  -- each page is as `IsPage` says, and `len` is the number of values
  pub record IsPaged (m : Pages X) (len : ℕ) : Type 0 where
    pub pages : IsPages m
    pub counted : len ≡ map.len (seen m.entries)

  -- p is the first value of the first page above `after`
  pub record IsFirstPage (m : Pages X) (after : Option Dot) (p : Dot × X) : Type 0 where
    pub key : Dot
    pub some : 0 < key.serial
    pub above : IsAbove after key
    pub least : (k : Dot) → IsAbove after k → IsSome (get dot_cmp m k)
        → is_lt (dot_cmp k key) ≡ false
    pub first : FirstOn m key 0 (Some p)

  -- the first value of the first page above `after`, or no page is above
  abbrev pub FirstOfPages : Pages X → Option Dot → Option (Dot × X) → Type 0
  FirstOfPages m after (Some p) = IsFirstPage m after p
  FirstOfPages m after None = (k : Dot) → IsAbove after k → get dot_cmp m k ≡ None

  -- the dot is the least above `after` that has a value, and x is the value
  pub record IsLeastAbove (m : map.FinMap dot_cmp X) (after : Option Dot) (dot : Dot) (x : X)
      : Type 0 where
    pub held : map.get m dot ≡ Some x
    pub above : IsAbove after dot
    pub least : (q : Dot) → IsAbove after q → IsSome (map.get m q)
        → is_lt (dot_cmp q dot) ≡ false

  -- the least dot above `after` that has a value, and that value; or no dot above has one
  abbrev pub IsNext : map.FinMap dot_cmp X → Option Dot → Option (Dot × X) → Type 0
  IsNext m after (Some p) = IsLeastAbove m after p.0 p.1
  IsNext m after None = (q : Dot) → IsAbove after q → map.get m q ≡ None

  -- the greatest serial of a region, or 0
  pub record IsLast (m : map.FinMap dot_cmp X) (region serial : ℕ) : Type 0 where
    pub there : 0 < serial → IsSome (map.get m (record { region = region; serial = serial }))
    pub greatest : (q : Dot) → q.region ≡ region → IsSome (map.get m q) → q.serial ≤ serial
