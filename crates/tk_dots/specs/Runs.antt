-- A set of dots as runs (own). A run is some dots of a region that follow one another.
--   Runs                 the last serial of each run, by its first dot
--   with_run, run_set    the set of the dots of runs
--   HasAt, IsCovered     a run has a dot; some run has it
--   IsRuns               what holds of runs: no two touch
--   IsRunBelow           the last run of a region that begins at a dot or below it
--   IsEndAbove           where the run that begins right above a dot ends
--   IsStart, IsStartAt   where the run of a new dot begins
--   Joined               the runs once a dot was added
--   IsFirstAbove         the least dot above a dot at which a run begins
--   IsRightAbove         the dot right above a dot, if it is in a set
--   IsNextIn             the least dot of a set above a dot
--   IsLastIn             the greatest serial of a region in a set
use Rattle.std.specs.Prelude.{◌≡◌, ◌≢◌, ◌⊎◌, ℕ, zero, suc, ◌+◌, ◌-◌, ◌<◌, ◌≤◌, true, false}
use Rattle.std.specs.Prelude.{List, []}
use Rattle.std.specs.Prelude.{◌∷◌, Option, Some, None, IsSome, if◌then◌else◌}
use Rattle.std.specs.BTreeMap.{BTreeMap, get, is_at, IsOrdered}
use Rattle.std.specs.FinSet as set
use Rattle.std.specs.Ordering.{is_lt}
use Rattle.tk_handle.specs.declared.dot.Dot.{Dot}
use Rattle.tk_handle.specs.Dot.{dot_cmp}
use Rattle.tk_handle.specs.Ranges.{max_serial}
use Rattle.tk_dots.specs.Pages.{IsAbove}

-- the last serial of each run, by the first dot of the run
abbrev pub Runs : Type 0
Runs = BTreeMap Dot ℕ

-- a set of dots
abbrev pub DotSet : Type 0
DotSet = set.FinSet dot_cmp

-- a dot of a region
abbrev pub dot_of : ℕ → ℕ → Dot
dot_of region serial = record { region = region; serial = serial }

-- the set with n dots of a region, from a serial on
unfoldable pub with_run : ℕ → ℕ → ℕ → DotSet → DotSet
with_run r first zero s = s
with_run r first (suc n) s = set.insert (with_run r first n s) (dot_of r (first + n))

-- the set of the dots of all runs
abbrev pub run_set : List (Dot × ℕ) → DotSet
run_set [] = set.empty
run_set (e ∷ es) = with_run e.0.region e.0.serial (e.1 + 1 - e.0.serial) (run_set es)

-- a run that begins at the serial has the dot
pub record HasAt (m : Runs) (q : Dot) (first : ℕ) : Type 0 where
  pub last : ℕ
  pub here : get dot_cmp m (dot_of q.region first) ≡ Some last
  pub low : first ≤ q.serial
  pub high : q.serial ≤ last

-- some run has the dot
pub record IsCovered (m : Runs) (q : Dot) : Type 0 where
  pub first : ℕ
  pub has : HasAt m q first

-- each run has a dot, in range, and no two runs of a region touch
pub record IsRuns (m : Runs) : Type 0 where
  pub ordered : IsOrdered dot_cmp m
  pub rises : (k : Dot) (last : ℕ) → get dot_cmp m k ≡ Some last → k.serial ≤ last
  pub ranged : (k : Dot) (last : ℕ) → get dot_cmp m k ≡ Some last → last ≤ max_serial
  pub some : (k : Dot) (last : ℕ) → get dot_cmp m k ≡ Some last → 0 < k.serial
  pub apart : (r k q last other : ℕ) → get dot_cmp m (dot_of r k) ≡ Some last
      → get dot_cmp m (dot_of r q) ≡ Some other → k < q → last + 1 < q

-- the run of the dot's region that begins last, at the dot or below it; or there is none
abbrev pub IsRunBelow : Runs → Dot → Option (Dot × ℕ) → Type 0
IsRunBelow m d None =
    (k last : ℕ) → k ≤ d.serial → get dot_cmp m (dot_of d.region k) ≡ Some last → ⊥
IsRunBelow m d (Some p) =
    (p.0.region ≡ d.region) × (p.0.serial ≤ d.serial)
    × (get dot_cmp m (dot_of d.region p.0.serial) ≡ Some p.1)
    × ((k last : ℕ) → k ≤ d.serial → get dot_cmp m (dot_of d.region k) ≡ Some last
    → k ≤ p.0.serial)

-- the last serial of the run that begins right above the dot; or the dot's own, if there is none
abbrev pub IsEndAbove : Runs → Dot → ℕ → Type 0
IsEndAbove m d end =
    ((end ≡ d.serial) × (get dot_cmp m (dot_of d.region (d.serial + 1)) ≡ None))
    ⊎ ((d.serial < end) × (get dot_cmp m (dot_of d.region (d.serial + 1)) ≡ Some end))

-- where the run of a new dot begins: at the dot, if no run ends right below it, or where that run
-- begins
abbrev pub IsStart : Runs → Dot → ℕ → Type 0
IsStart m d s =
    ((s ≡ d.serial)
    × ((k last : ℕ) → k ≤ d.serial → get dot_cmp m (dot_of d.region k) ≡ Some last
    → last + 1 ≢ d.serial))
    ⊎ ((last : ℕ) × (get dot_cmp m (dot_of d.region s) ≡ Some last) × (last + 1 ≡ d.serial)
    × (s ≤ d.serial))

-- where the run of a dot begins, if no run has the dot yet
abbrev pub IsStartAt : Runs → Dot → Option Dot → Type 0
IsStartAt m d None = IsCovered m d
IsStartAt m d (Some first) =
    (IsCovered m d → ⊥) × (first.region ≡ d.region) × IsStart m d first.serial
    × (0 < first.serial)

-- the runs with one from a serial to another in the place of those that begin there and right above
-- the dot
abbrev pub Joined : Runs → Dot → ℕ → ℕ → Runs → Type 0
Joined m d s end n =
    (k : Dot) → get dot_cmp n k ≡
    (if is_at (dot_cmp (dot_of d.region (d.serial + 1))) k then None
    else if is_at (dot_cmp (dot_of d.region s)) k then Some end
    else get dot_cmp m k)

-- the least dot above `after` at which a run begins, or none begins above
abbrev pub IsFirstAbove : Runs → Option Dot → Option Dot → Type 0
IsFirstAbove m after None = (k : Dot) → IsAbove after k → get dot_cmp m k ≡ None
IsFirstAbove m after (Some f) =
    IsAbove after f × IsSome (get dot_cmp m f)
    × ((k : Dot) → IsAbove after k → IsSome (get dot_cmp m k) → is_lt (dot_cmp k f) ≡ false)

-- the dot right above the dot, if it is in the set; otherwise that dot is not in it
abbrev pub IsRightAbove : DotSet → Dot → Option Dot → Type 0
IsRightAbove s d None = set.contains s (dot_of d.region (d.serial + 1)) ≡ false
IsRightAbove s d (Some q) =
    (q ≡ dot_of d.region (d.serial + 1)) × (set.contains s q ≡ true)

-- the least dot of the set above `after`, or no dot is above
abbrev pub IsNextIn : DotSet → Option Dot → Option Dot → Type 0
IsNextIn s after None = (q : Dot) → IsAbove after q → set.contains s q ≡ false
IsNextIn s after (Some d) =
    (set.contains s d ≡ true) × IsAbove after d
    × ((q : Dot) → IsAbove after q → set.contains s q ≡ true → is_lt (dot_cmp q d) ≡ false)

-- the greatest serial of a region in the set, or 0
pub record IsLastIn (s : DotSet) (region serial : ℕ) : Type 0 where
  pub there : 0 < serial → set.contains s (dot_of region serial) ≡ true
  pub greatest : (n : ℕ) → set.contains s (dot_of region n) ≡ true → n ≤ serial
