-- How the parts of a step may end (own).
--   Opens        inserting a region
--   Pages        adding a page to the bundles
--   IsPlaced     a region has the number and the settings of another
--   TakesBundle  taking a bundle in
--   PrunesTo     pruning
--   PrunesSomeTo pruning a slice
use Rattle.std.specs.Prelude.{◌≡◌, ◌⊎◌, ℕ, List, [], ◌∷◌, ◌++◌, length, insert, Option, Ok, Err}
use Rattle.tk_handle.specs.declared.dot.Dot.{Dot}
use Rattle.tk_ledger.specs.Retention.{Prunes}
use Rattle.tk_ledger.specs.Slices.{PrunesSome}
use Rattle.tk_bundle.specs.BundleFields.{BundleFields}
use Rattle.tk_bundle.specs.Page.{PageFields}
use Rattle.tk_region.specs.RegionFields.{RegionFields}
use Rattle.tk_region.specs.Taking.{Takes}
use Rattle.tk_region.specs.declared.take.TakeError.TheVariants as take
use Rattle.tk_edge.specs.EdgeFields.{EdgeFields}
use Rattle.tk_world.specs.declared.event.Outcome.{Outcome}
use Rattle.tk_world.specs.declared.event.Outcome.TheVariants.{Opened, Bundle, Took, Pruned, Memory}
use Rattle.tk_world.specs.declared.event.Outcome.TheVariants.{PrunedSome}

-- inserting a region may end with the region in its place, or unchanged when memory runs out
abbrev pub Opens : List EdgeFields → ℕ → EdgeFields → Outcome → List EdgeFields → Type 0
Opens old at edge Opened new = new ≡ insert old at edge
Opens old at edge Memory new = new ≡ old
Opens old at edge outcome new = ⊥

-- adding a page to the bundles may end with the page behind the others, or unchanged when memory
-- runs out
abbrev pub Pages : PageFields → List BundleFields → Outcome → List BundleFields → Type 0
Pages page old (Bundle index count last more) new =
    (index ≡ length old) × (count ≡ length page.bundle.items) × (last ≡ page.last)
    × (more ≡ page.more) × (new ≡ old ++ page.bundle ∷ [])
Pages page old Memory new = new ≡ old
Pages page old outcome new = ⊥

-- a region has the number and the settings of another
pub record IsPlaced (old new : RegionFields) : Type 0 where
  pub number : new.number ≡ old.number
  pub settings : new.settings ≡ old.settings

-- all of a bundle is in, of which n dots were unknown; or memory ran out, and nothing changed or
-- the first of the items are in
abbrev pub TakesBundle : RegionFields → BundleFields → Outcome → RegionFields → Type 0
TakesBundle old b (Took n) new = IsPlaced old new × Takes old.facts b (Ok n) new.facts
TakesBundle old b Memory new =
    IsPlaced old new
    × ((new.facts ≡ old.facts) ⊎ Takes old.facts b (Err take.Memory) new.facts)
TakesBundle old b outcome new = ⊥

-- n facts of families that are over were skipped; or memory ran out, and nothing changed
abbrev pub PrunesTo : RegionFields → ℕ → Outcome → RegionFields → Type 0
PrunesTo old moment (Pruned n) new =
    IsPlaced old new × Prunes old.facts moment n new.facts
PrunesTo old moment Memory new = new ≡ old
PrunesTo old moment outcome new = ⊥

-- `count` facts above the cursor were looked at, and those that may go were skipped
abbrev pub PrunesSomeTo : RegionFields → ℕ → Option Dot → ℕ → Outcome → RegionFields → Type 0
PrunesSomeTo old moment after count (PrunedSome slice) new =
    IsPlaced old new × PrunesSome old.facts moment after count slice new.facts
PrunesSomeTo old moment after count outcome new = ⊥
