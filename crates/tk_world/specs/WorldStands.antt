-- What a world stands for: a state in which no fact was skipped (own).
--   ItemStands    an item of a bundle stands for a fact
--   BundleStands  a bundle stands for facts that were made
--   RegionFor     what a region knows stands for the facts that it made and took in
--   WorldStands   a world stands for a state, where U is the set of all facts made
use Rattle.std.specs.Prelude.{◌≡◌, ⊤, ℕ, List, [], ◌∷◌, Option, Some, None}
use Rattle.std.specs.FinMap as map
use Rattle.tk_handle.specs.declared.dot.Dot.{Dot}
use Rattle.tk_fact.specs.declared.body.Body.{Body}
use Rattle.tk_store.specs.FactSet.{FactSet, Facts}
use Rattle.tk_store.specs.Slots.{Slot, Held, Skipped}
use Rattle.tk_store.specs.StoreFields.{StoreFields}
use Rattle.tk_ledger.specs.Retention.{MaySkip}
use Rattle.tk_bundle.specs.BundleFields.{BundleFields, Items}
use Rattle.tk_retention.specs.StandsFor.{StandsFor, AreSound}
use Rattle.tk_world.specs.State.{Kept, Sent, State, Consists}
use Rattle.tk_world.specs.WorldFields.{WorldFields}

-- a slot of a bundle with a horizon stands for the fact at its dot: the fact itself, or a mark of a
-- fact that may be skipped at the horizon
abbrev pub ItemStands : FactSet → Option ℕ → Dot → Slot → Body → Type 0
ItemStands U horizon d (Held b) fact = b ≡ fact
ItemStands U horizon d Skipped fact =
    (moment : ℕ) × (horizon ≡ Some moment) × MaySkip (map.get U) moment d

-- the items of a bundle with a horizon stand for facts, one for each
abbrev pub ItemsStand : FactSet → Option ℕ → Items → Facts → Type 0
ItemsStand U horizon [] [] = ⊤
ItemsStand U horizon (i ∷ is) (f ∷ fs) =
    (i.0 ≡ f.0) × ItemStands U horizon f.0 i.1 f.1 × ItemsStand U horizon is fs
ItemsStand U horizon is fs = ⊥

-- a bundle stands for facts, with its horizon
pub record BundleStands (U : FactSet) (b : BundleFields) (sent : Sent) : Type 0 where
  pub horizon : sent.horizon ≡ b.horizon
  pub items : ItemsStand U b.horizon b.items sent.facts

-- bundles stand for facts, each for those in its place
abbrev pub BundlesStand : FactSet → List BundleFields → List Sent → Type 0
BundlesStand U [] [] = ⊤
BundlesStand U (b ∷ bs) (c ∷ cs) = BundleStands U b c × BundlesStand U bs cs
BundlesStand U bs cs = ⊥

-- what a region knows, if it is open, stands for the facts that it made and took in, with its
-- horizon
abbrev pub RegionFor : FactSet → Option StoreFields → Option Kept → Type 0
RegionFor U None None = ⊤
RegionFor U (Some P) (Some k) = StandsFor P U k.facts × (k.horizon ≡ P.horizon)
RegionFor U P k = ⊥

-- where U is the set of all facts made, the world stands for the state: each region for the facts
-- that it made and took in, and each bundle for its facts
pub record WorldStands (w : WorldFields) (U : FactSet) (s : State) : Type 0 where
  pub settings : s.settings ≡ w.settings
  pub consists : Consists s U
  pub sound : AreSound U
  pub regions : (r : ℕ) → RegionFor U (map.get w.regions r) (map.get s.regions r)
  pub bundles : BundlesStand U w.bundles s.bundles

-- the world stands for some state
abbrev pub IsStanding : WorldFields → Type 0
IsStanding w = (U : FactSet) × (s : State) × WorldStands w U s
