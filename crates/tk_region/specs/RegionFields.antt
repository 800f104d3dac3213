-- What contracts see of a region (own).
--   RegionFields   a region's number, settings and store of facts
--   place_in       the place of a region's next decision
--   IsCapped       the region's own dots have serials up to the cap: this holds of every region
--   with_made      a store with the fact that was made, if there is one
--   Gains          a region gains a fact, or nothing
use Rattle.std.specs.Prelude.{◌≡◌, ℕ, ◌≤◌, Option, Some, None, refl}
use Rattle.std.specs.FinMap as map
use Rattle.std.specs.Coded.{Coded, code_by, coded×, coded_ℕ}
use Rattle.tk_handle.specs.declared.dot.Dot.{Dot}
use Rattle.tk_fact.specs.declared.body.Body.{Body}
use Rattle.tk_store.specs.NextDot.{next_serial}
use Rattle.tk_store.specs.Slots.{Slot}
use Rattle.tk_store.specs.StoreFields.{StoreFields, with_fact, coded_store}
use Rattle.tk_message.specs.declared.place.Place.{Place}
use Rattle.tk_region.specs.SettingsFields.{SettingsFields, lives_of, coded_settings, max_cap}

-- a region's number, settings and store of facts
pub record RegionFields : Type 0 where
  pub number : ℕ
  pub settings : SettingsFields
  pub facts : StoreFields

-- the code of a region, from the codes of its parts
abbrev pub coded_region : Coded RegionFields
coded_region =
    code_by (ℕ × (SettingsFields × StoreFields))
    (coded× coded_ℕ (coded× coded_settings coded_store)) (λ r. (r.number, (r.settings, r.facts)))
    (λ p. record { number = p.0; settings = p.1.0; facts = p.1.1 }) (λ _. refl)

-- the place of a region's next decision: its number, its next serial, and the lives and choices of
-- its settings
abbrev pub place_in : RegionFields → Place
place_in r =
    record {
      number = r.number;
      next = next_serial r.facts.slots r.number;
      lives = lives_of r.settings;
      choices = r.settings.choices;
    }

-- the region's own dots, of facts held and skipped, have serials up to the cap, which leaves one
-- serial above it
pub record IsCapped (r : RegionFields) : Type 0 where
  pub own : (d : Dot) (s : Slot) → map.get r.facts.slots d ≡ Some s → d.region ≡ r.number
      → d.serial ≤ r.settings.cap
  pub low : r.settings.cap ≤ max_cap

-- the store with the fact that was made, if there is one
abbrev pub with_made : StoreFields → Option (Dot × Body) → StoreFields
with_made P None = P
with_made P (Some f) = with_fact P f.0 f.1

-- the fact, if there is one, is added to those of the region, and nothing else changes
pub record Gains (old : RegionFields) (fact : Option (Dot × Body)) (new : RegionFields) : Type 0
  where
    pub number : new.number ≡ old.number
    pub settings : new.settings ≡ old.settings
    pub facts : new.facts ≡ with_made old.facts fact
