-- The steps of a request: the reply and the fact are prepared, then the fact is added (own).
--   PreparedFields   what contracts see of a reply, the fact to be added, and its record
--   prepared_by      what is prepared of a decision
--   prepared_of      what is prepared for a request to a region, from its horizon on and before
--   IsNextFact       a fact that a region may add as its next
--   HandledFields    what contracts see of a reply and a record
--   Commits          the outcomes of adding the prepared fact
use Rattle.std.specs.Prelude.{◌≡◌, ℕ, ◌≤◌, nat_lt, if◌then◌else◌, List, [], ◌∷◌, Option, None}
use Rattle.std.specs.Prelude.{Result, Ok, Err}
use Rattle.std.specs.Option.{option_map, option_map_or}
use Rattle.std.specs.declared.alloc.AllocError.{AllocError}
use Rattle.tk_handle.specs.declared.dot.Dot.{Dot}
use Rattle.tk_fact.specs.Check.{refusal_of}
use Rattle.tk_fact.specs.declared.body.Body.{Body}
use Rattle.tk_store.specs.FactSet.{Facts}
use Rattle.tk_bundle.specs.Bundle.{bundle_bytes}
use Rattle.tk_bundle.specs.BundleFields.{of_facts}
use Rattle.tk_message.specs.Decision.{refused}
use Rattle.tk_message.specs.declared.decision.Decision.{Decision}
use Rattle.tk_message.specs.declared.error_code.ErrorCode.TheVariants.{TemporarilyUnavailable}
use Rattle.tk_message.specs.declared.place.Place.{Place}
use Rattle.tk_message.specs.Place.{next_in}
use Rattle.tk_message.specs.ReplyFields.{ReplyFields}
use Rattle.tk_message.specs.RequestFields.{RequestFields}
use Rattle.tk_region.specs.RegionFields.{RegionFields, place_in, Gains}
use Rattle.tk_region.specs.Decision.{decision_of, capped}

-- a reply, the fact to be added before the reply is sent, and the record of that fact
pub record PreparedFields : Type 0 where
  pub reply : ReplyFields
  pub fact : Option (Dot × Body)
  pub logged : Option (List ℕ)

-- the fact of a body at a dot
abbrev pub at_dot : Dot → Body → Dot × Body
at_dot d b = (d, b)

-- the record of a fact: the bundle of that fact alone
abbrev pub record_of : Dot × Body → List ℕ
record_of f = bundle_bytes (of_facts (f ∷ []))

-- what is prepared of a decision whose fact is at the dot
abbrev pub prepared_at : Dot → Decision → PreparedFields
prepared_at next d = record {
  reply = d.reply;
  fact = option_map (at_dot next) d.made;
  logged = option_map record_of (option_map (at_dot next) d.made);
}

-- what is prepared of a decision, unless that makes a fact above the cap
abbrev pub prepared_by : ℕ → Place → Decision → PreparedFields
prepared_by cap place d = prepared_at (next_in place) (capped cap place d)

-- what is prepared before the horizon of the store: `temporarily_unavailable`, and no fact
abbrev pub early_in : Place → PreparedFields
early_in place = prepared_at (next_in place) (refused TemporarilyUnavailable)

-- what is prepared for a request to a region
abbrev pub prepared_of : RegionFields → ℕ → List ℕ → RequestFields → PreparedFields
prepared_of r now words request =
    if nat_lt now r.facts.horizon then early_in (place_in r) else
    prepared_by r.settings.cap (place_in r) (decision_of r.facts (place_in r) now words request)

-- the fact is at the next dot, which is not above the cap, and passes its check
pub record IsNextAt (cap : ℕ) (place : Place) (f : Dot × Body) : Type 0 where
  pub next : f.0 ≡ next_in place
  pub under : f.0.serial ≤ cap
  pub passes : refusal_of f.1 ≡ None

-- the fact is one that the region may add as its next
abbrev pub IsNextFact : RegionFields → Dot × Body → Type 0
IsNextFact r f = IsNextAt r.settings.cap (place_in r) f

-- a reply, and the record of the fact that was added
pub record HandledFields : Type 0 where
  pub reply : ReplyFields
  pub logged : Option (List ℕ)

-- the reply and the record of what was prepared
abbrev pub handled_of : PreparedFields → HandledFields
handled_of p = record { reply = p.reply; logged = p.logged }

-- the fact, if there is one, as a list
abbrev pub listed : Option (Dot × Body) → Facts
listed o = option_map_or (λ f. f ∷ []) o []

-- the reply is returned if the fact, if there is one, is in; otherwise the region is unchanged
abbrev pub Commits : RegionFields → PreparedFields → Result HandledFields AllocError → RegionFields
    → Type 0
Commits old p (Ok handled) new = (handled ≡ handled_of p) × Gains old p.fact new
Commits old p (Err e) new = new ≡ old
