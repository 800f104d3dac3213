-- Two regions of one number and settings whose stores stand for the same facts answer alike, as
-- long as the moment is before both horizons or before none. Key results:
--   stands_dots      a store knows the dots of the facts for which it stands
--   kept_stands      a store that holds all facts stands for them
--   kept_decides     it decides as those facts do
--   tells_by         the answers, and the facts made for them, but for first revocations
use Rattle.std.proofs.Common.{◌≡◌, ◌⊎◌, inl, inr, ℕ, nat_lt, Bool, true, false, cond, List, Option}
use Rattle.std.proofs.Common.{Some, None, option_map, is_some, refl, sym, ap, subst, ◌∙◌, ◌≤◌}
use Rattle.std.proofs.Common.{arith}
use Rattle.std.proofs.lemmas.Bool.Decides.{nat_tests}
use Rattle.std.specs.FinMap as map
use Rattle.tk_fact.specs.declared.body.Body.{Body}
use Rattle.tk_store.specs.FactSet.{FactSet, IsSubset}
use Rattle.tk_store.specs.NextDot.{next_serial}
use Rattle.tk_store.specs.Slots.{Slot, Held, Skipped}
use Rattle.tk_store.specs.StoreFields.{StoreFields}
use Rattle.tk_store.specs.WholeStores.{whole_store}
use Rattle.tk_store.proofs.WholeStoreLaws.{get_whole_store}
use Rattle.tk_message.specs.RequestFields.{RequestFields}
use Rattle.tk_message.specs.declared.decision.Decision.{Decision}
use Rattle.tk_message.specs.declared.place.Place.{Place}
use Rattle.tk_message.specs.declared.request.Endpoint.{Endpoint}
use Rattle.tk_message.specs.declared.request.Endpoint.TheVariants as endpoint
use Rattle.tk_query.specs.Anew.{IsAnew}
use Rattle.tk_region.specs.Decision.{decision_by, decision_of}
use Rattle.tk_region.specs.RegionFields.{RegionFields, place_in}
use Rattle.tk_region.specs.SettingsFields.{SettingsFields, lives_of}
use Rattle.tk_region.specs.Step.{PreparedFields, early_in, prepared_by, prepared_of}
use Rattle.tk_edge.specs.Answers.{answer_by, fact_by, rendered}
use Rattle.tk_edge.specs.declared.hear.Arrival.{Arrival}
use Rattle.tk_edge.specs.declared.hear.Arrival.TheVariants.{Silence, Refused, Request, Exchange}
use Rattle.tk_edge.specs.declared.hear.Arrival.TheVariants.{Notice}
use Rattle.tk_edge.specs.declared.notice.Notice.TheVariants.{Discovery, Health, Metrics}
use Rattle.tk_retention.specs.StandsFor.{SlotStands, StandsFor, AreSound}
use Rattle.tk_retention.proofs.DecisionLaws.{decision_stands}
use Rattle.tk_world.specs.State.{Kept, kept_store}
use Rattle.tk_world.specs.Told.{TellsBy}
use Rattle.tk_world.proofs.KnownLaws.{SameDots, next_same}

-- a store knows the dots of the facts for which it stands
pub stands_dots : (P : StoreFields) (U F : FactSet) → StandsFor P U F → SameDots P.slots F
stands_dots P U F S q = by (map.get P.slots q) (map.get F q) (S q)
  where
    by : (o : Option Slot) (f : Option Body) → SlotStands U P.horizon q o f → is_some o ≡ is_some f
    by None f x = ap is_some (sym x)
    by (Some (Held b)) f x = ap is_some (sym x.0)
    by (Some Skipped) f x = ap is_some (sym (x.0 ∙ x.1.here))

-- a store that holds all facts stands for them
pub kept_stands : (k : Kept) (U : FactSet) → IsSubset k.facts U → StandsFor (kept_store k) U k.facts
kept_stands k U within d = subst (λ (o : Option Slot).
    SlotStands U k.horizon d o (map.get k.facts d)) (sym (get_whole_store k.facts d))
    (by (map.get k.facts d) refl)
  where
    by : (f : Option Body) → map.get k.facts d ≡ f → SlotStands U k.horizon d (option_map Held f) f
    by None at = refl
    by (Some b) at = (refl, within d b at)

-- a store that holds all facts decides as those facts do, whatever its horizon
kept_decides : (k : Kept) (place : Place) (now : ℕ) (words : List ℕ) (request : RequestFields)
    → decision_of (kept_store k) place now words request
    ≡ decision_of (whole_store k.facts) place now words request
kept_decides k place now words request = by request.endpoint
  where
    by : (e : Endpoint)
        → decision_by e (kept_store k) place now words request
        ≡ decision_by e (whole_store k.facts) place now words request
    by endpoint.Authorize = refl
    by endpoint.Token = refl
    by endpoint.Introspect = refl
    by endpoint.Revoke = refl
    by endpoint.AddClient = refl
    by endpoint.ShowClient = refl
    by endpoint.ListClients = refl
    by endpoint.Retire = refl
    by endpoint.ChangeSecret = refl
    by endpoint.Consent = refl
    by endpoint.Withdraw = refl
    by endpoint.SignOut = refl
    by endpoint.ShowSubject = refl
    by endpoint.Logout = refl

module _ (n : ℕ) (settings : SettingsFields) (U : FactSet) (P : StoreFields) (k : Kept)
    (SP : StandsFor P U k.facts) (within : IsSubset k.facts U) (sound : AreSound U) where
  -- the store that holds all facts kept
  abbrev Q : StoreFields
  Q = kept_store k

  -- the region with a store
  abbrev region_of : StoreFields → RegionFields
  region_of R = record { number = n; settings = settings; facts = R }

  -- two stores that know the same dots give a region the same next serial
  pub serials_same : next_serial P.slots n ≡ next_serial Q.slots n
  serials_same = next_same P.slots k.facts (stands_dots P U k.facts SP) n
      ∙ sym (next_same Q.slots k.facts (stands_dots Q U k.facts (kept_stands k U within)) n)

  -- a region decides at the same place over either store
  pub places_same : place_in (region_of P) ≡ place_in (region_of Q)
  places_same = ap (λ (m : ℕ).
      record { number = n; next = m; lives = lives_of settings; choices = settings.choices })
      serials_same

  module _ (now : ℕ) (words : List ℕ) (both : nat_lt now P.horizon ≡ nat_lt now Q.horizon) where
    -- a moment that isn't before the horizon is at the horizon or later
    from_horizon : (h : ℕ) → nat_lt now h ≡ false → h ≤ now
    from_horizon h e = grind (arith, nat_tests)

    -- the place at which the region decides
    abbrev place : Place
    place = place_in (region_of Q)

    -- what a region with a store prepares, before the horizon or not
    abbrev prepared_at : Bool → StoreFields → Place → RequestFields → PreparedFields
    prepared_at t R place request = cond t (early_in place)
        (prepared_by settings.cap place (decision_of R place now words request))

    -- what is prepared is what the region with all facts prepares, or what it prepares for a first
    -- revocation
    record Anew (request : RequestFields) (p : PreparedFields) : Type 0 where
      revokes : request.endpoint ≡ endpoint.Revoke
      soon : Q.horizon ≤ now
      decision : Decision
      anew : IsAnew (whole_store k.facts) place now request decision
      prepares : p ≡ prepared_by settings.cap place decision

    -- the region with the store P prepares a request at that place
    at_place : (request : RequestFields)
        → prepared_of (region_of P) now words request
        ≡ prepared_at (nat_lt now P.horizon) P place request
    at_place request =
        ap (λ (x : Place). prepared_at (nat_lt now P.horizon) P x request) places_same

    -- what a request prepares is the same with both stores, or is for a first revocation
    decided : (t : Bool) (request : RequestFields) → nat_lt now P.horizon ≡ t
        → (prepared_at t P place request ≡ prepared_at t Q place request)
        ⊎ Anew request (prepared_at t P place request)
    decided true request e = inl refl
    decided false request e = elim (decision_stands P U k.facts SP sound place now
        (from_horizon P.horizon e) words request) [
          | inl same ↦ inl
              (ap (prepared_by settings.cap place)
              (same ∙ sym (kept_decides k place now words request)))
          | inr first ↦ inr (record {
            revokes = first.0;
            soon = from_horizon Q.horizon (sym both ∙ e);
            decision = decision_of P place now words request;
            anew = first.1;
            prepares = refl;
          })
        ]

    -- what the region prepares is what the one with all facts does, or is for a first revocation
    prepared_tells : (request : RequestFields)
        → (prepared_of (region_of P) now words request
        ≡ prepared_of (region_of Q) now words request)
        ⊎ Anew request (prepared_of (region_of P) now words request)
    prepared_tells request =
        subst (λ (p : PreparedFields).
        (p ≡ prepared_of (region_of Q) now words request) ⊎ Anew request p) (sym (at_place request))
        (subst (λ (t : Bool).
        (prepared_at (nat_lt now P.horizon) P place request ≡ prepared_at t Q place request)
        ⊎ Anew request (prepared_at (nat_lt now P.horizon) P place request)) both
        (decided (nat_lt now P.horizon) request refl))

    -- the region's answer to what was heard, and the fact made, are those of the one with all facts
    abbrev Tells : Arrival → Type 0
    Tells heard = TellsBy (region_of Q) k.facts now words heard
        (answer_by (region_of P) now words heard) (fact_by (region_of P) now words heard)

    -- whatever was heard, the region replies alike over either store
    pub tells_by : (heard : Arrival) → Tells heard
    tells_by Silence = inl (refl, refl)
    tells_by (Refused why) = inl (refl, refl)
    tells_by (Request request) = elim (prepared_tells request) [
      | inl same ↦ inl (
        ap (λ (p : PreparedFields). rendered p.reply None p.logged) same,
        ap (λ (p : PreparedFields). p.fact) same,
      )
      | inr first ↦ inr (record {
        request = request;
        is = refl;
        revokes = first.revokes;
        soon = first.soon;
        decision = first.decision;
        anew = first.anew;
        prepared = prepared_of (region_of P) now words request;
        prepares = first.prepares;
        answers = refl;
        makes = refl;
      })
    ]
    tells_by (Exchange asked) = inl (refl, refl)
    tells_by (Notice Discovery) = inl (refl, refl)
    tells_by (Notice Health) = inl (refl, refl)
    tells_by (Notice Metrics) = inl (refl, refl)
