-- The promises about introspection, from what a run is. Key results:
--   tells_of_sets       from the horizon on, the reply to an introspection request depends only on
--                       the facts of its region
--   introspect_alike    from their horizons on, regions with equal facts introspect alike
--   revoked_inactive    a token that its client revoked is inactive
--   families_inactive   each token of a family with a bad grant is inactive
use Rattle.std.proofs.Common.{cond, inl, inr, ◌≡◌, ◌≤◌, ℕ, zero, suc, List}
use Rattle.std.proofs.Common.{[], ◌∷◌, take, slice_get, Option, Some, None, refl, sym, ap, subst}
use Rattle.std.proofs.Common.{◌∙◌}
use Rattle.std.specs.FinMap as map
use Rattle.std.specs.Option.{option_map_or}
use Rattle.tk_handle.specs.declared.dot.Dot.{Dot}
use Rattle.tk_handle.specs.declared.handle.Handle.{Handle}
use Rattle.tk_fact.specs.declared.body.Body.{Body}
use Rattle.tk_store.specs.FactSet.{FactSet, Facts}
use Rattle.tk_store.specs.StoreFields.{StoreFields, held_facts}
use Rattle.tk_store.specs.WholeStores.{whole_store}
use Rattle.tk_store.proofs.PutLaws.{none_is_not_some, some_injective}
use Rattle.tk_ledger.specs.Status.{IsActive}
use Rattle.tk_ledger.proofs.FamilyEnds as ends
use Rattle.tk_message.specs.declared.request.Endpoint.{Endpoint}
use Rattle.tk_message.specs.declared.request.Endpoint.TheVariants.{Introspect, Revoke}
use Rattle.tk_message.specs.RequestFields.{RequestFields}
use Rattle.tk_query.specs.Introspection.{introspection_of}
use Rattle.tk_query.proofs.ActiveLaws.{says_nothing}
use Rattle.tk_region.specs.Decision.{decision_by}
use Rattle.tk_region.specs.RegionFields.{RegionFields, place_in}
use Rattle.tk_region.specs.SettingsFields.{SettingsFields}
use Rattle.tk_region.specs.Step.{PreparedFields, early_in, prepared_by}
use Rattle.tk_edge.specs.Answers.{answer_by, rendered}
use Rattle.tk_edge.specs.Told.{AnswerFields}
use Rattle.tk_edge.specs.declared.hear.Arrival.{Arrival}
use Rattle.tk_edge.specs.declared.hear.Arrival.TheVariants.{Request as Asked}
use Rattle.tk_edge.specs.Paths.{plain}
use Rattle.tk_edge.specs.declared.reach.PathSet.TheVariants.{Admin}
use Rattle.tk_edge.proofs.StreamLaws.{has_one_meaning}
use Rattle.tk_world.specs.declared.event.Event.{Event}
use Rattle.tk_world.specs.declared.event.Event.TheVariants.{Request}
use Rattle.tk_world.specs.declared.event.Outcome.{Outcome}
use Rattle.tk_world.specs.declared.event.Outcome.TheVariants.{Reply}
use Rattle.tk_world.specs.Promises.{held_before, TellsOfSets, IntrospectAlike, IsInactive}
use Rattle.tk_world.specs.Promises.{RevokedInactive, FamiliesInactive}
use Rattle.tk_world.specs.State.{Kept, State, region_with}
use Rattle.tk_world.specs.Carrying.{in_place, IsReplied}
use Rattle.tk_world.specs.Told.{TellsBy}
use Rattle.tk_world.specs.World.{Step, Run, state_before}
use Rattle.tk_world.proofs.RunLaws.{facts_of, run_joins, run_settings}
use Rattle.tk_retention.proofs.DecisionLaws.{never_before}

-- ---- one event of a run

-- the run up to an event, and the step of the event from the state before it
record At (old : State) (es : List Event) (os : List Outcome) (ss : List Facts) (new : State)
    (all : Run old es os ss new) (i : ℕ) (e : Event) (o : Outcome) : Type 0 where
  next : State
  seen : Facts
  run : Run old (take i es) (take i os) (take i ss) (state_before in_place old es os ss new all i)
  step : Step (state_before in_place old es os ss new all i) e o seen next

-- an event of a run is a step, between what came before it and after it
run_at : (old : State) (es : List Event) (os : List Outcome) (ss : List Facts) (new : State)
    (run : Run old es os ss new) (i : ℕ) (e : Event) (o : Outcome)
    → slice_get es i ≡ Some e → slice_get os i ≡ Some o → At old es os ss new run i e o
run_at old [] [] [] new run zero e o he ho = absurd (none_is_not_some e he)
run_at old [] [] [] new run (suc i) e o he ho = absurd (none_is_not_some e he)
run_at old (x ∷ es) (y ∷ os) (s ∷ ss) new run zero e o he ho = record {
  next = run.0;
  seen = s;
  run = refl;
  step = subst (λ z. Step old e z s run.0) (some_injective y o ho)
      (subst (λ z. Step old z y s run.0) (some_injective x e he) run.1);
}
run_at old (x ∷ es) (y ∷ os) (s ∷ ss) new run (suc i) e o he ho =
    let at : At run.0 es os ss new run.2 i e o = run_at run.0 es os ss new run.2 i e o he ho in
    record { next = at.next; seen = at.seen; run = (run.0, run.1, at.run); step = at.step }
run_at old es os ss new run i e o he ho = absurd run

-- ---- regions with equal facts introspect alike

-- from the horizon on, the reply to an introspection request doesn't depend on the cap, since no
-- fact is made
introspects : (s : State) (n : ℕ) (k : Kept) (now : ℕ) (words : List ℕ) (request : RequestFields)
    → k.horizon ≤ now → request.endpoint ≡ Introspect
    → answer_by (region_with s n k) now words (Asked request)
    ≡ rendered (introspection_of (whole_store k.facts) s.settings.choices.refresh_seen now request)
    None None
introspects s n k now words request soon h =
    let r : RegionFields = region_with s n k in
    let by : Endpoint → PreparedFields = λ e.
    prepared_by r.settings.cap (place_in r)
    (decision_by e r.facts (place_in r) now words request) in
    ap (λ t. let p : PreparedFields = cond t (early_in (place_in r)) (by request.endpoint) in
    rendered p.reply None p.logged) (never_before now k.horizon soon)
    ∙ ap (λ (e : Endpoint). rendered (by e).reply None (by e).logged) h

-- the endpoint of what was heard
abbrev endpoint_in : Arrival → Option Endpoint
endpoint_in (Asked request) = Some request.endpoint
endpoint_in heard = None

-- the answer to an introspection is no revocation
telling : (x : RegionFields) (F : FactSet) (now : ℕ) (words : List ℕ) (heard : Arrival)
    (request : RequestFields) (answer : AnswerFields) (fact : Option (Dot × Body))
    → heard ≡ Asked request → request.endpoint ≡ Introspect
    → TellsBy x F now words heard answer fact
    → answer ≡ answer_by x now words (Asked request)
telling x F now words heard request answer fact one introspects (inl same) =
    same.0 ∙ ap (answer_by x now words) one
telling x F now words heard request answer fact one introspects (inr anew) =
    let two : Some Revoke ≡ Some Introspect =
    sym (ap (λ (e : Endpoint). Some e) anew.revokes) ∙ sym (ap endpoint_in anew.is)
    ∙ ap endpoint_in one ∙ ap (λ (e : Endpoint). Some e) introspects in
    absurd (cc)

-- the horizon of a region that may be open
abbrev horizon_of : Option Kept → ℕ
horizon_of o = option_map_or (λ k. k.horizon) o 0

-- from the horizon on, the reply to an introspection depends only on the facts of its region, the
-- moment and the request
pub tells_of_sets : (old : State) (es : List Event) (os : List Outcome) (ss : List Facts)
    (new : State) (run : Run old es os ss new)
    → TellsOfSets old es os ss new run
tells_of_sets old es os ss new run i r now request status reply q from =
    let mid : State = state_before in_place old es os ss new run i in
    let at : At old es os ss new run i (Request r now q.words q.bytes) (Reply status q.written) =
    run_at old es os ss new run i (Request r now q.words q.bytes) (Reply status q.written) q.asked
    q.answered in
    let joins = run_joins in_place old (take i es) (take i os) (take i ss) mid at.run r in
    let k : Kept = at.step.0 in
    let held : k.facts ≡ held_before old es ss i r =
    ap facts_of (sym at.step.1.is_open) ∙ joins.joins in
    let soon : k.horizon ≤ now = subst (λ h. h ≤ now) (ap horizon_of at.step.1.is_open) from in
    let one : at.step.2 ≡ Asked request =
    has_one_meaning (plain Admin) q.bytes.items at.step.2 (Asked request) at.step.3 q.heard in
    let told = telling (region_with mid r k) k.facts now q.words at.step.2 request at.step.4
    at.step.5 one q.introspects at.step.6
    ∙ introspects mid r k now q.words request soon q.introspects
    ∙ ap (λ (x : SettingsFields).
    rendered (introspection_of (whole_store k.facts) x.choices.refresh_seen now request) None None)
    (run_settings in_place old (take i es) (take i os) (take i ss) mid at.run)
    ∙ ap (λ G. rendered
    (introspection_of (whole_store G) old.settings.choices.refresh_seen now request) None None)
    held in
    subst (λ a. IsReplied a status reply) told (at.step.7.0, sym q.replied ∙ at.step.7.1)

-- from their horizons on, regions with equal facts give equal replies
pub introspect_alike : (old : State) (es : List Event) (os : List Outcome) (ss : List Facts)
    (new : State) (run : Run old es os ss new)
    → IntrospectAlike old es os ss new run
introspect_alike old es os ss new run i j q r now request s t one two a b from_one from_two same =
    let here = tells_of_sets old es os ss new run i q now request s one a from_one in
    let there = subst (λ G.
    IsReplied
    (rendered (introspection_of (whole_store G) old.settings.choices.refresh_seen now request) None
    None) t two) (sym same) (tells_of_sets old es os ss new run j r now request t two b from_two) in
    (here.0 ∙ sym there.0, here.1 ∙ sym there.1)

-- ---- inactive tokens

-- a handle that is active at no moment is inactive to everyone
inactive : (P : StoreFields) (h : Handle) → ((now : ℕ) → ¬ IsActive (map.get (held_facts P)) now h)
    → IsInactive P h
inactive P h never now =
    (never now, λ seen client_kind asker. says_nothing P seen now client_kind asker h (never now))

-- a token that its client revoked is inactive wherever the revocation is held
pub revoked_inactive : (store : ℕ → StoreFields) → RevokedInactive store
revoked_inactive store r F within h ended =
    inactive (store r) h (λ now. ends.revoked_inactive F (held_facts (store r)) within now h ended)

-- no token of a family with a bad grant is active wherever the facts of that are held
pub families_inactive : (store : ℕ → StoreFields) → FamiliesInactive store
families_inactive store r F within h d c bad under member =
    inactive (store r) h
    (λ now. ends.family_inactive F (held_facts (store r)) within now h d c bad under member)
