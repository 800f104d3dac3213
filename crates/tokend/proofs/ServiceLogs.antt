-- A service that has run with a log has written a log as its promises want it. Key result:
--   service_logs   ServiceLogs
use Rattle.std.specs.Option.{unwrap_or}
use Rattle.std.proofs.Common.{◌≡◌, ℕ, Bool, true, false, List, [], ◌∷◌, Option, None, Some, IsSome}
use Rattle.std.proofs.Common.{Result, Ok, Err, inl, inr, refl, ap, subst, ◌∙◌}
use Rattle.std.specs.Prelude.{◌⊎◌, IfSome, String, is_some, string_bytes}
use Rattle.rand_chacha.specs.ChaCha.{ChaCha}
use Rattle.tk_store.specs.StoreFields.{empty_store}
use Rattle.tk_bundle.specs.BundleFields.{BundleFields}
use Rattle.tk_region.specs.RegionFields.{RegionFields}
use Rattle.tk_edge.specs.EdgeFields.{EdgeFields}
use Rattle.tk_edge.specs.Terms.{TermsFields}
use Rattle.tokend.specs.Decisions.{Ending, IsDecisionBy}
use Rattle.tokend.specs.Draw.{past_six, six}
use Rattle.tokend.specs.Repeats.{Repetition}
use Rattle.tokend.specs.KeptLog.{AreLogged, AreOld, HasLogged, IsLog, IsTorn, KnowsLogs}
use Rattle.tokend.specs.KeptLog.{ServiceLogs}
use Rattle.tokend.specs.Loading.{AreBundles, Loads, TakesEach, TakesFront}
use Rattle.tokend.specs.ServiceRun.{with_region}
use Rattle.tokend.specs.Ranges.{terms_of}
use Rattle.tokend.specs.Starting.{IsEmptyLog, IsReportedAs, LoadsFile, LoadsOld, PrunesOld, edge_of}
use Rattle.tokend.specs.Telling.{Writing}
use Rattle.tokend.specs.Turns.{AreDecisions, AreTurns, Endings, IsKept, IsLost, IsTurn, KeepTerms}
use Rattle.tokend.specs.Turns.{Running, ServesLogged, keeps_in, past_each}
use Rattle.tokend.specs.declared.fault.Fault.{Fault}
use Rattle.tokend.specs.declared.load.LoadFault.{LoadFault}
use Rattle.tokend.specs.declared.load.LoadFault.TheVariants as load
use Rattle.tokend.proofs.TurnGrowth.{terms_same, terms_stay, terms_twice}

-- the bundles that an old log brought
abbrev Brought : {A : Type 0} → (List ℕ → Option (List ℕ)) → Option (String A) → RegionFields
    → RegionFields → Type 0
Brought kept name old new =
    (olds : List BundleFields) × AreBundles olds × TakesEach old olds new × AreOld kept name olds

-- a load that succeeds doesn't fail
ok_err : (n : ℕ) (f : Fault) → Ok n ≡ Err f → ⊥
ok_err n f e = absurd (cc)

-- the bundles of bytes that were loaded
abbrev Fronts : Option (List ℕ) → RegionFields → RegionFields → Type 0
Fronts known old new = (olds : List BundleFields) × AreBundles olds × TakesEach old olds new
    × IfSome known (λ bytes. AreLogged bytes olds)

-- a file that was loaded brought the bundles in its bytes
from_file : (known : Option (List ℕ)) (name : List ℕ) (old new : RegionFields) (dropped : ℕ)
    → LoadsFile known name old (Ok dropped) new → Fronts known old new
from_file known name old new dropped (inl h) = absurd h.0
from_file known name old new dropped (inr h) = of h.1 h.3 h.4
  where
    logged : (bytes : List ℕ)
        → (front : (rest : List ℕ) × TakesFront old bytes rest new × IsTorn rest)
        → AreLogged bytes front.1.bundles
    logged bytes front =
        record { fit = front.1.fit; rest = front.0; parts = front.1.parts; torn = front.2 }

    known_logged : (o : Option (List ℕ))
        → (front : (rest : List ℕ) × TakesFront old h.0 rest new × IsTorn rest)
        → IfSome o (λ bytes. h.0 ≡ bytes) → IfSome o (λ bytes. AreLogged bytes front.1.bundles)
    known_logged None front same = tt
    known_logged (Some bytes) front same =
        subst (λ b. AreLogged b front.1.bundles) same (logged h.0 front)

    of : (result : Result ℕ LoadFault) → Loads old h.0 result new
        → IsReportedAs name result (Ok dropped) → Fronts known old new
    of (Ok n) loads told =
        let front : (rest : List ℕ) × TakesFront old h.0 rest new × IsTorn rest =
        (loads.0, loads.1, loads.2) in
        (loads.1.bundles, loads.1.fit, loads.1.each, known_logged known front h.2)
    of (Err (load.Malformed at)) loads told = absurd (ok_err dropped _ told)
    of (Err (load.Refused at)) loads told = absurd (ok_err dropped _ told)
    of (Err load.Memory) loads told = absurd (ok_err dropped _ told)
    of (Err load.CannotRead) loads told = absurd told

-- an old log that was loaded, if one was named, brought its bundles
from_old : {A : Type 0} (kept : List ℕ → Option (List ℕ)) (name : Option (String A))
    (old new : RegionFields) (dropped : ℕ)
    → LoadsOld kept name old (Ok dropped) new → Brought kept name old new
from_old kept None old new dropped h = ([], tt, h.1, refl)
from_old kept (Some name) old new dropped h =
    from_file (kept (string_bytes name)) (string_bytes name) old new dropped h

-- a decision, on a request or on one that repeats a refresh, leaves the terms
decision_refuses : (again : Option Repetition) (words : List ℕ) (log_taken : Bool)
    (old : EdgeFields) (end : Ending) (logged : List ℕ) (new : EdgeFields)
    → IsDecisionBy again words log_taken old end logged new
    → new.terms ≡ old.terms
decision_refuses None words log_taken old end logged new h = h.3.terms
decision_refuses (Some it) words log_taken old end logged new h =
    ap (λ (e : EdgeFields). e.terms) h.0

-- the decisions of a turn leave the terms
decisions_refuse : (words : ChaCha) (log_taken : Bool) (old : EdgeFields) (ends : Endings)
    (records : List ℕ) (new : EdgeFields)
    → AreDecisions words log_taken old ends records new
    → new.terms ≡ old.terms
decisions_refuse words log_taken old [] records new h = ap (λ (e : EdgeFields). e.terms) h.0
decisions_refuse words log_taken old (end ∷ ends) records new h =
    decisions_refuse (past_six words) log_taken h.0 ends h.2 new h.5
    ∙ decision_refuses end.again (six words) log_taken old end h.1 h.0 h.3

-- a turn leaves the terms
turn_refuses : (words : ChaCha) (log_taken : Bool) (old : Running) (ends : Endings) (new : Running)
    → IsTurn words log_taken old ends new → new.edge.terms ≡ old.edge.terms
turn_refuses words log_taken old ends new h =
    of h.log ∙ decisions_refuse words log_taken old.edge ends h.records h.edge h.decided
  where
    of : IsKept old h.edge h.records h.told new ⊎ IsLost old h.edge h.records h.told new
        → new.edge.terms ≡ h.edge.terms
    of (inl kept) = ap (λ (e : EdgeFields). e.terms) kept.edge
    of (inr lost) = ap (λ (e : EdgeFields). e.terms) lost.edge

-- turns keep the terms, whatever happens between them
refusing_stays : (words : ChaCha) (log_taken : Bool) (old : Running) (turns : List Endings)
    (new : Running)
    → AreTurns words log_taken old turns new
    → KeepTerms old.edge.terms new.edge.terms
refusing_stays words log_taken old [] new same =
    terms_same old.edge.terms new.edge.terms (ap (λ (r : Running). r.edge.terms) same)
refusing_stays words log_taken old (ends ∷ turns) new h =
    terms_twice old.edge.terms h.1.edge.terms new.edge.terms
    (terms_twice old.edge.terms h.0.edge.terms h.1.edge.terms
    (terms_same old.edge.terms h.0.edge.terms (turn_refuses words log_taken old ends h.0 h.2))
    (terms_stay h.0 h.1 h.3))
    (refusing_stays (past_each words ends) log_taken h.1 turns new h.4)

-- an edge that isn't sealed, with given terms, is that of its region with these terms
as_edge : (terms : TermsFields) (edge : EdgeFields) → edge.terms ≡ terms → edge.sealed ≡ false
    → edge ≡ edge_of terms edge.region
as_edge terms edge ahead sealed =
    λ i. record { region = edge.region; terms = ahead i; sealed = sealed i }

-- an empty log whose bytes are known has no bytes
known_empty : (o : Option (List ℕ)) (bytes : List ℕ) → o ≡ Some bytes → IsEmptyLog o → o ≡ Some []
known_empty None bytes is empty = absurd (cc)
known_empty (Some xs) bytes is empty = ap (λ l. Some l) empty

module _ {L : Type 0} (kept : List ℕ → Option (List ℕ)) (holds : L → Option (List ℕ))
    (opens : List ℕ → L → Type 0) where
  -- what the log of a name has, and what was logged in it
  abbrev Written : {A : Type 0} → Option (String A) → Bool → List BundleFields → RegionFields
      → RegionFields → Writing → Type 0
  Written name prunes olds start end faults = (bytes : List ℕ) × IsLog holds opens name bytes
      × ((logged : HasLogged olds end bytes) × (logged.start ≡ start)
      × (logged.faults ≡ faults.before) × (logged.told ≡ faults.after) × (logged.prunes ≡ prunes))

  written : {A : Type 0} (name : Option (String A)) (terms : TermsFields)
      (keeps has_inner prunes : Bool) (repeat : ℕ) (words : ChaCha) (requests : Option ℕ)
      (first full start : RegionFields) (moment count : Option ℕ) (end : EdgeFields)
      (faults : Writing) (olds : List BundleFields)
      → first.facts ≡ empty_store → AreBundles olds → TakesEach first olds full
      → PrunesOld moment full (Ok count) start → IsSome name → KnowsLogs holds → end.sealed ≡ false
      → ServesLogged holds opens name words requests keeps repeat has_inner true
      (record { start = edge_of terms start; end = end; faults = faults; prunes = prunes })
      → Written name prunes olds start end.region faults
  written None terms keeps has_inner prunes repeat words requests first full start moment count end
      faults olds empty fit brought pruned some knows unsealed h = absurd (cc)
  written (Some name) terms keeps has_inner prunes repeat words requests first full start moment
      count end faults olds empty fit brought pruned some knows unsealed h =
      let opened = h.0 in
      let closed = h.1 in
      let connections = h.4 in
      let bytes = knows closed in
      let before = known_empty (holds opened) (knows opened).0 (knows opened).1 h.3 in
      let ends_at = as_edge end.terms end refl unsealed in (
        bytes.0,
        (opened, closed, h.2, before, bytes.1),
        (
          record {
            start = start;
            started = record {
              first = first;
              empty = empty;
              full = full;
              fit = fit;
              loaded = brought;
              moment = moment;
              count = count;
              pruned = pruned;
            };
            terms = terms;
            shown = end.terms;
            same = refusing_stays words true _ connections.0 _ connections.5;
            words = words;
            turns = connections.0;
            faults = faults.before;
            told = faults.after;
            prunes = prunes;
            served = subst (λ (e : EdgeFields).
                AreTurns words true
                (record {
                  edge = edge_of terms start;
                  log = Some [];
                  faults = faults.before;
                  prunes = prunes;
                }) connections.0
                (record { edge = e; log = Some bytes.0; faults = faults.after; prunes = prunes }))
                ends_at
                (subst (λ o.
                AreTurns words true
                (record {
                  edge = edge_of terms start;
                  log = Some [];
                  faults = faults.before;
                  prunes = prunes;
                }) connections.0
                (record { edge = end; log = o; faults = faults.after; prunes = prunes })) bytes.1
                (subst (λ o.
                AreTurns words true
                (record {
                  edge = edge_of terms start;
                  log = o;
                  faults = faults.before;
                  prunes = prunes;
                })
                connections.0
                (record { edge = end; log = holds closed; faults = faults.after; prunes = prunes }))
                before connections.5));
          },
          refl,
          refl,
          refl,
          refl,
        ),
      )

  -- a service that ended has written its log of bundles
  pub service_logs : ServiceLogs kept holds opens
  service_logs service output faults ran taken some knows unsealed =
      let run = ran.run in
      let edge_is = ran.start.0 in
      let prunes = is_some service.limits.prune_margin in
      let old =
      from_old kept service.files.load ran.edge.region run.region run.dropped run.loaded in
      let started : with_region (with_region ran.edge run.region) run.opened.region
      ≡ edge_of (terms_of service) run.opened.region =
      ap (λ (e : EdgeFields). with_region (with_region e run.region) run.opened.region) edge_is in
      let w = written service.files.log (terms_of service) (keeps_in service.limits.keep)
      (is_some service.at.inner) prunes (unwrap_or service.limits.repeat 0) ran.words
      service.limits.requests ran.edge.region run.region run.opened.region service.files.prune
      run.opened.pruned run.opened.end faults old.0
      (ap (λ (e : EdgeFields). e.region.facts) edge_is) old.1 old.2 run.opened.prunes some knows
      unsealed
      (subst (λ t.
      ServesLogged holds opens service.files.log ran.words service.limits.requests
      (keeps_in service.limits.keep) (unwrap_or service.limits.repeat 0) (is_some service.at.inner)
      t (record {
        start = edge_of (terms_of service) run.opened.region;
        end = run.opened.end;
        faults = faults;
        prunes = prunes;
      })) taken
      (subst (λ (e : EdgeFields).
      ServesLogged holds opens service.files.log ran.words service.limits.requests
      (keeps_in service.limits.keep) (unwrap_or service.limits.repeat 0) (is_some service.at.inner)
      service.files.log_taken
      (record { start = e; end = run.opened.end; faults = faults; prunes = prunes })) started
      run.opened.served)) in
      record {
        olds = old.0;
        bytes = w.0;
        old = old.3;
        log = w.1;
        logged = w.2.0;
        begun = w.2.1;
        told = (w.2.2, w.2.3);
        prunes = w.2.4;
      }
