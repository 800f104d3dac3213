-- What a request, a decision and a turn add to a log that gets the bundles taken in, and to the
-- store of its region. Key results:
--   decision_adds             a decision adds a bundle that fits, or nothing
--   decisions_stay, turns_stay  nothing is logged or changed by a sealed edge
use Rattle.std.proofs.Common.{◌≡◌, ◌≢◌, ℕ, Bool, true, false, List, [], ◌∷◌}
use Rattle.std.proofs.Common.{Option, None, Some, Result, Ok, Err, inl, inr, refl}
use Rattle.std.proofs.Common.{ap, subst, ◌∙◌}
use Rattle.std.specs.Prelude.{◌⊎◌}
use Rattle.rand_chacha.specs.ChaCha.{ChaCha}
use Rattle.tk_message.specs.declared.status_code.StatusCode.{StatusCode}
use Rattle.tk_message.specs.ReplyFields.{ReplyFields}
use Rattle.tk_region.specs.RegionFields.{RegionFields}
use Rattle.tk_edge.specs.EdgeFields.{EdgeFields}
use Rattle.tk_edge.specs.Exchanges.{IsTakenReply}
use Rattle.tk_edge.specs.FrontServed.{asked_by}
use Rattle.tk_edge.specs.Pushes.{bundle_to_log}
use Rattle.tk_edge.specs.Served.{Asked, IsServed, RepliesTo, RunsOut}
use Rattle.tk_edge.specs.Told.{Change}
use Rattle.tk_edge.specs.declared.edge.Served.{Served}
use Rattle.tk_edge.specs.declared.edge.Served.TheVariants.{Nothing, Done}
use Rattle.tk_edge.specs.declared.ahead.PushError.{PushError}
use Rattle.tk_edge.specs.declared.hear.Arrival.{Arrival}
use Rattle.tk_edge.specs.declared.tell.Fault.{Fault}
use Rattle.tk_edge.specs.declared.tell.Fault.TheVariants.{Read, Write, Log, Memory}
use Rattle.tokend.specs.Decisions.{Asking, Ending, IsDecision, IsDecisionBy, asked_of, gains}
use Rattle.tokend.specs.Repeats.{Repetition}
use Rattle.tokend.specs.Draw.{past_six, six}
use Rattle.tokend.specs.KeptLog.{IsCalm}
use Rattle.tokend.specs.Turns.{AreDecisions, AreTurns, Endings, IsKept, IsLost, IsTurn, Running}
use Rattle.tokend.specs.Turns.{past_each}
use Rattle.tokend.proofs.TurnGrowth.{sealed_stays}
use Rattle.tokend.proofs.LogGains.{Grows, keeps_nothing, sealed_clash, ok_fault}
use Rattle.tokend.proofs.LogGains.{write_log, write_memory, short_push}
use Rattle.tokend.proofs.KeptConnections.{answered, pushed, still}

-- a push that got a reply isn't one for which memory ran out
not_short : (end : Result Served Fault) (taken : Result ℕ PushError) (reply : ReplyFields)
    → IsTakenReply taken reply → taken ≡ short_push → IsCalm end → ⊥
not_short end taken reply told is calm = subst (λ t. IsTakenReply t reply) is told

module _ (before after : Option (List ℕ)) (old new : RegionFields) (asked : Asked)
    (logs : asked.log_taken ≡ true) (quiet : Type 0) (writer : Change) where
  abbrev log : Change
  log = record { before = before; after = after }

  replied : (end : Result Served Fault) (sent : Option (List ℕ)) (came : Arrival)
      (result : Result StatusCode Fault)
      → bundle_to_log true came ≡ sent → result ≢ Err Log → result ≢ Err Memory
      → RepliesTo sent asked.terms asked.now asked.words came (record { before = old; after = new })
      log quiet writer false result → Grows end before after old.facts new.facts
  replied end None came (Ok status) is not_log not_memory h =
      answered end before after old new asked.terms asked.now asked.words came h.0 is h.1 h.2.1 h.4
  replied end None came (Err Write) is not_log not_memory h =
      answered end before after old new asked.terms asked.now asked.words came h.0 is h.1 h.2.0 h.4
  replied end None came (Err Read) is not_log not_memory h = absurd h
  replied end None came (Err Log) is not_log not_memory h = absurd (not_log refl)
  replied end None came (Err Memory) is not_log not_memory h = absurd (not_memory refl)
  replied end (Some bytes) came (Ok status) is not_log not_memory h =
      pushed end before after old new asked.terms asked.now bytes h.0 h.2
      (not_short end h.0 h.4.2.0 h.4.2.1) h.1 h.3 h.4.0
  replied end (Some bytes) came (Err Write) is not_log not_memory h =
      pushed end before after old new asked.terms asked.now bytes h.0 h.2
      (not_short end h.0 h.4.2.0 h.4.2.1) h.1 h.3 h.4.0
  replied end (Some bytes) came (Err Read) is not_log not_memory h = absurd h.4.2
  replied end (Some bytes) came (Err Log) is not_log not_memory h = absurd (not_log refl)
  replied end (Some bytes) came (Err Memory) is not_log not_memory h = absurd (not_memory refl)

  ran_out : (b : Bool) → b ≡ true
      → RunsOut b asked (record { before = old; after = new }) log quiet writer false
      → Grows (Err Memory) before after old.facts new.facts
  ran_out false is h = absurd (cc)
  ran_out true is (inl same) =
      still (Err Memory) before after old new (keeps_nothing before after same.1.0) same.0
  ran_out true is (inr h) =
      pushed (Err Memory) before after old new asked.terms asked.now h.0 h.2.0 h.2.2
      (λ e calm. calm) h.2.1 h.2.3 h.2.4.0

  unsealed_log : (sent : Option (List ℕ)) (came : Arrival)
      → RepliesTo sent asked.terms asked.now asked.words came (record { before = old; after = new })
      log quiet writer false (Err Log) → ⊥
  unsealed_log None came h = sealed_clash h.2.2
  unsealed_log (Some bytes) came h = sealed_clash h.4.2

  as_logged : (came : Arrival) (result : Result StatusCode Fault)
      → RepliesTo (bundle_to_log asked.log_taken came) asked.terms asked.now asked.words came
      (record { before = old; after = new }) log quiet writer false result
      → RepliesTo (bundle_to_log true came) asked.terms asked.now asked.words came
      (record { before = old; after = new }) log quiet writer false result
  as_logged came result h =
      subst (λ b. RepliesTo (bundle_to_log b came) asked.terms asked.now asked.words came
      (record { before = old; after = new }) log quiet writer false result) logs h

  served : (result : Result Served Fault)
      → IsServed asked (record { before = old; after = new }) log quiet writer false result
      → Grows result before after old.facts new.facts
  served (Ok (Done status)) h =
      replied (Ok (Done status)) (bundle_to_log true h.0) h.0 (Ok status) refl (ok_fault status Log)
      (ok_fault status Memory) (as_logged h.0 (Ok status) h.3)
  served (Ok Nothing) h =
      still (Ok Nothing) before after old new (keeps_nothing before after h.1.1.0) h.1.0
  served (Err Log) h = absurd (unsealed_log (bundle_to_log asked.log_taken h.0) h.0 h.3)
  served (Err Write) h =
      replied (Err Write) (bundle_to_log true h.0) h.0 (Err Write) refl write_log write_memory
      (as_logged h.0 (Err Write) h.3)
  served (Err Read) h = still (Err Read) before after old new (keeps_nothing before after h.1.0) h.0
  served (Err Memory) h = ran_out asked.log_taken logs h

-- an edge that is sealed stays sealed
decision_stays_by : (again : Option Repetition) (words : List ℕ) (old : EdgeFields) (end : Ending)
    (logged : List ℕ) (new : EdgeFields)
    → IsDecisionBy again words true old end logged new
    → old.sealed ≡ true → new.sealed ≡ true
decision_stays_by None words old end logged new h e =
    ap (λ (x : EdgeFields). x.sealed) (h.3.shut e).0 ∙ e
decision_stays_by (Some it) words old end logged new h e = ap (λ (x : EdgeFields). x.sealed) h.0 ∙ e

-- an edge that is sealed stays so through a decision
decision_stays : (words : List ℕ) (old : EdgeFields) (end : Ending) (logged : List ℕ)
    (new : EdgeFields)
    → IsDecision words true old end logged new → old.sealed ≡ true → new.sealed ≡ true
decision_stays words old end logged new h e =
    decision_stays_by end.again words old end logged new h e

-- an edge that is sealed stays so through the decisions of a turn
pub decisions_stay : (words : ChaCha) (old : EdgeFields) (ends : Endings) (records : List ℕ)
    (new : EdgeFields)
    → AreDecisions words true old ends records new → old.sealed ≡ true → new.sealed ≡ true
decisions_stay words old [] records new h e = ap (λ (x : EdgeFields). x.sealed) h.0 ∙ e
decisions_stay words old (end ∷ ends) records new h e =
    decisions_stay (past_six words) h.0 ends h.2 new h.5
    (decision_stays (six words) old end h.1 h.0 h.3 e)

-- an edge that is sealed stays so through a turn
turn_stays : (words : ChaCha) (old : Running) (ends : Endings) (new : Running)
    → IsTurn words true old ends new → old.edge.sealed ≡ true → new.edge.sealed ≡ true
turn_stays words old ends new h e = of h.log
  where
    of : IsKept old h.edge h.records h.told new ⊎ IsLost old h.edge h.records h.told new
        → new.edge.sealed ≡ true
    of (inl kept) = ap (λ (x : EdgeFields). x.sealed) kept.edge
        ∙ decisions_stay words old.edge ends h.records h.edge h.decided e
    of (inr lost) = ap (λ (x : EdgeFields). x.sealed) lost.edge

-- an edge that is sealed stays so through turns
pub turns_stay : (words : ChaCha) (old : Running) (turns : List Endings) (new : Running)
    → AreTurns words true old turns new → old.edge.sealed ≡ true → new.edge.sealed ≡ true
turns_stay words old [] new same e = ap (λ (r : Running). r.edge.sealed) same ∙ e
turns_stay words old (ends ∷ turns) new h e =
    turns_stay (past_each words ends) h.1 turns new h.4
    (sealed_stays h.0 h.1 h.3 ∙ turn_stays words old ends h.0 h.2 e)

-- what a decision logs, with a repeated reply or not, has what it added to the region
decision_adds_by : (again : Option Repetition) (words : List ℕ) (old : EdgeFields) (end : Ending)
    (logged : List ℕ) (new : EdgeFields)
    → IsDecisionBy again words true old end logged new
    → old.sealed ≡ false → new.sealed ≡ false
    → Grows end.end (Some []) (Some logged) old.region.facts new.region.facts
decision_adds_by (Some it) words old end logged new h open_old open_new =
    still end.end (Some []) (Some logged) old.region new.region
    (keeps_nothing (Some []) (Some logged) h.1) (ap (λ (x : EdgeFields). x.region) h.0)
decision_adds_by None words old end logged new h open_old open_new =
    let asking : Asking = record {
      words = words;
      log_taken = true;
      reach = end.reach;
      now = end.now;
      bytes = h.0;
      over = h.1;
    } in
    let asked : Asked = asked_by (asked_of asking old) h.0 [] in
    served (Some []) (Some logged) old.region new.region asked refl (logged ≡ []) (gains h.2)
    end.end
    (subst (λ b. IsServed asked (record { before = old.region; after = new.region }) (gains logged)
    (logged ≡ []) (gains h.2) b end.end) open_new (h.3.served open_old [] (λ _. refl)))

-- what a decision logs has what it added to the region
pub decision_adds : (words : List ℕ) (old : EdgeFields) (end : Ending) (logged : List ℕ)
    (new : EdgeFields)
    → IsDecision words true old end logged new
    → old.sealed ≡ false → new.sealed ≡ false
    → Grows end.end (Some []) (Some logged) old.region.facts new.region.facts
decision_adds words old end logged new h open_old open_new =
    decision_adds_by end.again words old end logged new h open_old open_new
