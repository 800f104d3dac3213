-- What decisions leave of a server, one or several of a turn. Key results:
--   Went         the decisions that a server made
--   went_both    some decisions, and then others
--   went_one     the decision of one front of bytes
use Rattle.std.proofs.Common.{◌≡◌, ℕ, ◌+◌, Bool, false, List, [], ◌∷◌, ◌++◌, append-nil, length}
use Rattle.std.proofs.Common.{Option, Some, None, Result, Ok, Err, inl, inr, refl, sym, ap, subst}
use Rattle.std.proofs.Common.{◌∙◌, arith}
use Rattle.tk_turn.specs.Outcomes.{goes_on}
use Rattle.tk_turn.specs.declared.service.Outcome.{Outcome}
use Rattle.tk_turn.specs.declared.service.Outcome.TheVariants.{More, Decided, Ended}
use Rattle.tk_edge.specs.declared.edge.Served.{Served}
use Rattle.tk_edge.specs.declared.path.Path.{Path}
use Rattle.tk_edge.specs.declared.reach.Reach.{Reach}
use Rattle.tk_edge.specs.declared.tell.Fault.{Fault}
use Rattle.tokend.specs.Decisions.{Decides, Ends, asking_of, ended_if, fault_of, reach_by}
use Rattle.tokend.specs.Telling.{Writer}
use Rattle.tk_edge.specs.declared.edge.Served.TheVariants.{Done}
use Rattle.tk_message.specs.declared.status_code.StatusCode.TheVariants as code
use Rattle.tokend.specs.Decisions.{Ending, Repeats}
use Rattle.tokend.specs.Repeats.{Repetition, is_repeat}
use Rattle.tokend.specs.declared.repeats.Refreshed.{Refreshed}
use Rattle.tokend.specs.Turns.{AreRepeated, all_counted}
use Rattle.tokend.specs.Turns.{AreDecisions, AreReported, Endings, ReachEach}
use Rattle.tokend.specs.Turns.{ReportsOf, connections_in, past_each}
use Rattle.tokend.specs.declared.server.Server.{Server}
use Rattle.tokend.proofs.Deciding.{may_stay, none_stays}
use Rattle.tokend.proofs.RepeatLaws.{closes_taken, found_parts, none_repeated, one_granted}
use Rattle.tokend.proofs.RepeatLaws.{recent_by, repeated_both, stays_taken}
use Rattle.tokend.proofs.EndingLists.{past_both, decisions_both, counted_both, connections_both}
use Rattle.tokend.proofs.EndingLists.{closes_both, reach_both, may_reach, told_both}

-- ---- the decisions of a turn

-- Requests were decided, one after the other. Only the last one may have a fault, and its line
-- reports it.
pub record Went (old : Server) (logged : List ℕ) (new : Server) : Type 0 where
  pub ends : Endings
  pub decided : AreDecisions old.words old.log_taken old.edge ends logged new.edge
  pub words : new.words ≡ past_each old.words ends
  pub counted : old.left ≡ connections_in ends + new.left
  pub closes : old.keeps ≡ false → connections_in ends ≡ length ends
  pub keeps : new.keeps ≡ old.keeps
  pub repeats : AreRepeated old.repeats ends new.repeats
  pub reaches : ReachEach old.has_inner ends
  pub has_inner : new.has_inner ≡ old.has_inner
  pub margin : new.pruning.margin ≡ old.pruning.margin
  pub counts : new.tally.counts ≡ all_counted ends old.tally.counts
  pub log_taken : new.log_taken ≡ old.log_taken
  pub lines : old.fault ≡ None → (before after : Writer) → ReportsOf new.fault before after
      → AreReported ends before after
  pub stuck : (old.fault ≡ None → ⊥) → (ends ≡ []) × (new ≡ old)

-- a server that stays as it is goes nowhere
pub went_nowhere : (old : Server) (logged : List ℕ) (new : Server) → new ≡ old → logged ≡ []
    → Went old logged new
went_nowhere old logged new same none = record {
  ends = [];
  decided = (ap (λ s. s.edge) same, none);
  words = ap (λ s. s.words) same;
  counted = omega (arith, ap (λ s. s.left) same);
  closes = λ _. refl;
  keeps = ap (λ s. s.keeps) same;
  repeats =
      subst (AreRepeated old.repeats []) (sym (ap (λ (s : Server). s.repeats) same))
      (none_repeated old.repeats);
  reaches = tt;
  has_inner = ap (λ s. s.has_inner) same;
  margin = ap (λ s. s.pruning.margin) same;
  counts = ap (λ s. s.tally.counts) same;
  log_taken = ap (λ s. s.log_taken) same;
  lines = λ told before after h. subst (λ o. ReportsOf o before after)
      (ap (λ s. s.fault) same ∙ told) h;
  stuck = λ _. (refl, same);
}

-- a fault that is there isn't missing
some_none : (f : Fault) → Some f ≡ None → ⊥
some_none f e = cc

-- the faults of decisions, and then of others, were reported in order
lines_both : (old mid new : Server) (logged more : List ℕ) (h : Went old logged mid)
    (k : Went mid more new)
    → old.fault ≡ None → (before after : Writer)
    → ReportsOf new.fault before after → AreReported (h.ends ++ k.ends) before after
lines_both old mid new logged more h k told before after t =
    elim mid.fault as (λ o. mid.fault ≡ o → AreReported (h.ends ++ k.ends) before after) [
      | None ↦ λ e. told_both h.ends k.ends before before after
          (h.lines told before before (subst (λ o. ReportsOf o before before) (sym e) refl))
          (k.lines e before after t)
      | Some f ↦ λ e.
          let s = k.stuck (λ none. some_none f (sym e ∙ none)) in
          told_both h.ends k.ends before after after
          (h.lines told before after
          (subst (λ (x : Server). ReportsOf x.fault before after) s.1 t))
          (subst (λ l. AreReported l after after) (sym s.0) refl)
    ] refl

-- a server goes on from where it went
pub went_both : (old mid new : Server) (logged more : List ℕ) → Went old logged mid
    → Went mid more new
    → Went old (logged ++ more) new
went_both old mid new logged more h k =
    let many = connections_both h.ends k.ends in
    record {
      ends = h.ends ++ k.ends;
      decided =
          decisions_both old.words old.log_taken old.edge h.ends logged mid.edge k.ends more
          new.edge h.decided
          (subst (λ w. AreDecisions w old.log_taken mid.edge k.ends more new.edge) h.words
          (subst (λ t. AreDecisions mid.words t mid.edge k.ends more new.edge) h.log_taken
          k.decided));
      words = k.words ∙ ap (λ w. past_each w k.ends) h.words
          ∙ sym (past_both old.words h.ends k.ends);
      counted = omega (arith, h.counted, k.counted, many);
      closes = λ off. closes_both h.ends k.ends (h.closes off) (k.closes (h.keeps ∙ off));
      keeps = k.keeps ∙ h.keeps;
      repeats = repeated_both old.repeats mid.repeats new.repeats h.ends k.ends h.repeats k.repeats;
      reaches =
          reach_both old.has_inner h.ends k.ends h.reaches
          (subst (λ b. ReachEach b k.ends) h.has_inner k.reaches);
      has_inner = k.has_inner ∙ h.has_inner;
      margin = k.margin ∙ h.margin;
      counts = k.counts ∙ ap (all_counted k.ends) h.counts
          ∙ sym (counted_both h.ends k.ends old.tally.counts);
      log_taken = k.log_taken ∙ h.log_taken;
      lines = lines_both old mid new logged more h k;
      stuck = λ s.
          let one = h.stuck s in
          let two = k.stuck (λ none. s (sym (ap (λ x. x.fault) one.1) ∙ none)) in
          (subst (λ l. l ++ k.ends ≡ []) (sym one.0) two.0, two.1 ∙ one.1);
    }

-- one request is reported once the line of its fault, if it has one, was written
one_told : (end : Result Served Fault) (stays : Bool) (reach : Reach) (path : Option Path) (now : ℕ)
    (granted : Option Refreshed) (again : Option Repetition) (before after : Writer)
    → ReportsOf (fault_of end) before after
    → AreReported (record {
      end = end;
      stays = stays;
      reach = reach;
      path = path;
      now = now;
      granted = granted;
      again = again;
    } ∷ []) before after
one_told (Ok served) stays reach path now granted again before after h = (before, refl, h)
one_told (Err fault) stays reach path now granted again before after h = (after, h, refl)

-- a connection that doesn't stay open is one that ends
one_ended : (stays : Bool) → stays ≡ false → ended_if stays + 0 ≡ 1
one_ended stays off = ap (λ b. ended_if b + 0) off

-- a request that ended is one decision that the server made
went_end : (old : Server) (bytes : List ℕ) (over : Bool) (outcome : Outcome)
    (replied logged : List ℕ) (new : Server)
    → Ends old bytes over outcome replied logged new → Went old logged new
went_end old bytes over outcome replied logged new h = record {
  ends = record {
    end = h.end;
    stays = goes_on outcome;
    reach = reach_by old.edge.terms old.has_inner old.is_inner;
    path = h.path;
    now = old.now;
    granted = h.granted;
    again = None;
  } ∷ [];
  decided = (
    new.edge,
    logged,
    [],
    (
      bytes,
      over,
      h.reply,
      h.decided,
      may_stay old.keeps h.end (asking_of old bytes over) old.edge
          outcome h.is_outcome,
      h.is_granted,
      h.is_named,
    ),
    sym (append-nil logged),
    (refl, refl),
  );
  words = ap (λ s. s.words) h.moved;
  counted = omega (arith, h.counted, ap (λ s. s.left) h.moved);
  closes = λ off. one_ended (goes_on outcome)
      (none_stays old.keeps h.end (asking_of old bytes over) old.edge outcome h.is_outcome off);
  keeps = ap (λ s. s.keeps) h.moved;
  repeats =
      subst (AreRepeated old.repeats _) (sym (ap (λ (s : Server). s.repeats) h.moved))
      (one_granted h.end (goes_on outcome) (reach_by old.edge.terms old.has_inner old.is_inner)
      h.path old.now h.granted old.repeats);
  reaches = (may_reach old.has_inner old.is_inner, tt);
  has_inner = ap (λ s. s.has_inner) h.moved;
  margin = ap (λ s. s.pruning.margin) h.moved;
  counts = ap (λ s. s.tally.counts) h.moved;
  log_taken = ap (λ s. s.log_taken) h.moved;
  lines = λ told before after t. one_told h.end (goes_on outcome)
      (reach_by old.edge.terms old.has_inner old.is_inner) h.path old.now h.granted None before
      after (subst (λ o. ReportsOf o before after) (ap (λ s. s.fault) h.moved) t);
  stuck = λ s. absurd (s h.told);
}

-- a refresh was repeated
went_again : (old : Server) (bytes : List ℕ) (over : Bool) (outcome : Outcome)
    (replied logged : List ℕ) (new : Server)
    → Repeats old bytes over outcome replied logged new → Went old logged new
went_again old bytes over outcome replied logged new h =
    let it : Repetition = record { refreshed = h.it; now = old.now } in
    let end : Ending = record {
      end = Ok (Done code.Ok);
      stays = goes_on outcome;
      reach = reach_by old.edge.terms old.has_inner old.is_inner;
      path = h.taken.path;
      now = old.now;
      granted = None;
      again = Some it;
    } in
    let found =
    found_parts
    (is_repeat old.repeats.seconds old.now h.repeated.refresh.parent h.repeated.refresh.request)
    old.repeats.kept h.it h.found in
    record {
      ends = end ∷ [];
      decided = (
        new.edge,
        logged,
        [],
        (
          ap (λ (s : Server). s.edge) h.moved,
          h.unlogged,
          refl,
          refl,
          refl,
          (
            bytes,
            over,
            h.taken,
            h.reply,
            h.repeated,
            stays_taken old.keeps h.taken outcome
                h.is_outcome,
            refl,
          ),
        ),
        sym (append-nil logged),
        (refl, refl),
      );
      words = ap (λ s. s.words) h.moved;
      counted = omega (arith, h.counted, ap (λ s. s.left) h.moved);
      closes = λ off. one_ended (goes_on outcome)
          (closes_taken old.keeps h.taken outcome h.is_outcome off);
      keeps = ap (λ s. s.keeps) h.moved;
      repeats =
          subst (AreRepeated old.repeats (end ∷ [])) (sym (ap (λ (s : Server). s.repeats) h.moved))
          (record {
            seconds = refl;
            each = (
              (
                h.on,
                found.0,
                recent_by old.repeats.seconds old.now h.repeated.refresh.parent
                    h.repeated.refresh.request h.it found.1,
              ),
              tt,
            );
            kept = λ _ is. is;
          });
      reaches = (may_reach old.has_inner old.is_inner, tt);
      has_inner = ap (λ s. s.has_inner) h.moved;
      margin = ap (λ s. s.pruning.margin) h.moved;
      counts = ap (λ s. s.tally.counts) h.moved;
      log_taken = ap (λ s. s.log_taken) h.moved;
      lines = λ told before after t.
          (before, refl, subst (λ o. ReportsOf o before after) (ap (λ s. s.fault) h.moved) t);
      stuck = λ s. absurd (s h.told);
    }

-- a server goes on by a decision
pub went_one : (old : Server) (bytes : List ℕ) (over : Bool) (outcome : Outcome)
    (replied logged : List ℕ) (new : Server)
    → Decides old bytes over outcome replied logged new → Went old logged new
went_one old bytes over More replied logged new h = went_nowhere old logged new h.same h.unlogged
went_one old bytes over (Decided taken stays) replied logged new (inl h) =
    went_end old bytes over (Decided taken stays) replied logged new h
went_one old bytes over (Decided taken stays) replied logged new (inr h) =
    went_again old bytes over (Decided taken stays) replied logged new h
went_one old bytes over Ended replied logged new (inl h) =
    went_end old bytes over Ended replied logged new h
went_one old bytes over Ended replied logged new (inr h) =
    went_again old bytes over Ended replied logged new h
