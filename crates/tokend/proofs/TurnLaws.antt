-- What the turns of a server leave of it, one turn at a time. Key results:
--   goes_kept       the requests of a turn were decided, and their records kept
--   goes_lost       the requests of a turn were decided, and the log failed
use Rattle.std.proofs.Common.{◌≡◌, ℕ, ◌+◌, Bool, List, [], ◌∷◌, ◌++◌, append-nil, length}
use Rattle.std.proofs.Common.{None, inl, inr, refl, sym, ap, subst}
use Rattle.std.proofs.Common.{◌∙◌, arith}
use Rattle.std.specs.Prelude.{◌⊎◌, set, is_some}
use Rattle.tk_turn.specs.declared.service.Outcome.{Outcome}
use Rattle.tk_turn.specs.Links.{LinkFields}
use Rattle.tk_turn.specs.Requests.{AreDecided, Request}
use Rattle.tk_turn.specs.Turns.{AreDecidedAt, MayDecide, LogChange, State}
use Rattle.tk_turn.specs.Turns as turn
use Rattle.tk_edge.specs.declared.tell.Fault.TheVariants.{Log}
use Rattle.tokend.specs.Decisions.{Decides, Seals}
use Rattle.tokend.specs.Serving.{connection_fault}
use Rattle.tokend.specs.Telling.{Writer, Writes}
use Rattle.tokend.specs.Turns.{AreRepeated, all_counted}
use Rattle.tokend.specs.Turns.{Goes, IsKept, IsLost, ReachEach}
use Rattle.tokend.specs.Turns.{Running, ReportsOf, connections_in, past_each}
use Rattle.tokend.specs.declared.server.Server.{Server}
use Rattle.tokend.proofs.WentLaws.{Went, went_both, went_nowhere, went_one}

-- the requests of one connection
went_each : (old : Server) (input : List ℕ) (over : Bool) (all : List Request) (last : Outcome)
    (replied logged : List ℕ) (new : Server) (rest : List ℕ)
    → AreDecided Decides old input over all last replied logged new rest → Went old logged new
went_each old input over [] last replied logged new rest h = absurd h
went_each old input over (one ∷ []) last replied logged new rest h =
    subst (λ l. Went old l new) (sym h.3)
    (went_one old input over one.outcome one.reply one.logged new h.0)
went_each old input over (one ∷ next ∷ others) last replied logged new rest h =
    subst (λ l. Went old l new) (sym h.6)
    (went_both old h.0 new one.logged h.4
    (went_one old input over one.outcome one.reply one.logged h.0 h.1)
    (went_each h.0 _ over (next ∷ others) last h.3 h.4 new rest h.7))

-- the decisions on one connection's requests, if any, are decisions that the server made
went_may : (old : Server) (before : LinkFields) (new : Server) (after : LinkFields)
    (logged : List ℕ)
    → MayDecide Decides old before new after logged → Went old logged new
went_may old before new after logged (inl h) =
    subst (λ l. Went old l new) (sym h.records)
    (went_each old before.input before.is_over h.requests.all h.requests.last h.requests.replied
    h.requests.logged new after.input h.decided.decided)
went_may old before new after logged (inr h) = went_nowhere old logged new h.1 h.3

-- the decisions on the requests of connections at places are decisions that the server made
went_at : (places : List ℕ) (old : Server) (before : List LinkFields) (new : Server)
    (after : List LinkFields) (logged : List ℕ)
    → AreDecidedAt Decides places old before new after logged
    → Went old logged new
went_at [] old before new after logged h = went_nowhere old logged new h.0 h.2
went_at (place ∷ places) old before new after logged h =
    subst (λ l. Went old l new) (sym h.8)
    (went_both old h.2 new h.3 h.4 (went_may old h.0 h.2 h.1 h.3 h.7)
    (went_at places h.2 (set before place h.1) new after h.4 h.9))

-- ---- one turn

module _ (places : List ℕ) (old new : State Server) (log : LogChange) (before told after : Writer)
  where
    -- the server after its turn, when the line of its fault is written
    abbrev end : Server
    end = record new.service { fault = None }

    abbrev Gone : Type 0
    Gone = Goes (record {
      server = old.service;
      log = log.before;
      faults = before;
    }) (record { server = end; log = log.after; faults = after })

    abbrev then : Running
    then = record {
      edge = new.service.edge;
      log = log.after;
      faults = after;
      prunes = is_some end.pruning.margin;
    }

    abbrev start : Running
    start = record {
      edge = old.service.edge;
      log = log.before;
      faults = before;
      prunes = is_some old.service.pruning.margin;
    }

    -- a turn by what it decided, and what became of its records
    gone : (mid : Server) (logged : List ℕ) → Went old.service logged mid → old.service.fault ≡ None
        → ReportsOf mid.fault before told
        → new.service.words ≡ mid.words → new.service.left ≡ mid.left → new.service.keeps
        ≡ mid.keeps
        → new.service.repeats ≡ mid.repeats → new.service.has_inner ≡ mid.has_inner
        → new.service.pruning.margin ≡ mid.pruning.margin → new.service.tally.counts
        ≡ mid.tally.counts → new.service.log_taken ≡ mid.log_taken
        → (then.prunes ≡ start.prunes → IsKept start mid.edge logged told then
        ⊎ IsLost start mid.edge logged told then) → Gone
    gone mid logged went untold lines words left keeps repeats has_inner margin counts log_taken
        became =
        let all : went.ends ++ [] ≡ went.ends = append-nil went.ends in
        let many : connections_in (went.ends ++ []) ≡ connections_in went.ends =
        ap connections_in all in
        record {
          turns = went.ends ∷ [];
          served = (
            then,
            then,
            record {
              edge = mid.edge;
              records = logged;
              told = told;
              decided = went.decided;
              lines = went.lines untold before told lines;
              log = became (ap (λ o. is_some o) (margin ∙ went.margin));
            },
            inl refl,
            refl,
          );
          words = words ∙ went.words ∙ sym (ap (past_each old.service.words) all);
          counted = omega (arith, went.counted, left, many);
          closes = λ off. subst (λ l. connections_in l ≡ length l) (sym all) (went.closes off);
          keeps = keeps ∙ went.keeps;
          repeats =
              subst (λ l. AreRepeated old.service.repeats l new.service.repeats) (sym all)
              (subst (AreRepeated old.service.repeats went.ends) (sym repeats) went.repeats);
          reaches = subst (ReachEach old.service.has_inner) (sym all) went.reaches;
          has_inner = has_inner ∙ went.has_inner;
          margin = margin ∙ went.margin;
          counts = counts ∙ went.counts
              ∙ ap (λ l. all_counted l old.service.tally.counts) (sym all);
          log_taken = log_taken ∙ went.log_taken;
          fault = sym untold;
        }

    -- the records were kept
    pub goes_kept : (mid : State Server) (logged : List ℕ)
        → AreDecidedAt Decides places old.service old.links mid.service mid.links logged
        → turn.IsKept places mid new log logged
        → old.service.fault ≡ None → ReportsOf new.service.fault before told → after ≡ told → Gone
    goes_kept mid logged decided kept untold lines same =
        gone mid.service logged
        (went_at places old.service old.links mid.service mid.links logged decided) untold
        (subst (λ (x : Server). ReportsOf x.fault before told) kept.service lines)
        (ap (λ (x : Server). x.words) kept.service) (ap (λ (x : Server). x.left) kept.service)
        (ap (λ (x : Server). x.keeps) kept.service) (ap (λ (x : Server). x.repeats) kept.service)
        (ap (λ (x : Server). x.has_inner) kept.service)
        (ap (λ (x : Server). x.pruning.margin) kept.service)
        (ap (λ (x : Server). x.tally.counts) kept.service)
        (ap (λ (x : Server). x.log_taken) kept.service)
        (λ prunes. inl (record {
          log = kept.appended;
          edge = ap (λ (x : Server). x.edge) kept.service;
          faults = same;
          prunes = prunes;
        }))

    -- the log failed
    pub goes_lost : (mid : State Server) (logged : List ℕ)
        → AreDecidedAt Decides places old.service old.links mid.service mid.links logged
        → turn.IsLost Seals places mid new log logged
        → old.service.fault ≡ None → ReportsOf new.service.fault before told
        → Writes told after (connection_fault Log) → Gone
    goes_lost mid logged decided lost untold lines line =
        gone mid.service logged
        (went_at places old.service old.links mid.service mid.links logged decided) untold
        (subst (λ o. ReportsOf o before told) (ap (λ (x : Server). x.fault) lost.service) lines)
        (ap (λ (x : Server). x.words) lost.service) (ap (λ (x : Server). x.left) lost.service)
        (ap (λ (x : Server). x.keeps) lost.service) (ap (λ (x : Server). x.repeats) lost.service)
        (ap (λ (x : Server). x.has_inner) lost.service)
        (ap (λ (x : Server). x.pruning.margin) lost.service)
        (ap (λ (x : Server). x.tally.counts) lost.service)
        (ap (λ (x : Server). x.log_taken) lost.service)
        (λ prunes. inr (record {
          some = lost.some;
          log = lost.appended;
          edge = ap (λ (x : Server). x.edge) lost.service;
          faults = line;
          prunes = prunes;
        }))
