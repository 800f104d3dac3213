-- What a server does over turns. Key results:
--   goes_nowhere    nothing happened
--   goes_at         another moment
--   goes_over       another socket
--   goes_forgotten  what is kept for repeats became less
--   goes_both       one after the other
--   goes_unread     a connection ended unread
--   goes_parted     a kept connection ended behind its last reply
--   goes_unsent     a client didn't take its reply
use Rattle.std.proofs.Common.{◌≡◌, ℕ, ◌+◌, Bool, false, List, [], ◌∷◌, ◌++◌}
use Rattle.std.proofs.Common.{length, Option, None, Ok, Err, inl, inr, refl, sym, ap, subst}
use Rattle.std.proofs.Common.{◌∙◌, arith}
use Rattle.std.specs.Prelude.{is_some}
use Rattle.std.proofs.KnownBytes.{Appends-nil}
use Rattle.rand_chacha.specs.ChaCha.{ChaCha}
use Rattle.tk_edge.specs.declared.edge.Served.TheVariants.{Nothing}
use Rattle.tk_edge.specs.Paths.{plain}
use Rattle.tk_edge.specs.declared.reach.PathSet.TheVariants.{All}
use Rattle.tk_edge.specs.declared.tell.Fault.{Fault}
use Rattle.tk_edge.specs.declared.tell.Fault.TheVariants.{Write}
use Rattle.tokend.specs.Decisions.{IsUnread}
use Rattle.tokend.specs.Counting.{with_end}
use Rattle.tokend.specs.Draw.{six, past_six}
use Rattle.tokend.specs.Serving.{connection_fault}
use Rattle.tokend.specs.declared.metrics.Counts.{Counts}
use Rattle.tokend.specs.Telling.{Writer, Writes}
use Rattle.tokend.specs.Repeats.{RepeatsFields}
use Rattle.tokend.specs.Turns.{AreAmong, AreRepeated, all_counted}
use Rattle.tokend.specs.Turns.{AreTurns, Goes}
use Rattle.tokend.specs.Turns.{ReachEach, Running, Site, all_ends, connections_in, past_each}
use Rattle.tokend.specs.Turns.{running}
use Rattle.tokend.specs.declared.server.Server.{Server}
use Rattle.tokend.proofs.Deciding.{parted, unread}
use Rattle.tokend.proofs.RepeatLaws.{none_repeated, repeated_both}
use Rattle.tokend.proofs.EndingLists.{all_both, closes_both, connections_both, counted_both}
use Rattle.tokend.proofs.EndingLists.{past_both, reach_both, turns_both}

-- what is kept became less
pub goes_forgotten : (site : Site) (repeats : RepeatsFields) → repeats.seconds
    ≡ site.server.repeats.seconds → AreAmong repeats.kept site.server.repeats.kept
    → Goes site (record {
      server = record site.server { repeats = repeats };
      log = site.log;
      faults = site.faults;
    })
goes_forgotten site repeats same among =
    record {
      turns = [];
      served = refl;
      words = refl;
      counted = omega arith;
      closes = λ _. refl;
      keeps = refl;
      repeats = record { seconds = same; each = tt; kept = among };
      reaches = tt;
      has_inner = refl;
      margin = refl;
      counts = refl;
      log_taken = refl;
      fault = refl;
    }

-- a site goes on to itself
pub goes_nowhere : (site : Site) → Goes site site
goes_nowhere site =
    record {
      turns = [];
      served = refl;
      words = refl;
      counted = omega arith;
      closes = λ _. refl;
      keeps = refl;
      repeats = none_repeated site.server.repeats;
      reaches = tt;
      has_inner = refl;
      margin = refl;
      counts = refl;
      log_taken = refl;
      fault = refl;
    }

-- the moment at which requests are decided changes nothing else
pub goes_at : (site : Site) (now : ℕ) → Goes site (record {
  server = record site.server { now = now };
  log = site.log;
  faults = site.faults;
})
goes_at site now =
    record {
      turns = [];
      served = refl;
      words = refl;
      counted = omega arith;
      closes = λ _. refl;
      keeps = refl;
      repeats = none_repeated site.server.repeats;
      reaches = tt;
      has_inner = refl;
      margin = refl;
      counts = refl;
      log_taken = refl;
      fault = refl;
    }

-- the socket whose requests are decided changes nothing else
pub goes_over : (site : Site) (is_inner : Bool) → Goes site (record {
  server = record site.server { is_inner = is_inner };
  log = site.log;
  faults = site.faults;
})
goes_over site is_inner =
    record {
      turns = [];
      served = refl;
      words = refl;
      counted = omega arith;
      closes = λ _. refl;
      keeps = refl;
      repeats = none_repeated site.server.repeats;
      reaches = tt;
      has_inner = refl;
      margin = refl;
      counts = refl;
      log_taken = refl;
      fault = refl;
    }

-- a site that goes on twice goes on
pub goes_both : (old mid new : Site) → Goes old mid → Goes mid new → Goes old new
goes_both old mid new h k =
    let all : all_ends (h.turns ++ k.turns) ≡ all_ends h.turns ++ all_ends k.turns =
    all_both h.turns k.turns in
    let many : connections_in (all_ends (h.turns ++ k.turns)) ≡ connections_in (all_ends h.turns)
    + connections_in (all_ends k.turns) =
    ap connections_in all ∙ connections_both (all_ends h.turns) (all_ends k.turns) in
    record {
      turns = h.turns ++ k.turns;
      served = turns_both old.server.words old.server.log_taken (running old) h.turns (running mid)
          k.turns (running new) h.served
          (subst (λ w. AreTurns w old.server.log_taken (running mid) k.turns (running new)) h.words
          (subst (λ t. AreTurns mid.server.words t (running mid) k.turns (running new)) h.log_taken
          k.served));
      words = k.words ∙ ap (λ w. past_each w (all_ends k.turns)) h.words
          ∙ sym (past_both old.server.words (all_ends h.turns) (all_ends k.turns))
          ∙ ap (past_each old.server.words) (sym all);
      counted = omega (arith, h.counted, k.counted, many);
      closes = λ off. subst (λ l. connections_in l ≡ length l) (sym all)
          (closes_both (all_ends h.turns) (all_ends k.turns) (h.closes off)
          (k.closes (h.keeps ∙ off)));
      keeps = k.keeps ∙ h.keeps;
      repeats = subst (λ l. AreRepeated old.server.repeats l new.server.repeats) (sym all)
          (repeated_both old.server.repeats mid.server.repeats new.server.repeats (all_ends h.turns)
          (all_ends k.turns) h.repeats k.repeats);
      reaches = subst (ReachEach old.server.has_inner) (sym all)
          (reach_both old.server.has_inner (all_ends h.turns) (all_ends k.turns) h.reaches
          (subst (λ b. ReachEach b (all_ends k.turns)) h.has_inner k.reaches));
      has_inner = k.has_inner ∙ h.has_inner;
      margin = k.margin ∙ h.margin;
      counts = k.counts ∙ ap (all_counted (all_ends k.turns)) h.counts
          ∙ sym (counted_both (all_ends h.turns) (all_ends k.turns) old.server.tally.counts)
          ∙ ap (λ l. all_counted l old.server.tally.counts) (sym all);
      log_taken = k.log_taken ∙ h.log_taken;
      fault = k.fault ∙ h.fault;
    }

-- a connection ended unread: the server has the words behind, one connection less, and counts it
pub goes_unread : (fault : Fault) (old : Server) (words : ChaCha) (left : ℕ) (counts : Counts)
    (log : Option (List ℕ)) (before after : Writer) → IsUnread fault → counts
    ≡ with_end (Err fault) All None old.now old.tally.counts → words ≡ past_six old.words → old.left
    ≡ left + 1
    → Writes before after (connection_fault fault)
    → Goes (record { server = old; log = log; faults = before }) (record {
      server = record old
          { words = words; left = left; tally = record old.tally { counts = counts } };
      log = log;
      faults = after;
    })
goes_unread fault old words left counts log before after is more drawn counted told = record {
  turns = (record {
    end = Err fault;
    stays = false;
    reach = plain All;
    path = None;
    now = old.now;
    granted = None;
    again = None;
  } ∷ []) ∷ [];
  served =
      let then : Running = record {
        edge = old.edge;
        log = log;
        faults = after;
        prunes = is_some old.pruning.margin;
      } in (
        then,
        then,
        record {
          edge = old.edge;
          records = [];
          told = after;
          decided = (
            old.edge,
            [],
            [],
            unread (six old.words) old.log_taken old.edge fault old.now is,
            refl,
            (refl, refl),
          );
          lines = (after, told, refl);
          log = inl (record { log = Appends-nil log; edge = refl; faults = refl; prunes = refl });
        },
        inl refl,
        refl,
      );
  words = drawn;
  counted = omega (arith, counted);
  closes = λ _. refl;
  keeps = refl;
  repeats = record { seconds = refl; each = (tt, tt); kept = λ _ is. is };
  reaches = (tt, tt);
  has_inner = refl;
  margin = refl;
  counts = more;
  log_taken = refl;
  fault = refl;
}

-- a kept connection ended behind its last reply: the server has the words behind, and one
-- connection less
pub goes_parted : (old : Server) (words : ChaCha) (left : ℕ) (log : Option (List ℕ))
    (faults : Writer) → words ≡ past_six old.words → old.left ≡ left + 1
    → Goes (record { server = old; log = log; faults = faults }) (record {
      server = record old { words = words; left = left };
      log = log;
      faults = faults;
    })
goes_parted old words left log faults drawn counted = record {
  turns = (record {
    end = Ok Nothing;
    stays = false;
    reach = plain All;
    path = None;
    now = 0;
    granted = None;
    again = None;
  } ∷ []) ∷ [];
  served =
      let then : Running = record {
        edge = old.edge;
        log = log;
        faults = faults;
        prunes = is_some old.pruning.margin;
      } in (
        then,
        then,
        record {
          edge = old.edge;
          records = [];
          told = faults;
          decided =
              (old.edge, [], [], parted (six old.words) old.log_taken old.edge, refl, (refl, refl));
          lines = (faults, refl, refl);
          log = inl (record { log = Appends-nil log; edge = refl; faults = refl; prunes = refl });
        },
        inl refl,
        refl,
      );
  words = drawn;
  counted = omega (arith, counted);
  closes = λ _. refl;
  keeps = refl;
  repeats = record { seconds = refl; each = (tt, tt); kept = λ _ is. is };
  reaches = (tt, tt);
  has_inner = refl;
  margin = refl;
  counts = refl;
  log_taken = refl;
  fault = refl;
}

-- a site goes on by the line of a reply that wasn't sent
pub goes_unsent : (server : Server) (log : Option (List ℕ)) (before after : Writer)
    → Writes before after (connection_fault Write)
    → Goes (record { server = server; log = log; faults = before })
    (record { server = server; log = log; faults = after })
goes_unsent server log before after told = record {
  turns = [] ∷ [];
  served =
      let then : Running = record {
        edge = server.edge;
        log = log;
        faults = before;
        prunes = is_some server.pruning.margin;
      } in (
        then,
        record {
          edge = server.edge;
          log = log;
          faults = after;
          prunes = is_some server.pruning.margin;
        },
        record {
          edge = server.edge;
          records = [];
          told = before;
          decided = (refl, refl);
          lines = refl;
          log = inl (record { log = Appends-nil log; edge = refl; faults = refl; prunes = refl });
        },
        inr (inl (record { line = told; others = refl })),
        refl,
      );
  words = refl;
  counted = omega arith;
  closes = λ _. refl;
  keeps = refl;
  repeats = none_repeated server.repeats;
  reaches = tt;
  has_inner = refl;
  margin = refl;
  counts = refl;
  log_taken = refl;
  fault = refl;
}
