-- What a server does behind a turn. Key results:
--   goes_sliced     a slice of the region was pruned
--   goes_shown      the text of the metrics was made anew, if that was due
--   goes_untaken    replies weren't taken
--   goes_pruned     what a server prunes behind a turn
use Rattle.std.proofs.Common.{◌≡◌, ℕ, Bool, false, true, List, [], ◌∷◌}
use Rattle.std.proofs.Common.{Option, Some, None, inl, inr, refl, sym, ap, subst}
use Rattle.std.proofs.Common.{◌∙◌, arith}
use Rattle.std.specs.Prelude.{◌&&◌, is_some, cond}
use Rattle.std.proofs.KnownBytes.{Appends-nil}
use Rattle.tk_handle.specs.declared.dot.Dot.{Dot}
use Rattle.tk_edge.specs.EdgeFields.{EdgeFields}
use Rattle.tokend.specs.Exposition.{exposition}
use Rattle.tokend.specs.Pruning.{IsPruned, IsPrunedBy, Slices, SlicesBy, begun, gone_on, is_due}
use Rattle.tokend.specs.Pruning.{latest}
use Rattle.tokend.specs.declared.pruning.Pruning.{Pruning}
use Rattle.tokend.specs.Showing.{figures_of, is_old, shown_by, with_shown}
use Rattle.tokend.specs.Showing.{is_due as is_due_at}
use Rattle.tokend.specs.Telling.{Writer}
use Rattle.tokend.specs.Turns.{AreRepeated, with_text}
use Rattle.tokend.specs.Turns.{Goes}
use Rattle.tokend.specs.Turns.{Running, Site}
use Rattle.tokend.specs.declared.server.Server.{Server}
use Rattle.tokend.proofs.RepeatLaws.{none_repeated}
use Rattle.tokend.proofs.Turning.{goes_nowhere}
use Rattle.tk_handle.proofs.TestLaws.{and_first as both_first}

-- a slice of the region was pruned
pub goes_sliced : (old : Server) (pass : Pruning) (moment millis : ℕ) (new : Server)
    (log : Option (List ℕ)) (faults : Writer) → is_some old.pruning.margin ≡ true → pass.margin
    ≡ old.pruning.margin
    → Slices old pass moment millis new
    → Goes (record { server = old; log = log; faults = faults })
    (record { server = new; log = log; faults = faults })
goes_sliced old pass moment millis new log faults on same h =
    let margin : new.pruning.margin ≡ old.pruning.margin =
    ap (λ (s : Server). s.pruning.margin) h.others ∙ kept_margin pass h.slice.at millis
    ∙ same in
    let then : Running = record {
      edge = old.edge;
      log = log;
      faults = faults;
      prunes = is_some old.pruning.margin;
    } in
    record {
      turns = [] ∷ [];
      served = (
        then,
        record { edge = new.edge; log = log; faults = faults; prunes = is_some new.pruning.margin },
        record {
          edge = old.edge;
          records = [];
          told = faults;
          decided = (refl, refl);
          lines = refl;
          log = inl (record { log = Appends-nil log; edge = refl; faults = refl; prunes = refl });
        },
        inr (inr (inl (record {
          prunes = on;
          moment = moment;
          after = pass.after;
          slice = h.slice;
          region = h.region;
          others = λ i. record {
            edge = ap (λ (s : Server). s.edge) h.others i;
            log = log;
            faults = faults;
            prunes = is_some (margin i);
          };
        }))),
        refl,
      );
      words = ap (λ (s : Server). s.words) h.others;
      counted = omega (arith, ap (λ (s : Server). s.left) h.others);
      closes = λ _. refl;
      keeps = ap (λ (s : Server). s.keeps) h.others;
      repeats =
          subst (AreRepeated old.repeats []) (sym (ap (λ (s : Server). s.repeats) h.others))
          (none_repeated old.repeats);
      reaches = tt;
      has_inner = ap (λ (s : Server). s.has_inner) h.others;
      margin = margin;
      counts = ap (λ (s : Server). s.tally.counts) h.others;
      log_taken = ap (λ (s : Server). s.log_taken) h.others;
      fault = ap (λ (s : Server). s.fault) h.others;
    }
  where
    kept_margin : (pass : Pruning) (at : Option Dot) (millis : ℕ) → (gone_on pass at millis).margin
        ≡ pass.margin
    kept_margin pass None millis = refl
    kept_margin pass (Some dot) millis = refl

-- the text of the metrics was made anew
goes_anew : (old : Server) (text : List ℕ) (millis : ℕ) (log : Option (List ℕ)) (faults : Writer)
    → is_some old.edge.terms.metrics ≡ true
    → Goes (record { server = old; log = log; faults = faults }) (record {
      server = with_shown old text millis;
      log = log;
      faults = faults;
    })
goes_anew old text millis log faults has = record {
  turns = [] ∷ [];
  served =
      let then : Running = record {
        edge = old.edge;
        log = log;
        faults = faults;
        prunes = is_some old.pruning.margin;
      } in (
        then,
        record then { edge = with_text old.edge text },
        record {
          edge = old.edge;
          records = [];
          told = faults;
          decided = (refl, refl);
          lines = refl;
          log = inl (record { log = Appends-nil log; edge = refl; faults = refl; prunes = refl });
        },
        inr (inr (inr (record { has = has; text = text; others = refl }))),
        refl,
      );
  words = refl;
  counted = omega arith;
  closes = λ _. refl;
  keeps = refl;
  repeats = none_repeated old.repeats;
  reaches = tt;
  has_inner = refl;
  margin = refl;
  counts = refl;
  log_taken = refl;
  fault = refl;
}

-- the server with a text that was due
pub due_shown : (old : Server) (millis still_open : ℕ) (edge : EdgeFields) (text : List ℕ)
    → is_due_at old millis ≡ true → edge ≡ with_text old.edge text → text
    ≡ exposition (figures_of old still_open)
    → record old { edge = edge; tally = record old.tally { shown = Some millis } }
    ≡ shown_by old millis still_open
due_shown old millis still_open edge text due is shows =
    ap (λ (e : EdgeFields). record old
    { edge = e; tally = record old.tally { shown = Some millis } })
    (is ∙ ap (with_text old.edge) shows)
    ∙ sym (ap (λ b. cond b (with_shown old (exposition (figures_of old still_open)) millis) old)
    due)

-- the text of the metrics was made anew, if that was due
pub goes_shown : (old : Server) (millis still_open : ℕ) (new : Server) → new
    ≡ shown_by old millis still_open → (log : Option (List ℕ)) (faults : Writer)
    → Goes (record { server = old; log = log; faults = faults })
    (record { server = new; log = log; faults = faults })
goes_shown old millis still_open new is log faults =
    subst (λ s. Goes (record { server = old; log = log; faults = faults })
    (record { server = s; log = log; faults = faults })) (sym is)
    (by (is_due_at old millis) refl)
  where
    by : (due : Bool) → is_due_at old millis ≡ due
        → Goes (record { server = old; log = log; faults = faults }) (record {
          server = cond due (with_shown old (exposition (figures_of old still_open)) millis) old;
          log = log;
          faults = faults;
        })
    by true e =
        goes_anew old (exposition (figures_of old still_open)) millis log faults
        (both_first (is_some old.edge.terms.metrics) (is_old old.tally.shown millis) e)
    by false e = goes_nowhere _

-- the count of replies that weren't taken changes nothing else
pub goes_untaken : (site : Site) (untaken : ℕ) → Goes site (record {
  server = record site.server { tally = record site.server.tally { untaken = untaken } };
  log = site.log;
  faults = site.faults;
})
goes_untaken site untaken =
    record {
      turns = [];
      served = refl;
      words = refl;
      counted = omega arith;
      closes = λ _. refl;
      keeps = refl;
      repeats = none_repeated site.server.repeats;
      reaches = tt;
      has_inner = refl;
      margin = refl;
      counts = refl;
      log_taken = refl;
      fault = refl;
    }

-- what a server prunes behind a turn
pub goes_pruned : (old : Server) (millis : ℕ) (new : Server) → IsPruned old millis new
    → (log : Option (List ℕ)) (faults : Writer)
    → Goes (record { server = old; log = log; faults = faults })
    (record { server = new; log = log; faults = faults })
goes_pruned old millis new h log faults = by old.pruning.margin refl h
  where
    unchanged : new ≡ old
        → Goes (record { server = old; log = log; faults = faults })
        (record { server = new; log = log; faults = faults })
    unchanged same =
        subst (λ s. Goes (record { server = old; log = log; faults = faults })
        (record { server = s; log = log; faults = faults })) (sym same) (goes_nowhere _)

    begun_margin : (margin : ℕ) (due : Bool)
        → (cond due
        (record old.pruning
        { moment = Some (latest old.pruning margin millis old.now); after = None })
        old.pruning).margin ≡ old.pruning.margin
    begun_margin margin true = refl
    begun_margin margin false = refl

    at : (margin : ℕ) → is_some old.pruning.margin ≡ true → (moment : Option ℕ)
        → SlicesBy old (begun old.pruning margin millis old.now) moment millis new
        → Goes (record { server = old; log = log; faults = faults })
        (record { server = new; log = log; faults = faults })
    at margin on None same = unchanged same
    at margin on (Some moment) h =
        goes_sliced old (begun old.pruning margin millis old.now) moment millis new log faults on
        (begun_margin margin (is_due old.pruning millis)) h

    by : (margin : Option ℕ) → old.pruning.margin ≡ margin → IsPrunedBy margin old millis new
        → Goes (record { server = old; log = log; faults = faults })
        (record { server = new; log = log; faults = faults })
    by None is same = unchanged same
    by (Some margin) is h =
        at margin (ap (λ o. is_some o) is) (begun old.pruning margin millis old.now).moment h
