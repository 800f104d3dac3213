-- What turns leave of a region and of an edge. Key results:
--   turns_grow      turns leave what the region knew
--   server_grows    so does what a server does
use Rattle.std.proofs.Common.{◌≡◌, ℕ, Bool, List, [], ◌∷◌, inl, inr, refl, sym, ap, subst, ◌∙◌}
use Rattle.std.specs.Prelude.{◌⊎◌, is_some}
use Rattle.rand_chacha.specs.ChaCha.{ChaCha}
use Rattle.tk_edge.specs.EdgeFields.{EdgeFields}
use Rattle.tk_edge.specs.Terms.{TermsFields}
use Rattle.tokend.specs.Draw.{six, past_six}
use Rattle.tokend.specs.Growing.{Grows}
use Rattle.tokend.specs.Pruning.{slice_size}
use Rattle.tokend.specs.Turns.{KeepTerms}
use Rattle.tokend.specs.Turns.{AreDecisions, AreTurns, Endings, Goes, IsKept, IsLost, IsPause}
use Rattle.tokend.specs.Turns.{IsTurn, Running, Site, past_each, running}
use Rattle.tokend.proofs.Deciding.{decision_grows}
use Rattle.tokend.proofs.Growing.{grows_same, grows_twice}
use Rattle.tokend.proofs.SliceLaws.{slice_above}

-- ---- what turns leave of a region

-- a region only grows by the decisions of a turn
pub decisions_grow : (words : ChaCha) (log_taken : Bool) (old : EdgeFields) (ends : Endings)
    (records : List ℕ) (new : EdgeFields)
    → AreDecisions words log_taken old ends records new
    → Grows old.region new.region
decisions_grow words log_taken old [] records new h =
    grows_same old.region new.region (ap (λ (e : EdgeFields). e.region) h.0)
decisions_grow words log_taken old (end ∷ ends) records new h =
    grows_twice old.region h.0.region new.region
    (decision_grows (six words) log_taken old end h.1 h.0 h.3)
    (decisions_grow (past_six words) log_taken h.0 ends h.2 new h.5)

-- a turn leaves what the region knew
turn_grows : (words : ChaCha) (log_taken : Bool) (old : Running) (ends : Endings) (new : Running)
    → IsTurn words log_taken old ends new → Grows old.edge.region new.edge.region
turn_grows words log_taken old ends new h =
    grows_twice old.edge.region h.edge.region new.edge.region
    (decisions_grow words log_taken old.edge ends h.records h.edge h.decided) (of h.log)
  where
    of : IsKept old h.edge h.records h.told new ⊎ IsLost old h.edge h.records h.told new
        → Grows h.edge.region new.edge.region
    of (inl kept) =
        grows_same h.edge.region new.edge.region (ap (λ (e : EdgeFields). e.region) kept.edge)
    of (inr lost) =
        grows_same h.edge.region new.edge.region (ap (λ (e : EdgeFields). e.region) lost.edge)

-- terms that are unchanged keep the text of the metrics too
pub terms_same : (old new : TermsFields) → new ≡ old → KeepTerms old new
terms_same old new same = record {
  has = ap (λ (t : TermsFields). is_some t.metrics) same;
  others = subst (λ (t : TermsFields). t ≡ record old { metrics = t.metrics }) (sym same) refl;
}

-- terms that are kept twice are kept
pub terms_twice : (old mid new : TermsFields) → KeepTerms old mid → KeepTerms mid new
    → KeepTerms old new
terms_twice old mid new h k = record {
  has = k.has ∙ h.has;
  others = k.others ∙ ap (λ (t : TermsFields). record t { metrics = new.metrics }) h.others;
}

-- a pause leaves the log, the terms but for a text, and whether the edge is sealed and its region
-- pruned
pub log_stays : (old new : Running) → IsPause old new → new.log ≡ old.log
log_stays old new (inl same) = ap (λ (r : Running). r.log) same
log_stays old new (inr (inl lacks)) = ap (λ (r : Running). r.log) lacks.others
log_stays old new (inr (inr (inl loses))) = ap (λ (r : Running). r.log) loses.others
log_stays old new (inr (inr (inr shows))) = ap (λ (r : Running). r.log) shows.others

-- a pause keeps the terms
pub terms_stay : (old new : Running) → IsPause old new → KeepTerms old.edge.terms new.edge.terms
terms_stay old new (inl same) =
    terms_same old.edge.terms new.edge.terms (ap (λ (r : Running). r.edge.terms) same)
terms_stay old new (inr (inl lacks)) =
    terms_same old.edge.terms new.edge.terms (ap (λ (r : Running). r.edge.terms) lacks.others)
terms_stay old new (inr (inr (inl loses))) =
    terms_same old.edge.terms new.edge.terms (ap (λ (r : Running). r.edge.terms) loses.others)
terms_stay old new (inr (inr (inr shows))) =
    let is = ap (λ (r : Running). r.edge.terms) shows.others in
    record {
      has = ap (λ (t : TermsFields). is_some t.metrics) is ∙ sym shows.has;
      others = subst (λ (t : TermsFields). t ≡ record old.edge.terms { metrics = t.metrics })
          (sym is) refl;
    }

-- a pause leaves the seal
pub sealed_stays : (old new : Running) → IsPause old new → new.edge.sealed ≡ old.edge.sealed
sealed_stays old new (inl same) = ap (λ (r : Running). r.edge.sealed) same
sealed_stays old new (inr (inl lacks)) = ap (λ (r : Running). r.edge.sealed) lacks.others
sealed_stays old new (inr (inr (inl loses))) = ap (λ (r : Running). r.edge.sealed) loses.others
sealed_stays old new (inr (inr (inr shows))) = ap (λ (r : Running). r.edge.sealed) shows.others

-- a pause leaves whether the server prunes
pub prunes_stay : (old new : Running) → IsPause old new → new.prunes ≡ old.prunes
prunes_stay old new (inl same) = ap (λ (r : Running). r.prunes) same
prunes_stay old new (inr (inl lacks)) = ap (λ (r : Running). r.prunes) lacks.others
prunes_stay old new (inr (inr (inl loses))) = ap (λ (r : Running). r.prunes) loses.others
prunes_stay old new (inr (inr (inr shows))) = ap (λ (r : Running). r.prunes) shows.others

-- a turn leaves whether the server prunes
pub turn_prunes : (words : ChaCha) (log_taken : Bool) (old : Running) (ends : Endings)
    (new : Running)
    → IsTurn words log_taken old ends new → new.prunes ≡ old.prunes
turn_prunes words log_taken old ends new h = of h.log
  where
    of : IsKept old h.edge h.records h.told new ⊎ IsLost old h.edge h.records h.told new
        → new.prunes ≡ old.prunes
    of (inl kept) = kept.prunes
    of (inr lost) = lost.prunes

-- what a pause leaves of a region
pub pause_grows : (old new : Running) → IsPause old new → Grows old.edge.region new.edge.region
pause_grows old new (inl same) =
    grows_same old.edge.region new.edge.region (ap (λ (r : Running). r.edge.region) same)
pause_grows old new (inr (inl lacks)) =
    grows_same old.edge.region new.edge.region (ap (λ (r : Running). r.edge.region) lacks.others)
pause_grows old new (inr (inr (inr shows))) =
    grows_same old.edge.region new.edge.region (ap (λ (r : Running). r.edge.region) shows.others)
pause_grows old new (inr (inr (inl loses))) = record {
  number = loses.region.number;
  settings = loses.region.settings;
  facts = slice_above old.edge.region.facts loses.moment loses.after slice_size loses.slice
      new.edge.region.facts loses.region.facts;
}

-- a region only grows by turns
pub turns_grow : (words : ChaCha) (log_taken : Bool) (old : Running) (turns : List Endings)
    (new : Running)
    → AreTurns words log_taken old turns new
    → Grows old.edge.region new.edge.region
turns_grow words log_taken old [] new same =
    grows_same old.edge.region new.edge.region (ap (λ (r : Running). r.edge.region) same)
turns_grow words log_taken old (ends ∷ turns) new h =
    grows_twice old.edge.region h.0.edge.region new.edge.region
    (turn_grows words log_taken old ends h.0 h.2)
    (grows_twice h.0.edge.region h.1.edge.region new.edge.region (pause_grows h.0 h.1 h.3)
    (turns_grow (past_each words ends) log_taken h.1 turns new h.4))

-- the region of a server only grows
pub server_grows : (old new : Site) → Goes old new
    → Grows old.server.edge.region new.server.edge.region
server_grows old new h =
    turns_grow old.server.words old.server.log_taken (running old) h.turns (running new) h.served
