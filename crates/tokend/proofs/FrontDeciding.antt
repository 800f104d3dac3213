-- What serving the front of bytes decides, with a log and a writer in memory. Key results:
--   front_decides   what serving the front of bytes decides
use Rattle.std.proofs.Common.{◌≡◌, ℕ, ◌+◌, Bool, true, false, List, [], ◌++◌, append-nil, Option}
use Rattle.std.proofs.Common.{Some, None, Result, Ok, Err, inl, inr, refl, sym, ◌∙◌}
use Rattle.std.specs.Io.KnownBytes.{Appends, Keeps}
use Rattle.std.proofs.lemmas.List.{append_cancel_left}
use Rattle.tk_put.specs.Put.{AppendsFront}
use Rattle.tk_message.specs.declared.status_code.StatusCode.{StatusCode}
use Rattle.tk_edge.specs.EdgeFields.{EdgeFields}
use Rattle.tk_edge.specs.FrontServed.{IsFrontServed, IsFrontTurnedAway, IsServedBy, asked_by}
use Rattle.tk_edge.specs.Pushes.{IsBegun, LogsAndTells, TellsTaken, bundle_to_log}
use Rattle.tk_edge.specs.Served.{Asked, IsServed, IsTurnedAway, RepliesTo, RunsOut, Step}
use Rattle.tk_edge.specs.Served.{WritesNothing}
use Rattle.tk_edge.specs.Terms.{TermsFields}
use Rattle.tk_edge.specs.Told.{AnswerFields, Change, IsTold}
use Rattle.tk_edge.specs.declared.ahead.PushError.{PushError}
use Rattle.tk_edge.specs.declared.hear.Arrival.{Arrival}
use Rattle.tk_edge.specs.declared.edge.Served.{Served}
use Rattle.tk_edge.specs.declared.edge.Served.TheVariants.{Nothing, Done}
use Rattle.tk_edge.specs.declared.front.Taken.{Taken}
use Rattle.tk_edge.specs.declared.tell.Fault.{Fault}
use Rattle.tk_edge.specs.declared.tell.Fault.TheVariants.{Read, Write, Log, Memory}
use Rattle.tokend.specs.Decisions.{Asking, FrontDecides, IsDecided, asked_of, gains}
use Rattle.tokend.proofs.Connecting.{uses_less}

-- ---- what is behind other bytes

-- the bytes begin with others
abbrev Behind : List ℕ → List ℕ → Type 0
Behind old new = (more : List ℕ) × (new ≡ old ++ more)

-- bytes to which a text was appended begin with what they were
appends_behind : (old new text : List ℕ) → Appends (Some old) (Some new) text → Behind old new
appends_behind old new text h = (text, h)

-- bytes to which the beginning of a text was appended begin with what they were
front_behind : (old new text : List ℕ) → AppendsFront (Some old) (Some new) text → Behind old new
front_behind old new text h = (h.front, h.appended)

-- bytes that were kept begin with what they were
keeps_behind : (old new : List ℕ) → Keeps (Some old) (Some new) → Behind old new
keeps_behind old new h = ([], h ∙ sym (append-nil old))

-- what follows the old bytes is the text that was appended
appends_apart : (old new more text : List ℕ) → new ≡ old ++ more
    → Appends (Some old) (Some new) text → Appends (Some []) (Some more) text
appends_apart old new more text is h = append_cancel_left old more text (sym is ∙ h)

-- what follows the old bytes is the beginning of a text that was appended
front_apart : (old new more text : List ℕ) → new ≡ old ++ more
    → AppendsFront (Some old) (Some new) text → AppendsFront (Some []) (Some more) text
front_apart old new more text is h =
    record {
      front = h.front;
      rest = h.rest;
      parts = h.parts;
      appended = appends_apart old new more h.front is h.appended;
    }

-- nothing follows the old bytes if the new ones equal them
same_apart : (old new more : List ℕ) → new ≡ old ++ more → new ≡ old → more ≡ []
same_apart old new more is same =
    append_cancel_left old more [] (sym is ∙ same ∙ sym (append-nil old))

-- nothing follows the old bytes if they were kept
keeps_apart : (old new more : List ℕ) → new ≡ old ++ more → Keeps (Some old) (Some new)
    → Keeps (Some []) (Some more)
keeps_apart old new more is h = same_apart old new more is h

-- a list in memory before and after
abbrev pub memory : List ℕ → List ℕ → Change
memory old new = record { before = Some old; after = Some new }

-- ---- a log and a writer in memory, which had bytes before

module _ (a n c w : List ℕ) (still : Type 0) (sealed : Bool) where
  abbrev Both : Type 0
  Both = Behind c w × Behind a n

  told_behind : (answer : AnswerFields) (result : Result StatusCode Fault)
      → IsTold answer (memory a n) (memory c w) sealed result → Both
  told_behind answer (Ok status) h = (appends_behind c w answer.bytes h.2, appends_behind a n _ h.1)
  told_behind answer (Err Log) h = (keeps_behind c w h.1, front_behind a n _ h.0)
  told_behind answer (Err Write) h = (front_behind c w answer.bytes h.1, appends_behind a n _ h.0)
  told_behind answer (Err Read) h = absurd h
  told_behind answer (Err Memory) h = absurd h

  nothing_behind : WritesNothing (memory a n) still (memory c w) sealed → Both
  nothing_behind h = (keeps_behind c w h.1, keeps_behind a n h.0)

  begun_behind : (logged : Option (List ℕ)) → IsBegun logged (memory a n) → Behind a n
  begun_behind None h = absurd h
  begun_behind (Some bytes) h = front_behind a n bytes h

  tells_behind : (taken : Result ℕ PushError) (result : Result StatusCode Fault)
      → TellsTaken taken (memory c w) result → Behind c w
  tells_behind taken (Ok status) h = appends_behind c w _ h.3
  tells_behind taken (Err Write) h = front_behind c w _ h.2
  tells_behind taken (Err Memory) h = keeps_behind c w h
  tells_behind taken (Err Log) h = absurd h
  tells_behind taken (Err Read) h = absurd h

  logs_behind : (logged : Option (List ℕ)) (taken : Result ℕ PushError)
      (result : Result StatusCode Fault)
      → LogsAndTells logged taken (memory a n) still (memory c w) sealed result → Both
  logs_behind logged taken (Err Log) h = (keeps_behind c w h.1, begun_behind logged h.0)
  logs_behind logged taken (Ok status) h =
      (tells_behind taken (Ok status) h.2, appends_behind a n _ h.0)
  logs_behind logged taken (Err Write) h =
      (tells_behind taken (Err Write) h.2, appends_behind a n _ h.0)
  logs_behind logged taken (Err Read) h =
      (tells_behind taken (Err Read) h.2, appends_behind a n _ h.0)
  logs_behind logged taken (Err Memory) h =
      (tells_behind taken (Err Memory) h.2, appends_behind a n _ h.0)

  replied_behind : (sent : Option (List ℕ)) (terms : TermsFields) (now : ℕ) (words : List ℕ)
      (came : Arrival) (region : Step) (result : Result StatusCode Fault)
      → RepliesTo sent terms now words came region (memory a n) still (memory c w) sealed result
      → Both
  replied_behind (Some bytes) terms now words came region result h = logs_behind h.2 h.0 result h.4
  replied_behind None terms now words came region (Ok status) h = told_behind h.0 (Ok status) h.2
  replied_behind None terms now words came region (Err Log) h = told_behind h.0 (Err Log) h.2
  replied_behind None terms now words came region (Err Write) h = told_behind h.0 (Err Write) h.2
  replied_behind None terms now words came region (Err Read) h = absurd h
  replied_behind None terms now words came region (Err Memory) h = nothing_behind h.2

  out_behind : (b : Bool) (asked : Asked) (region : Step)
      → RunsOut b asked region (memory a n) still (memory c w) sealed → Both
  out_behind false asked region h = nothing_behind h.1
  out_behind true asked region (inl h) = nothing_behind h.1
  out_behind true asked region (inr h) = logs_behind h.2.2 h.2.0 (Err Memory) h.2.4

  served_behind : (asked : Asked) (region : Step) (result : Result Served Fault)
      → IsServed asked region (memory a n) still (memory c w) sealed result → Both
  served_behind asked region (Ok (Done status)) h =
      replied_behind (bundle_to_log asked.log_taken h.0) asked.terms asked.now asked.words h.0
      region (Ok status) h.3
  served_behind asked region (Ok Nothing) h = nothing_behind h.1.1
  served_behind asked region (Err Log) h = replied_behind (bundle_to_log asked.log_taken h.0)
      asked.terms asked.now asked.words h.0 region (Err Log) h.3
  served_behind asked region (Err Write) h =
      replied_behind (bundle_to_log asked.log_taken h.0) asked.terms asked.now asked.words h.0
      region (Err Write) h.3
  served_behind asked region (Err Read) h = nothing_behind h.1
  served_behind asked region (Err Memory) h = out_behind asked.log_taken asked region h

  away_behind : (result : Result Served Fault) → IsTurnedAway (memory c w) result → Behind c w
  away_behind (Ok (Done status)) h = appends_behind c w _ h.1
  away_behind (Ok Nothing) h = absurd h
  away_behind (Err Write) h = front_behind c w _ h
  away_behind (Err Memory) h = keeps_behind c w h
  away_behind (Err Read) h = absurd h
  away_behind (Err Log) h = absurd h

  -- apart from what was before
  module _ (logged reply : List ℕ) (is_log : n ≡ a ++ logged) (is_reply : w ≡ c ++ reply)
      (unused : still → logged ≡ []) where
    told_apart : (answer : AnswerFields) (result : Result StatusCode Fault)
        → IsTold answer (memory a n) (memory c w) sealed result
        → IsTold answer (gains logged) (gains reply) sealed result
    told_apart answer (Ok status) h =
        (h.0, appends_apart a n logged _ is_log h.1, appends_apart c w reply _ is_reply h.2, h.3)
    told_apart answer (Err Log) h =
        (front_apart a n logged _ is_log h.0, keeps_apart c w reply is_reply h.1, h.2)
    told_apart answer (Err Write) h =
        (appends_apart a n logged _ is_log h.0, front_apart c w reply _ is_reply h.1, h.2)
    told_apart answer (Err Read) h = absurd h
    told_apart answer (Err Memory) h = absurd h

    nothing_apart : WritesNothing (memory a n) still (memory c w) sealed
        → WritesNothing (gains logged) (logged ≡ []) (gains reply) sealed
    nothing_apart h =
        (keeps_apart a n logged is_log h.0, keeps_apart c w reply is_reply h.1, h.2, unused h.3)

    begun_apart : (l : Option (List ℕ)) → IsBegun l (memory a n) → IsBegun l (gains logged)
    begun_apart None h = absurd h
    begun_apart (Some bytes) h = front_apart a n logged bytes is_log h

    tells_apart : (taken : Result ℕ PushError) (result : Result StatusCode Fault)
        → TellsTaken taken (memory c w) result → TellsTaken taken (gains reply) result
    tells_apart taken (Ok status) h = (h.0, h.1, h.2, appends_apart c w reply _ is_reply h.3)
    tells_apart taken (Err Write) h = (h.0, h.1, front_apart c w reply _ is_reply h.2)
    tells_apart taken (Err Memory) h = keeps_apart c w reply is_reply h
    tells_apart taken (Err Log) h = absurd h
    tells_apart taken (Err Read) h = absurd h

    logs_apart : (l : Option (List ℕ)) (taken : Result ℕ PushError)
        (result : Result StatusCode Fault)
        → LogsAndTells l taken (memory a n) still (memory c w) sealed result
        → LogsAndTells l taken (gains logged) (logged ≡ []) (gains reply) sealed result
    logs_apart l taken (Err Log) h = (begun_apart l h.0, keeps_apart c w reply is_reply h.1, h.2)
    logs_apart l taken (Ok status) h = (
      appends_apart a n logged _ is_log h.0,
      λ none. unused (h.1 none),
      tells_apart taken (Ok status) h.2,
      h.3,
    )
    logs_apart l taken (Err Write) h = (
      appends_apart a n logged _ is_log h.0,
      λ none. unused (h.1 none),
      tells_apart taken (Err Write) h.2,
      h.3,
    )
    logs_apart l taken (Err Read) h = absurd h.2
    logs_apart l taken (Err Memory) h = (
      appends_apart a n logged _ is_log h.0,
      λ none. unused (h.1 none),
      tells_apart taken (Err Memory) h.2,
      h.3,
    )

    replied_apart : (sent : Option (List ℕ)) (terms : TermsFields) (now : ℕ) (words : List ℕ)
        (came : Arrival) (region : Step) (result : Result StatusCode Fault)
        → RepliesTo sent terms now words came region (memory a n) still (memory c w) sealed result
        → RepliesTo sent terms now words came region (gains logged) (logged ≡ [])
        (gains reply) sealed result
    replied_apart (Some bytes) terms now words came region result h =
        (h.0, h.1, h.2, h.3, logs_apart h.2 h.0 result h.4)
    replied_apart None terms now words came region (Ok status) h = (
      h.0,
      h.1,
      told_apart h.0 (Ok status) h.2,
      uses_less still (logged ≡ []) h.0 (Ok status) unused h.3,
      h.4,
    )
    replied_apart None terms now words came region (Err Log) h = (
      h.0,
      h.1,
      told_apart h.0 (Err Log) h.2,
      uses_less still (logged ≡ []) h.0 (Err Log) unused h.3,
      h.4,
    )
    replied_apart None terms now words came region (Err Write) h = (
      h.0,
      h.1,
      told_apart h.0 (Err Write) h.2,
      uses_less still (logged ≡ []) h.0 (Err Write) unused h.3,
      h.4,
    )
    replied_apart None terms now words came region (Err Read) h = absurd h
    replied_apart None terms now words came region (Err Memory) h = (h.0, h.1, nothing_apart h.2)

    out_apart : (b : Bool) (asked : Asked) (region : Step)
        → RunsOut b asked region (memory a n) still (memory c w) sealed
        → RunsOut b asked region (gains logged) (logged ≡ []) (gains reply) sealed
    out_apart false asked region h = (h.0, nothing_apart h.1)
    out_apart true asked region (inl h) = inl (h.0, nothing_apart h.1)
    out_apart true asked region (inr h) =
        inr (h.0, h.1, (h.2.0, h.2.1, h.2.2, h.2.3, logs_apart h.2.2 h.2.0 (Err Memory) h.2.4))

    served_apart : (asked : Asked) (region : Step) (result : Result Served Fault)
        → IsServed asked region (memory a n) still (memory c w) sealed result
        → IsServed asked region (gains logged) (logged ≡ []) (gains reply) sealed result
    served_apart asked region (Ok (Done status)) h = (
      h.0,
      h.1,
      h.2,
      replied_apart (bundle_to_log asked.log_taken h.0) asked.terms asked.now asked.words h.0
          region (Ok status) h.3,
    )
    served_apart asked region (Ok Nothing) h = (h.0, (h.1.0, nothing_apart h.1.1))
    served_apart asked region (Err Log) h = (
      h.0,
      h.1,
      h.2,
      replied_apart (bundle_to_log asked.log_taken h.0) asked.terms asked.now asked.words h.0
          region (Err Log) h.3,
    )
    served_apart asked region (Err Write) h = (
      h.0,
      h.1,
      h.2,
      replied_apart (bundle_to_log asked.log_taken h.0) asked.terms asked.now asked.words h.0
          region (Err Write) h.3,
    )
    served_apart asked region (Err Read) h = (h.0, nothing_apart h.1)
    served_apart asked region (Err Memory) h = out_apart asked.log_taken asked region h

    away_apart : (result : Result Served Fault) → IsTurnedAway (memory c w) result
        → IsTurnedAway (gains reply) result
    away_apart (Ok (Done status)) h = (h.0, appends_apart c w reply _ is_reply h.1)
    away_apart (Ok Nothing) h = absurd h
    away_apart (Err Write) h = front_apart c w reply _ is_reply h
    away_apart (Err Memory) h = keeps_apart c w reply is_reply h
    away_apart (Err Read) h = absurd h
    away_apart (Err Log) h = absurd h

-- ---- what serving the front of bytes decides

-- yes is not no
pub clash : true ≡ false → ⊥
clash e = cc

-- edges with equal regions, terms and seals are equal
same_edge : (old new : EdgeFields) → new.region ≡ old.region → new.terms ≡ old.terms
    → new.sealed ≡ old.sealed → new ≡ old
same_edge old new region terms sealed =
    λ i. record { region = region i; terms = terms i; sealed = sealed i }

module _ (asking : Asking) (old new : EdgeFields) (a n c w : List ℕ) (still : Type 0)
    (unchanged : still → n ≡ a) (terms : new.terms ≡ old.terms) where
  abbrev Decided : Result (Option (Served × Taken)) Fault → Type 0
  Decided result = (reply : List ℕ) × (logged : List ℕ) × (w ≡ c ++ reply) × (n ≡ a ++ logged)
      × FrontDecides asking old result reply logged new

  abbrev Fronts : Result (Option (Served × Taken)) Fault → Type 0
  Fronts result = IsFrontServed (asked_of asking old) asking.bytes asking.over
      (record { before = old.region; after = new.region }) (memory a n) still
      (memory c w) new.sealed result

  abbrev By : Result Served Fault → Type 0
  By end = IsServedBy (asked_of asking old) asking.bytes asking.over
      (record { before = old.region; after = new.region }) (memory a n) still
      (memory c w) new.sealed end

  both : (end : Result Served Fault) → By end → Behind c w × Behind a n
  both end h = served_behind a n c w still new.sealed
      (asked_by (asked_of asking old) asking.bytes [])
      (record { before = old.region; after = new.region }) end (h [] (λ _. refl))

  decided : (end : Result Served Fault) → old.sealed ≡ false → (h : By end)
      → IsDecided asking old end (both end h).0.0 (both end h).1.0 new
  decided end unsealed h =
      let b = both end h in
      record {
        served = λ _ tail follows. served_apart a n c w still new.sealed b.1.0 b.0.0 b.1.1 b.0.1
            (λ s. same_apart a n b.1.0 b.1.1 (unchanged s))
            (asked_by (asked_of asking old) asking.bytes tail)
            (record { before = old.region; after = new.region }) end (h tail follows);
        shut = λ sealed. absurd (clash (sym sealed ∙ unsealed));
        terms = terms;
      }

  unsealed_front : (result : Result (Option (Served × Taken)) Fault) → old.sealed ≡ false
      → Fronts result → Decided result
  unsealed_front (Ok None) unsealed h = (
    [],
    [],
    h.1.1.1 ∙ sym (append-nil c),
    h.1.1.0 ∙ sym (append-nil a),
    (unsealed, h.0, same_edge old new h.1.0 terms (h.1.1.2 ∙ sym unsealed), refl, refl),
  )
  unsealed_front (Ok (Some end)) unsealed h =
      let b = both (Ok end.0) h.1 in (
        b.0.0,
        b.1.0,
        b.0.1,
        b.1.1,
        (
          (λ _. h.0, λ sealed. absurd (clash (sym sealed ∙ unsealed))),
          decided (Ok end.0) unsealed h.1,
        ),
      )
  unsealed_front (Err fault) unsealed h =
      let b = both (Err fault) h in (b.0.0, b.1.0, b.0.1, b.1.1, decided (Err fault) unsealed h)

  away : (end : Result Served Fault) → old.sealed ≡ true → (new ≡ old) × still
      → (h : IsTurnedAway (memory c w) end)
      → IsDecided asking old end (away_behind a n c w still new.sealed end h).0 [] new
  away end shut same h =
      let b = away_behind a n c w still new.sealed end h in
      record {
        served = λ unsealed. absurd (clash (sym shut ∙ unsealed));
        shut = λ _. (
          same.0,
          refl,
          inl (away_apart a n c w still new.sealed [] b.0 (unchanged same.1 ∙ sym (append-nil a))
              b.1 (λ _. refl) end h),
        );
        terms = terms;
      }

  shut_front : (result : Result (Option (Served × Taken)) Fault) → old.sealed ≡ true
      → (new ≡ old) × still → IsFrontTurnedAway asking.bytes (memory c w) result → Decided result
  shut_front (Ok None) shut same h = absurd h
  shut_front (Ok (Some end)) shut same h =
      let b = away_behind a n c w still new.sealed (Ok end.0) h.1 in (
        b.0,
        [],
        b.1,
        unchanged same.1 ∙ sym (append-nil a),
        (
          (λ unsealed. absurd (clash (sym shut ∙ unsealed)), λ _. h.0),
          away (Ok end.0) shut same h.1,
        ),
      )
  shut_front (Err fault) shut same h =
      let b = away_behind a n c w still new.sealed (Err fault) h in
      (b.0, [], b.1, unchanged same.1 ∙ sym (append-nil a), away (Err fault) shut same h)

  -- what a front end's request came to is a decision, sealed or not
  pub front_decides : (result : Result (Option (Served × Taken)) Fault)
      → (old.sealed ≡ false → Fronts result)
      → (old.sealed ≡ true → IsFrontTurnedAway asking.bytes (memory c w) result)
      → (old.sealed ≡ true → (new ≡ old) × still) → Decided result
  front_decides result opened turned same =
      elim old.sealed as (λ b. old.sealed ≡ b → Decided result) [
        | true ↦ λ e. shut_front result e (same e) (turned e)
        | false ↦ λ e. unsealed_front result e (opened e)
      ] refl
