-- What is decided of the front of bytes, apart from the replies and records before it. Key results:
--   unread          a connection that ended unread decides nothing
--   parted          a kept connection that ended behind its last reply decides nothing
--   short           no memory decides nothing
--   decision_grows  a decision leaves what the region knew
--   may_stay        a connection stays only behind a request that lets it
use Rattle.std.proofs.Common.{◌≡◌, ℕ, ◌+◌, ◌≤◌, Bool, true, false, List, [], ◌++◌, append-nil}
use Rattle.std.proofs.Common.{length, take, Option, Some, None, Result, Ok, Err, inl, inr}
use Rattle.std.proofs.Common.{refl, sym, ap, subst, ◌∙◌, arith}
use Rattle.std.specs.Prelude.{◌<◌, ◌&&◌}
use Rattle.std.specs.Prelude.{IfSome, is_some}
use Rattle.std.proofs.Math.Seq.{take-append_seam}
use Rattle.std.proofs.lemmas.List.{length-append}
use Rattle.tk_turn.specs.Outcomes.{goes_on, taken_of}
use Rattle.tk_turn.specs.declared.service.Outcome.{Outcome}
use Rattle.tk_edge.specs.EdgeFields.{EdgeFields}
use Rattle.tk_edge.specs.FrontServed.{asked_by}
use Rattle.tk_edge.specs.Served.{Asked, RunsOut}
use Rattle.tk_edge.specs.declared.edge.Served.{Served}
use Rattle.tk_edge.specs.declared.edge.Served.TheVariants.{Nothing, Done}
use Rattle.tk_edge.specs.declared.front.Taken.{Taken}
use Rattle.tk_edge.specs.Paths.{plain}
use Rattle.tk_edge.specs.declared.reach.PathSet.TheVariants.{All}
use Rattle.tk_edge.specs.declared.tell.Fault.{Fault}
use Rattle.tk_edge.specs.declared.tell.Fault.TheVariants.{Read, Write, Log, Memory}
use Rattle.tokend.specs.Decisions.{Asking, Decides, Ending, Ends, FrontDecides, IsDecided}
use Rattle.tokend.specs.Decisions.{IsDecision, IsDecisionBy, IsOutcome, IsTaken}
use Rattle.tokend.specs.Decisions.{IsNamed, IsUnread, MayGrant, MayStay, asked_of}
use Rattle.tokend.specs.Decisions.{gains, outcome_by}
use Rattle.tokend.specs.Repeating.{IsCome, IsKept}
use Rattle.tokend.specs.Repeats.{Repetition, granted_at}
use Rattle.tokend.specs.declared.repeats.Refreshed.{Refreshed}
use Rattle.tokend.specs.declared.repeating.Refresh.{Refresh}
use Rattle.tk_handle.specs.declared.dot.Dot.{Dot}
use Rattle.tk_message.specs.Place.{next_in}
use Rattle.tk_region.specs.RegionFields.{RegionFields, place_in}
use Rattle.tokend.specs.Growing.{Grows}
use Rattle.tokend.specs.declared.server.Server.{Server}
use Rattle.tokend.proofs.Connecting.{served_grows}
use Rattle.tokend.proofs.Growing.{grows_same}
use Rattle.tk_edge.proofs.FrontLaws.{some_taken}
use Rattle.tokend.proofs.FrontDeciding.{clash}
use Rattle.tk_handle.proofs.TestLaws.{and_second as both_true}

-- ---- a connection that ended unread

-- no bytes
abbrev nothing : List ℕ
nothing = []

-- memory may run out with the region, the log and the writer unchanged
out_of_memory : (b : Bool) (asked : Asked) (edge : EdgeFields) → edge.sealed ≡ false
    → RunsOut b asked (record { before = edge.region; after = edge.region }) (gains nothing)
    (nothing ≡ []) (gains nothing) edge.sealed
out_of_memory false asked edge unsealed = (inl refl, (refl, refl, unsealed, refl))
out_of_memory true asked edge unsealed = inl (refl, (refl, refl, unsealed, refl))

-- a connection that ended unread, for either fault, decides nothing
unread_by : (asking : Asking) (edge : EdgeFields) (fault : Fault) → IsUnread fault
    → IsDecided asking edge (Err fault) [] [] edge
unread_by asking edge Read h = record {
  served = λ unsealed tail follows. (refl, (refl, refl, unsealed, refl));
  shut = λ _. (refl, refl, inr tt);
  terms = refl;
}
unread_by asking edge Memory h = record {
  served = λ unsealed tail follows. out_of_memory asking.log_taken
      (asked_by (asked_of asking edge) asking.bytes tail) edge unsealed;
  shut = λ _. (refl, refl, inl refl);
  terms = refl;
}
unread_by asking edge Write h = absurd h
unread_by asking edge Log h = absurd h

-- a connection that couldn't be read is decided by its fault, and nothing changes
pub unread : (words : List ℕ) (log_taken : Bool) (edge : EdgeFields) (fault : Fault) (now : ℕ)
    → IsUnread fault
    → IsDecision words log_taken edge (record {
      end = Err fault;
      stays = false;
      reach = plain All;
      path = None;
      now = now;
      granted = None;
      again = None;
    }) [] edge
unread words log_taken edge fault now h = (
  [],
  false,
  [],
  unread_by (record {
    words = words;
    log_taken = log_taken;
    reach = plain All;
    now = now;
    bytes = [];
    over = false;
  }) edge fault h,
  tt,
  tt,
  tt,
)

-- a kept connection ended behind its last reply: nothing more came
pub parted : (words : List ℕ) (log_taken : Bool) (edge : EdgeFields)
    → IsDecision words log_taken edge (record {
      end = Ok Nothing;
      stays = false;
      reach = plain All;
      path = None;
      now = 0;
      granted = None;
      again = None;
    }) [] edge
parted words log_taken edge = (
  [],
  true,
  [],
  record {
    served = λ unsealed tail follows.
        (λ bytes is. none_comes bytes tail (follows refl) is, (refl, (refl, refl, unsealed, refl)));
    shut = λ _. (refl, refl, inr tt);
    terms = refl;
  },
  tt,
  tt,
  tt,
)
  where
    none_comes : (bytes tail : List ℕ) → tail ≡ [] → Some tail ≡ Some bytes → bytes ≡ []
    none_comes bytes tail none is = sym (some_inj is) ∙ none
      where
        some_inj : Some tail ≡ Some bytes → tail ≡ bytes
        some_inj e = cc

-- no memory for the reply and the record: nothing is changed
pub short : (asking : Asking) (edge : EdgeFields) → IsDecided asking edge (Err Memory) [] [] edge
short asking edge = unread_by asking edge Memory tt

-- ---- what a decision leaves of a region

-- a decision, on a request or on one that repeats a refresh, leaves what the region knew
decision_grows_by : (again : Option Repetition) (words : List ℕ) (log_taken : Bool)
    (old : EdgeFields) (ending : Ending) (logged : List ℕ) (new : EdgeFields)
    → IsDecisionBy again words log_taken old ending logged new
    → Grows old.region new.region
decision_grows_by (Some it) words log_taken old ending logged new h =
    grows_same old.region new.region (ap (λ (n : EdgeFields). n.region) h.0)
decision_grows_by None words log_taken old ending logged new h =
    elim old.sealed as (λ b. old.sealed ≡ b → Grows old.region new.region) [
      | true ↦ λ e. subst (λ (n : EdgeFields). Grows old.region n.region) (sym (h.3.shut e).0)
          (grows_same old.region old.region refl)
      | false ↦ λ e.
          let asking : Asking = record {
            words = words;
            log_taken = log_taken;
            reach = ending.reach;
            now = ending.now;
            bytes = h.0;
            over = h.1;
          } in
          served_grows (asked_by (asked_of asking old) h.0 []) old.region new.region (gains logged)
          (logged ≡ []) (gains h.2) new.sealed ending.end (h.3.served e [] (λ _. refl))
    ] refl

-- a region only grows by what is decided of a connection
pub decision_grows : (words : List ℕ) (log_taken : Bool) (old : EdgeFields) (ending : Ending)
    (logged : List ℕ) (new : EdgeFields)
    → IsDecision words log_taken old ending logged new
    → Grows old.region new.region
decision_grows words log_taken old ending logged new h =
    decision_grows_by ending.again words log_taken old ending logged new h

-- ---- what a server makes of that

-- what serving the front decided, once the result is known
pub as_served : (asking : Asking) (old new : EdgeFields) (found : Option (Served × Taken))
    (served : Served) (taken : Taken) (reply logged : List ℕ)
    → found ≡ Some (served, taken)
    → FrontDecides asking old (Ok found) reply logged new
    → FrontDecides asking old (Ok (Some (served, taken))) reply logged new
as_served asking old new found served taken reply logged is h =
    subst (λ o. FrontDecides asking old (Ok o) reply logged new) is h

-- there is no fault if none is known
pub none_of : (fault : Option Fault) → is_some fault ≡ false → fault ≡ None
none_of None h = refl
none_of (Some fault) h = absurd (clash h)

-- what is left of replies that are cut to what was there before
pub front_stays : (old reply all : List ℕ) (mark : ℕ) → all ≡ old ++ reply → mark ≡ length old
    → take mark all ≡ old ++ []
front_stays old reply all mark is at =
    ap (take mark) is ∙ ap (λ n. take n (old ++ reply)) at ∙ take-append_seam old reply
    ∙ sym (append-nil old)

-- the place where a reply begins is within the replies
pub front_within : (old reply all : List ℕ) (mark : ℕ) → all ≡ old ++ reply → mark ≡ length old
    → mark ≤ length all
front_within old reply all mark is at = omega (arith, ap length is, length-append old reply, at)

-- no more bytes are taken than have come
taken_within : (asking : Asking) (old : EdgeFields) (taken : Taken) → IsTaken asking old taken
    → taken.size ≤ length asking.bytes
taken_within asking old taken h =
    elim old.sealed as (λ b. old.sealed ≡ b → taken.size ≤ length asking.bytes) [
      | true ↦ λ e. omega (arith, ap (λ (t : Taken). t.size) (h.1 e))
      | false ↦ λ e. (h.0 e).1.within
    ] refl

-- if the connection stays open, some bytes were taken
taken_some : (asking : Asking) (old : EdgeFields) (taken : Taken) → IsTaken asking old taken
    → taken.stays ≡ true → 0 < taken.size
taken_some asking old taken h stays =
    elim old.sealed as (λ b. old.sealed ≡ b → 0 < taken.size) [
      | true ↦ λ e. absurd (clash (sym stays ∙ ap (λ (t : Taken). t.stays) (h.1 e)))
      | false ↦ λ e. let come =
          h.0 e in some_taken asking.reach asking.bytes come.0 taken come.1.takes stays
    ] refl

-- an outcome takes no more bytes than have come
pub outcome_within : (asking : Asking) (old : EdgeFields) (keeps : Bool) (served : Served)
    (taken : Taken) (outcome : Outcome)
    → IsTaken asking old taken → outcome ≡ outcome_by keeps served taken
    → taken_of outcome ≤ length asking.bytes
outcome_within asking old keeps Nothing taken outcome h is =
    subst (λ o. taken_of o ≤ length asking.bytes) (sym is) (omega arith)
outcome_within asking old keeps (Done status) taken outcome h is =
    subst (λ o. taken_of o ≤ length asking.bytes) (sym is) (taken_within asking old taken h)

-- an outcome after which the connection goes on takes some bytes
pub outcome_some : (asking : Asking) (old : EdgeFields) (keeps : Bool) (served : Served)
    (taken : Taken) (outcome : Outcome)
    → IsTaken asking old taken → outcome ≡ outcome_by keeps served taken
    → goes_on outcome ≡ true → 0 < taken_of outcome
outcome_some asking old keeps Nothing taken outcome h is on =
    absurd (clash (sym on ∙ ap goes_on is))
outcome_some asking old keeps (Done status) taken outcome h is on =
    subst (λ o. 0 < taken_of o) (sym is)
    (taken_some asking old taken h (both_true keeps taken.stays (sym (ap goes_on is) ∙ on)))

-- a request that ended is one that was decided
pub ends_decides : (old : Server) (bytes : List ℕ) (over keeps : Bool) (served : Served)
    (taken : Taken) (outcome : Outcome) (replied logged : List ℕ) (new : Server)
    → outcome ≡ outcome_by keeps served taken
    → Ends old bytes over outcome replied logged new
    → Decides old bytes over outcome replied logged new
ends_decides old bytes over keeps Nothing taken outcome replied logged new is h =
    subst (λ o. Decides old bytes over o replied logged new) (sym is)
    (inl (subst (λ o. Ends old bytes over o replied logged new) is h))
ends_decides old bytes over keeps (Done status) taken outcome replied logged new is h =
    subst (λ o. Decides old bytes over o replied logged new) (sym is)
    (inl (subst (λ o. Ends old bytes over o replied logged new) is h))

-- a connection stays only behind a request that lets it
pub may_stay : (keeps : Bool) (end : Result Served Fault) (asking : Asking) (old : EdgeFields)
    (outcome : Outcome)
    → IsOutcome keeps end asking old outcome → MayStay asking old (goes_on outcome)
may_stay keeps (Err fault) asking old outcome is =
    subst (λ o. MayStay asking old (goes_on o)) (sym is) tt
may_stay keeps (Ok Nothing) asking old outcome h =
    subst (λ o. MayStay asking old (goes_on o)) (sym h.2) tt
may_stay keeps (Ok (Done status)) asking old outcome h =
    subst (λ o. MayStay asking old (goes_on o)) (sym h.2)
    (elim (keeps && h.0.stays) as (λ b. (keeps && h.0.stays) ≡ b → MayStay asking old b) [
      | true ↦ λ e. (h.0, h.1, both_true keeps h.0.stays e)
      | false ↦ λ e. tt
    ] refl)

-- a request that was served is counted under the path that was taken of it
pub named_by : (asking : Asking) (old : EdgeFields) (served : Served) (taken : Taken)
    → IsTaken asking old taken → IsNamed asking old (Ok served) taken.path
named_by asking old Nothing taken h = tt
named_by asking old (Done status) taken h = (taken, h, refl)

-- no connection stays unless connections are kept
pub none_stays : (keeps : Bool) (end : Result Served Fault) (asking : Asking) (old : EdgeFields)
    (outcome : Outcome)
    → IsOutcome keeps end asking old outcome → keeps ≡ false → goes_on outcome ≡ false
none_stays keeps (Err fault) asking old outcome is off = ap goes_on is
none_stays keeps (Ok Nothing) asking old outcome h off = ap goes_on h.2
none_stays keeps (Ok (Done status)) asking old outcome h off = ap goes_on h.2
    ∙ ap (λ b. b && h.0.stays) off

-- the refresh that is kept of a request came and was granted
pub may_grant : (asking : Asking) (old : EdgeFields) (region : RegionFields)
    (refresh : Option Refresh) (served : Served) (now : ℕ) (dot : Dot) (words : List ℕ)
    (granted : Option Refreshed)
    → IfSome refresh (IsCome asking.reach asking.bytes asking.over)
    → IsKept region refresh served now dot words granted → now ≡ asking.now → dot
    ≡ next_in (place_in old.region) → words ≡ asking.words → MayGrant asking old (Ok served) granted
may_grant asking old region refresh served now dot words None came h at is six_words = tt
may_grant asking old region None served now dot words (Some it) came h at is six_words = absurd h
may_grant asking old region (Some refresh) served now dot words (Some it) came h at is six_words = (
  refresh,
  came.0,
  came.1,
  h.0 ∙ ap (λ n. granted_at refresh n dot words) at
      ∙ ap (λ d. granted_at refresh asking.now d words) is
      ∙ ap (granted_at refresh asking.now (next_in (place_in old.region))) six_words,
  ap (λ (s : Served). Ok s) h.1,
)
