-- What a server becomes when it decides the front of bytes. Key results:
--   served_ends     a server decides a request that was served
--   fault_ends      a server decides a request that ended by a fault
--   short_decides   a server ends a connection, because memory is short
--   again_decides   a server gives a reply again
use Rattle.std.proofs.Common.{◌≡◌, ℕ, ◌+◌, ◌≤◌, Bool, true, false, List, [], ◌++◌, append-nil}
use Rattle.std.proofs.Common.{length, take, drop, Option, Some, None, Result, Ok, Err, inl, inr}
use Rattle.std.proofs.Common.{refl, sym, ap, subst, ◌∙◌, arith}
use Rattle.std.specs.Prelude.{◌<◌}
use Rattle.std.proofs.Math.Seq.{drop-append_seam, take-append_seam}
use Rattle.rand_chacha.specs.ChaCha.{ChaCha}
use Rattle.tk_turn.specs.Outcomes.{goes_on, taken_of}
use Rattle.tk_turn.specs.declared.service.Outcome.{Outcome}
use Rattle.tk_turn.specs.declared.service.Outcome.TheVariants.{Ended}
use Rattle.tk_edge.specs.OpenReply.{IsOpenReply}
use Rattle.tk_edge.specs.declared.hear.Arrival.TheVariants.{Request}
use Rattle.tk_edge.specs.declared.edge.Served.{Served}
use Rattle.tk_edge.specs.declared.front.Taken.{Taken}
use Rattle.tk_edge.specs.declared.path.Path.{Path}
use Rattle.tk_edge.specs.declared.tell.Fault.{Fault}
use Rattle.tk_edge.specs.declared.tell.Fault.TheVariants.{Memory}
use Rattle.tokend.specs.Decisions.{Asking, Decides, FrontDecides, IsDecided}
use Rattle.tokend.specs.Decisions.{IsReplied}
use Rattle.tokend.specs.Decisions.{MayGrant, asking_of}
use Rattle.tokend.specs.Decisions.{ended_if}
use Rattle.tokend.specs.Decisions.{outcome_by, reach_by}
use Rattle.tokend.specs.Decisions.{fault_of, kept_by, moved_on, tally_with}
use Rattle.tokend.specs.Repeating.{FallsShort, GivesAgain, IsAgain}
use Rattle.tokend.specs.declared.repeats.Refreshed.{Refreshed}
use Rattle.tokend.specs.Draw.{six, past_six}
use Rattle.tokend.specs.declared.server.Server.{Server}
use Rattle.tk_edge.proofs.FrontLaws.{some_taken}
use Rattle.tokend.proofs.FrontDeciding.{clash}
use Rattle.tokend.proofs.Deciding.{ends_decides, named_by, short}
use Rattle.tk_handle.proofs.TestLaws.{and_second as both_true}

-- the server that moved on, by its steps
pub has_moved : (old mid kept new : Server) (next : ChaCha) (left : ℕ) (end : Result Served Fault)
    (path : Option Path) (granted : Option Refreshed)
    → mid ≡ record old { edge = mid.edge }
    → kept ≡ record mid { repeats = kept_by granted mid.repeats } → new
    ≡ record kept
    { words = next; left = left; fault = fault_of end; tally = tally_with kept end path }
    → next ≡ past_six old.words → new ≡ moved_on old end path new.edge granted left
has_moved old mid kept new next left end path granted one keep two words =
    let alloc = ap (λ (s : Server). s.alloc) two ∙ ap (λ (s : Server). s.alloc) keep
    ∙ ap (λ (s : Server). s.alloc) one in
    let drawn = ap (λ (s : Server). s.words) two ∙ words in
    let logs = ap (λ (s : Server). s.log_taken) two ∙ ap (λ (s : Server). s.log_taken) keep
    ∙ ap (λ (s : Server). s.log_taken) one in
    let keeps = ap (λ (s : Server). s.keeps) two ∙ ap (λ (s : Server). s.keeps) keep
    ∙ ap (λ (s : Server). s.keeps) one in
    let has_inner = ap (λ (s : Server). s.has_inner) two ∙ ap (λ (s : Server). s.has_inner) keep
    ∙ ap (λ (s : Server). s.has_inner) one in
    let is_inner = ap (λ (s : Server). s.is_inner) two ∙ ap (λ (s : Server). s.is_inner) keep
    ∙ ap (λ (s : Server). s.is_inner) one in
    let now = ap (λ (s : Server). s.now) two ∙ ap (λ (s : Server). s.now) keep
    ∙ ap (λ (s : Server). s.now) one in
    let many = ap (λ (s : Server). s.left) two in
    let told = ap (λ (s : Server). s.fault) two in
    let repeats = ap (λ (s : Server). s.repeats) two ∙ ap (λ (s : Server). s.repeats) keep
    ∙ ap (λ (s : Server). kept_by granted s.repeats) one in
    let pruning = ap (λ (s : Server). s.pruning) two ∙ ap (λ (s : Server). s.pruning) keep
    ∙ ap (λ (s : Server). s.pruning) one in
    let tally = ap (λ (s : Server). s.tally) two ∙ ap (λ (s : Server). tally_with s end path) keep
    ∙ ap (λ (s : Server). tally_with s end path) one in
    λ i. record {
      alloc = alloc i;
      edge = new.edge;
      words = drawn i;
      log_taken = logs i;
      keeps = keeps i;
      has_inner = has_inner i;
      is_inner = is_inner i;
      now = now i;
      left = many i;
      fault = told i;
      repeats = repeats i;
      pruning = pruning i;
      tally = tally i;
    }

module _ (old mid kept new : Server) (bytes : List ℕ) (over : Bool) (next : ChaCha) (left : ℕ)
    (words : List ℕ) (reply logged : List ℕ) (granted : Option Refreshed)
    (untold : old.fault ≡ None) (six_words : words ≡ six old.words)
    (past_words : next ≡ past_six old.words)
    (one : mid ≡ record old { edge = mid.edge })
    (keep : kept ≡ record mid { repeats = kept_by granted mid.repeats }) where
  -- what the server's edge is given to decide the bytes
  abbrev asking : Asking
  asking = record {
    words = words;
    log_taken = old.log_taken;
    reach = reach_by old.edge.terms old.has_inner old.is_inner;
    now = old.now;
    bytes = bytes;
    over = over;
  }

  -- what the edge decided with these random words is decided with the server's next six
  as_asked : (end : Result Served Fault) → new.edge ≡ mid.edge
      → IsDecided asking old.edge end reply logged mid.edge
      → IsDecided (asking_of old bytes over) old.edge end reply logged new.edge
  as_asked end edge h =
      subst (λ e. IsDecided (asking_of old bytes over) old.edge end reply logged e) (sym edge)
      (subst (λ w. IsDecided (record {
        words = w;
        log_taken = old.log_taken;
        reach = reach_by old.edge.terms old.has_inner old.is_inner;
        now = old.now;
        bytes = bytes;
        over = over;
      }) old.edge end reply logged mid.edge) six_words h)

  -- the request was served
  pub served_ends : (served : Served) (taken : Taken) (outcome : Outcome) (sent : List ℕ)
      → FrontDecides asking old.edge (Ok (Some (served, taken))) reply logged mid.edge
      → MayGrant (asking_of old bytes over) old.edge (Ok served) granted
      → new ≡ record kept {
        words = next;
        left = left;
        fault = None;
        tally =
            tally_with kept (Ok served) taken.path;
      } → outcome ≡ outcome_by old.keeps served taken
      → IsReplied (goes_on outcome) reply sent
      → old.left ≡ left + ended_if (goes_on outcome)
      → Decides old bytes over outcome sent logged new
  served_ends served taken outcome sent h may two is replied counted =
      ends_decides old bytes over old.keeps served taken outcome sent logged new is (record {
        end = Ok served;
        reply = reply;
        told = untold;
        decided =
            as_asked (Ok served)
            (ap (λ (s : Server). s.edge) two ∙ ap (λ (s : Server). s.edge) keep)
            h.1;
        is_outcome = (taken, h.0, is);
        is_sent = replied;
        granted = granted;
        is_granted = may;
        path = taken.path;
        is_named = named_by (asking_of old bytes over) old.edge served taken h.0;
        left = left;
        counted = counted;
        moved = has_moved old mid kept new next left (Ok served) taken.path granted one keep two
            past_words;
      })

  -- the request ended by a fault
  pub fault_ends : (fault : Fault) → granted ≡ None
      → FrontDecides asking old.edge (Err fault) reply logged mid.edge → new
      ≡ record kept
      { words = next; left = left; fault = Some fault; tally = tally_with kept (Err fault) None }
      → old.left ≡ left + 1 → Decides old bytes over Ended [] logged new
  fault_ends fault none h two counted = inl (record {
    end = Err fault;
    reply = reply;
    told = untold;
    decided =
        as_asked (Err fault) (ap (λ (s : Server). s.edge) two ∙ ap (λ (s : Server). s.edge) keep) h;
    is_outcome = refl;
    is_sent = refl;
    granted = granted;
    is_granted = subst (MayGrant (asking_of old bytes over) old.edge (Err fault)) (sym none) tt;
    path = None;
    is_named = tt;
    left = left;
    counted = counted;
    moved = has_moved old mid kept new next left (Err fault) None granted one keep two past_words;
  })

-- no memory: the connection ends, and nothing is changed
pub short_decides : (old : Server) (bytes : List ℕ) (over : Bool) (outcome : Outcome) (new : Server)
    → old.fault ≡ None → FallsShort old outcome new → Decides old bytes over outcome [] [] new
short_decides old bytes over outcome new untold h =
    subst (λ o. Decides old bytes over o [] [] new) (sym h.0) (inl (record {
      end = Err Memory;
      reply = [];
      told = untold;
      decided =
          subst (IsDecided (asking_of old bytes over) old.edge (Err Memory) [] [])
          (sym (ap (λ (s : Server). s.edge) h.1.2)) (short (asking_of old bytes over) old.edge);
      is_outcome = refl;
      is_sent = refl;
      granted = None;
      is_granted = tt;
      path = None;
      is_named = tt;
      left = h.1.0;
      counted = h.1.1;
      moved = moved_same old new (Err Memory) h.1.0 h.1.2;
    }))
  where
    moved_same : (old new : Server) (end : Result Served Fault) (left : ℕ)
        → new ≡ moved_on old end None old.edge None left → new
        ≡ moved_on old end None new.edge None left
    moved_same old new end left is = is
        ∙ ap (λ e. moved_on old end None e None left) (sym (ap (λ (s : Server). s.edge) is))

-- a request that was given a reply again took some bytes, if its connection stays
pub again_some : (old : Server) (bytes : List ℕ) (over : Bool) (outcome : Outcome)
    (reply before after : List ℕ) (taken : Taken) (new : Server)
    → IsAgain old (reach_by old.edge.terms old.has_inner old.is_inner) bytes over reply taken
    → GivesAgain old taken reply outcome before after new → goes_on outcome ≡ true
    → 0 < taken_of outcome
again_some old bytes over outcome reply before after taken new again (inr h) on =
    absurd (clash (sym on ∙ ap goes_on h.1.0))
again_some old bytes over outcome reply before after taken new again (inl h) on =
    let come = again.repeated.came.came in
    subst (λ o. 0 < taken_of o) (sym h.is_outcome)
    (some_taken (reach_by old.edge.terms old.has_inner old.is_inner) bytes
    (Request again.repeated.refresh.request) taken come.takes
    (both_true old.keeps taken.stays (sym (ap goes_on h.is_outcome) ∙ on)))

-- and it took no more than there were
pub again_within : (old : Server) (bytes : List ℕ) (over : Bool) (outcome : Outcome)
    (reply before after : List ℕ) (taken : Taken) (new : Server)
    → IsAgain old (reach_by old.edge.terms old.has_inner old.is_inner) bytes over reply taken
    → GivesAgain old taken reply outcome before after new → taken_of outcome ≤ length bytes
again_within old bytes over outcome reply before after taken new again (inr h) =
    subst (λ o. taken_of o ≤ length bytes) (sym h.1.0) (omega arith)
again_within old bytes over outcome reply before after taken new again (inl h) =
    subst (λ o. taken_of o ≤ length bytes) (sym h.is_outcome) again.repeated.came.came.within

-- the reply to a refresh was given again
pub again_decides : (old : Server) (bytes : List ℕ) (over : Bool) (outcome : Outcome)
    (reply before after : List ℕ) (taken : Taken) (new : Server)
    → old.fault ≡ None
    → IsAgain old (reach_by old.edge.terms old.has_inner old.is_inner) bytes over reply taken
    → GivesAgain old taken reply outcome before after new
    → (replied : List ℕ) × Decides old bytes over outcome replied [] new
    × (after ≡ before ++ replied)
again_decides old bytes over outcome reply before after taken new untold again (inr h) =
    ([], short_decides old bytes over outcome new untold h.1, h.0 ∙ sym (append-nil before))
again_decides old bytes over outcome reply before after taken new untold again (inl h) = (
  h.sent,
  subst (λ o. Decides old bytes over o h.sent [] new) (sym h.is_outcome) (inr (record {
    told = untold;
    on = again.on;
    it = again.it;
    taken = taken;
    reply = reply;
    repeated = again.repeated;
    found = again.found;
    is_outcome = refl;
    is_sent = subst (λ o. IsReplied (goes_on o) reply h.sent) h.is_outcome h.is_sent;
    unlogged = refl;
    left = h.left;
    counted = subst (λ o. old.left ≡ h.left + ended_if (goes_on o)) h.is_outcome h.counted;
    moved = h.moved;
  })),
  h.behind,
)

-- a reply as it is sent over a connection that stays, behind others
pub replied_over : (front reply all new without : List ℕ) (mark : ℕ) (stays : Bool) → stays ≡ true
    → all ≡ front ++ reply → mark ≡ length front
    → IsOpenReply (drop mark all) without → new ≡ take mark all ++ without → (sent : List ℕ)
    × IsReplied stays reply sent × (new ≡ front ++ sent)
replied_over front reply all new without mark stays on is at said replaced =
    let rest : drop mark all ≡ reply = ap (drop mark) is ∙ ap (λ n. drop n (front ++ reply)) at
    ∙ drop-append_seam front reply in
    let first : take mark all ≡ front = ap (take mark) is ∙ ap (λ n. take n (front ++ reply)) at
    ∙ take-append_seam front reply in
    let open_reply : IsReplied true reply without =
    subst (λ l. IsOpenReply l without) rest said in (
      without,
      subst (λ b. IsReplied b reply without) (sym on) open_reply,
      replaced
          ∙ ap (λ l. l ++ without) first,
    )

-- a reply as it is sent over a connection that ends, behind others
pub replied_same : (front reply all : List ℕ) (stays : Bool) → stays ≡ false → all ≡ front ++ reply
    → (sent : List ℕ) × IsReplied stays reply sent × (all ≡ front ++ sent)
replied_same front reply all stays off is =
    (reply, subst (λ b. IsReplied b reply reply) (sym off) refl, is)
