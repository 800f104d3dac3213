-- What may be repeated over turns. Key results:
--   none_repeated    no request
--   one_granted      a request that was a refresh, perhaps
--   repeated_both    requests, one after the other
--   found_parts      a refresh that was found is one that is kept, and is repeated
--   granted_done     a request that was granted what it asked for
--   forgets          what is left is of what was kept
use Rattle.std.proofs.Common.{◌≡◌, ℕ, ◌&&◌, Bool, true, false, List, [], ◌∷◌, ◌++◌, length, drop}
use Rattle.std.proofs.Common.{Option, Some, None, Result, Ok, inl, inr, refl, sym, ap, subst, ◌∙◌}
use Rattle.std.proofs.Common.{arith}
use Rattle.std.specs.Prelude.{◌<◌, find, nat_lt, slice_index_or}
use Rattle.std.proofs.lemmas.Bool.{cases_Bool, cond-true, cond-false}
use Rattle.tk_handle.specs.declared.dot.Dot.{Dot}
use Rattle.tk_ledger.specs.Bodies.{is_same_dot}
use Rattle.tk_edge.specs.declared.edge.Served.{Served}
use Rattle.tk_edge.specs.declared.edge.Served.TheVariants.{Done, Nothing}
use Rattle.tk_edge.specs.declared.front.Taken.{Taken}
use Rattle.tk_edge.specs.declared.path.Path.{Path}
use Rattle.tk_edge.specs.declared.reach.Reach.{Reach}
use Rattle.tk_edge.specs.declared.tell.Fault.{Fault}
use Rattle.tk_grant.specs.Repeat.{is_again}
use Rattle.tk_message.specs.RequestFields.{RequestFields}
use Rattle.tk_message.specs.declared.status_code.StatusCode.{StatusCode}
use Rattle.tk_message.specs.declared.status_code.StatusCode.TheVariants as code
use Rattle.tk_turn.specs.Outcomes.{goes_on}
use Rattle.tk_turn.specs.declared.service.Outcome.{Outcome}
use Rattle.tokend.specs.Decisions.{kept_by, outcome_by}
use Rattle.tokend.specs.Repeating.{is_granted, is_ok}
use Rattle.tokend.specs.Repeats.{IsIn, MayRepeat, RepeatsFields, Repetition, forgotten, is_recent}
use Rattle.tokend.specs.Repeats.{is_repeat, max_kept, with_granted, with_room}
use Rattle.tokend.specs.Turns.{AreAmong, AreRepeated, AreRepeats, Endings, all_granted}
use Rattle.tokend.specs.declared.repeats.Refreshed.{Refreshed}
use Rattle.tk_handle.proofs.TestLaws.{and_first}
use Rattle.tk_handle.proofs.TestLaws.{and_second}

-- ---- tests

-- a refresh that is repeated was granted a short time ago
pub recent_by : (seconds now : ℕ) (parent : Dot) (request : RequestFields) (it : Refreshed)
    → is_repeat seconds now parent request it ≡ true → is_recent seconds now it ≡ true
recent_by seconds now parent request it h =
    and_first (is_recent seconds now it) (is_again it.request request)
    (and_second (is_same_dot it.parent parent)
    (is_recent seconds now it && is_again it.request request) h)

-- a request that repeats a refresh is its request again
pub again_by : (seconds now : ℕ) (parent : Dot) (request : RequestFields) (it : Refreshed)
    → is_repeat seconds now parent request it ≡ true → is_again it.request request ≡ true
again_by seconds now parent request it h =
    and_second (is_recent seconds now it) (is_again it.request request)
    (and_second (is_same_dot it.parent parent)
    (is_recent seconds now it && is_again it.request request) h)

-- a connection stays behind a reply that is given again only if its request lets it
pub stays_taken : (keeps : Bool) (taken : Taken) (outcome : Outcome)
    → outcome ≡ outcome_by keeps (Done code.Ok) taken → goes_on outcome ≡ true → taken.stays ≡ true
stays_taken keeps taken outcome is on = and_second keeps taken.stays (sym (ap goes_on is) ∙ on)

-- a connection that may not stay goes no further after a repeated reply
pub closes_taken : (keeps : Bool) (taken : Taken) (outcome : Outcome)
    → outcome ≡ outcome_by keeps (Done code.Ok) taken → keeps ≡ false → goes_on outcome ≡ false
closes_taken keeps taken outcome is off = ap goes_on is ∙ ap (λ b. b && taken.stays) off

-- ---- what was granted

-- a test that fails doesn't hold
wrong_status : false ≡ true → ⊥
wrong_status e = cc

-- a status that passes the test for 200 is 200
ok_status : (status : StatusCode) → is_ok status ≡ true → status ≡ code.Ok
ok_status code.Ok h = refl
ok_status code.Created h = absurd (wrong_status h)
ok_status code.Found h = absurd (wrong_status h)
ok_status code.BadRequest h = absurd (wrong_status h)
ok_status code.Unauthorized h = absurd (wrong_status h)
ok_status code.NotFound h = absurd (wrong_status h)
ok_status code.MethodNotAllowed h = absurd (wrong_status h)
ok_status code.Conflict h = absurd (wrong_status h)
ok_status code.LengthRequired h = absurd (wrong_status h)
ok_status code.ContentTooLarge h = absurd (wrong_status h)
ok_status code.ServiceUnavailable h = absurd (wrong_status h)

-- a grant is a reply with status 200
pub granted_done : (served : Served) → is_granted served ≡ true → served ≡ Done code.Ok
granted_done Nothing h = absurd (wrong_status h)
granted_done (Done status) h = ap (λ (s : StatusCode). Done s) (ok_status status h)

-- ---- lists of refreshes

-- refreshes among others stay so with a granted one added to both
among_more : (o : Option Refreshed) (k l : List Refreshed) → AreAmong k l
    → AreAmong (with_granted o k) (with_granted o l)
among_more None k l h it is = h it is
among_more (Some x) k l h it (inl same) = inl same
among_more (Some x) k l h it (inr rest) = inr (h it rest)

-- refreshes among others stay so with all that connections were granted added to both
granted_more : (k l : List Refreshed) (ends : Endings) → AreAmong k l
    → AreAmong (all_granted k ends) (all_granted l ends)
granted_more k l [] h = h
granted_more k l (e ∷ es) h = granted_more (with_granted e.granted k) (with_granted e.granted l) es
    (among_more e.granted k l h)

-- what two lists of connections were granted is added in their order
granted_both : (k : List Refreshed) (xs ys : Endings)
    → all_granted k (xs ++ ys) ≡ all_granted (all_granted k xs) ys
granted_both k [] ys = refl
granted_both k (x ∷ xs) ys = granted_both (with_granted x.granted k) xs ys

-- a refresh in a list without its first is in the list
in_drop : (x : Refreshed) (k : List Refreshed) → IsIn x (drop 1 k) → IsIn x k
in_drop x [] is = is
in_drop x (y ∷ ys) is = inr is

-- a refresh that is left when room is made was there before
in_room : (x : Refreshed) (k : List Refreshed) → IsIn x (with_room k) → IsIn x k
in_room x k is = elim (cases_Bool (nat_lt (length k) max_kept)) [
  | inl few ↦ subst (IsIn x) (cond-true (nat_lt (length k) max_kept) k (drop 1 k) few) is
  | inr many ↦
      in_drop x k (subst (IsIn x) (cond-false (nat_lt (length k) max_kept) k (drop 1 k) many) is)
]

-- a refresh in a list with one more at its end is in it with that one in front
in_behind : (x it : Refreshed) (k : List Refreshed) → IsIn x (k ++ it ∷ []) → IsIn x (it ∷ k)
in_behind x it [] is = is
in_behind x it (y ∷ ys) (inl same) = inr (inl same)
in_behind x it (y ∷ ys) (inr rest) = swapped (in_behind x it ys rest)
  where
    swapped : IsIn x (it ∷ ys) → IsIn x (it ∷ y ∷ ys)
    swapped (inl same) = inl same
    swapped (inr more) = inr (inr more)

-- a refresh that is kept once room is made for a new one was kept before, or is the new one
in_kept : (x it : Refreshed) (k : List Refreshed) → IsIn x (it ∷ with_room k) → IsIn x (it ∷ k)
in_kept x it k (inl same) = inl same
in_kept x it k (inr rest) = inr (in_room x k rest)

-- a refresh that is there isn't missing
none_some : (it : Refreshed) → None ≡ Some it → ⊥
none_some it e = cc

-- refreshes that are equal as options are equal
same_some : (x it : Refreshed) → Some x ≡ Some it → x ≡ it
same_some x it e = cc

-- what is found in a list is in it, and passes the test
pub found_parts : (p : Refreshed → Bool) (k : List Refreshed) (it : Refreshed) → find p k ≡ Some it
    → IsIn it k × (p it ≡ true)
found_parts p [] it h = absurd (none_some it h)
found_parts p (x ∷ xs) it h = elim (cases_Bool (p x)) [
  | inl holds ↦
      let same : x ≡ it = same_some x it (sym (cond-true (p x) (Some x) (find p xs) holds) ∙ h) in
      (inl same, subst (λ y. p y ≡ true) same holds)
  | inr fails ↦
      let rest = found_parts p xs it (sym (cond-false (p x) (Some x) (find p xs) fails) ∙ h) in
      (inr rest.0, rest.1)
]

-- what is left of refreshes that are forgotten was among them
pub forgets : (seconds now : ℕ) (k : List Refreshed) → AreAmong (forgotten seconds now k) k
forgets seconds now [] it is = is
forgets seconds now (x ∷ xs) it is = elim (cases_Bool (is_recent seconds now x)) [
  | inl holds ↦ subst (IsIn it)
      (cond-true (is_recent seconds now x) (x ∷ xs) (forgotten seconds now xs) holds) is
  | inr fails ↦ inr
      (forgets seconds now xs it
      (subst (IsIn it)
      (cond-false (is_recent seconds now x) (x ∷ xs) (forgotten seconds now xs) fails) is))
]

-- the oldest one goes, if it wasn't granted lately
pub forgotten_first : (seconds now : ℕ) (x : Refreshed) (k : List Refreshed)
    → x ≡ slice_index_or k 0 x → 0 < length k → is_recent seconds now x ≡ false
    → forgotten seconds now (drop 1 k) ≡ forgotten seconds now k
forgotten_first seconds now x [] at some old = absurd (omega (arith, some))
forgotten_first seconds now x (y ∷ ys) at some old =
    sym (cond-false (is_recent seconds now y) (y ∷ ys) (forgotten seconds now ys)
    (sym (ap (is_recent seconds now) at) ∙ old))

-- none goes, if the oldest one was granted lately
pub forgotten_none : (seconds now : ℕ) (x : Refreshed) (k : List Refreshed)
    → x ≡ slice_index_or k 0 x → 0 < length k → is_recent seconds now x ≡ true
    → forgotten seconds now k ≡ k
forgotten_none seconds now x [] at some lately = absurd (omega (arith, some))
forgotten_none seconds now x (y ∷ ys) at some lately =
    cond-true (is_recent seconds now y) (y ∷ ys) (forgotten seconds now ys)
    (sym (ap (is_recent seconds now) at) ∙ lately)

-- of no refreshes none is forgotten
pub forgotten_empty : (seconds now : ℕ) (k : List Refreshed) → length k ≡ 0
    → forgotten seconds now k ≡ k
forgotten_empty seconds now [] none = refl
forgotten_empty seconds now (y ∷ ys) none = absurd (omega (arith, none))

-- ---- requests

-- what may be repeated of some refreshes may be of more
may_more : (seconds : ℕ) (k l : List Refreshed) (o : Option Repetition) → AreAmong k l
    → MayRepeat seconds k o → MayRepeat seconds l o
may_more seconds k l None h m = m
may_more seconds k l (Some it) h m = (m.0, h it.refreshed m.1, m.2)

-- requests that repeat some refreshes repeat some of more
repeats_more : (seconds : ℕ) (k l : List Refreshed) (ends : Endings) → AreAmong k l
    → AreRepeats seconds k ends → AreRepeats seconds l ends
repeats_more seconds k l [] h r = r
repeats_more seconds k l (e ∷ es) h r = (
  may_more seconds k l e.again h r.0,
  repeats_more seconds (with_granted e.granted k) (with_granted e.granted l) es
      (among_more e.granted k l h) r.1,
)

-- two lists of requests that repeat what may be repeated do so one behind the other
repeats_both : (seconds : ℕ) (k m : List Refreshed) (xs ys : Endings)
    → AreAmong m (all_granted k xs) → AreRepeats seconds k xs → AreRepeats seconds m ys
    → AreRepeats seconds k (xs ++ ys)
repeats_both seconds k m [] ys among x y = repeats_more seconds m k ys among y
repeats_both seconds k m (e ∷ es) ys among x y =
    (x.0, repeats_both seconds (with_granted e.granted k) m es ys among x.1 y)

-- no connection repeats nothing
pub none_repeated : (repeats : RepeatsFields) → AreRepeated repeats [] repeats
none_repeated repeats = record { seconds = refl; each = tt; kept = λ _ is. is }

-- a connection that was granted a refresh leaves it to be repeated
pub one_granted : (end : Result Served Fault) (stays : Bool) (reach : Reach) (path : Option Path)
    (now : ℕ) (granted : Option Refreshed) (repeats : RepeatsFields)
    → AreRepeated repeats
    (record {
      end = end;
      stays = stays;
      reach = reach;
      path = path;
      now = now;
      granted = granted;
      again = None;
    }
    ∷ []) (kept_by granted repeats)
one_granted end stays reach path now None repeats =
    record { seconds = refl; each = (tt, tt); kept = λ _ is. is }
one_granted end stays reach path now (Some it) repeats = record {
  seconds = refl;
  each = (tt, tt);
  kept = λ x is. in_kept x it repeats.kept (in_behind x it (with_room repeats.kept) is);
}

-- connections one after the other leave what the last of them leave
pub repeated_both : (old mid new : RepeatsFields) (xs ys : Endings) → AreRepeated old xs mid
    → AreRepeated mid ys new → AreRepeated old (xs ++ ys) new
repeated_both old mid new xs ys h k = record {
  seconds = k.seconds ∙ h.seconds;
  each = repeats_both old.seconds old.kept mid.kept xs ys h.kept h.each
      (subst (λ s. AreRepeats s mid.kept ys) h.seconds k.each);
  kept = λ it is. subst (IsIn it) (sym (granted_both old.kept xs ys))
      (granted_more mid.kept (all_granted old.kept xs) ys h.kept it (k.kept it is));
}
