-- Each connection has its own turn, and no reply is held back from one turn to the next. Key
-- results:
--   each_is_own       each connection has its own turn
--   others_stay       the connections at other places stay as they are
--   none_held_after   after a turn no replies are held back, if none were before
use Rattle.std.proofs.Common.{
  ◌≡◌,
  ◌⊎◌,
  ℕ,
  ◌<◌,
  List,
  [],
  ◌∷◌,
  length,
  set,
  get_or,
  inl,
  inr,
  refl,
  sym,
  ap,
  subst,
  ◌∙◌,
}
use Rattle.std.proofs.lemmas.Bool.{cases_eq}
use Rattle.std.proofs.lemmas.List.{get_or-set_same, get_or-set_other, get_or_read_under}
use Rattle.tk_turn.specs.Outcomes.{Decides}
use Rattle.tk_turn.specs.Links.{LinkFields, new_link}
use Rattle.tk_turn.specs.Turns.{AreChangedAt, AreDecidedAt, AreDistinct, EachIsOwn, IsIn, MayDecide}
use Rattle.tk_turn.specs.Turns.{NoneHeld, OthersStay}

-- whether a place is among others
is_in : (k : ℕ) (places : List ℕ) → IsIn k places ⊎ (IsIn k places → ⊥)
is_in k [] = inr (λ e. e)
is_in k (place ∷ places) = either (cases_eq k place) (is_in k places)
  where
    neither : (k ≡ place → ⊥) → (IsIn k places → ⊥) → IsIn k (place ∷ places) → ⊥
    neither a b (inl e) = a e
    neither a b (inr e) = b e

    either : (k ≡ place) ⊎ (k ≡ place → ⊥) → IsIn k places ⊎ (IsIn k places → ⊥)
        → IsIn k (place ∷ places) ⊎ (IsIn k (place ∷ places) → ⊥)
    either (inl e) more = inl (inl e)
    either (inr other) (inl i) = inl (inr i)
    either (inr other) (inr none) = inr (neither other none)

-- the connection at another place is as it was
pub same_elsewhere : {S : Type 0} (decides : Decides S) (places : List ℕ) (old : S)
    (before : List LinkFields) (new : S) (after : List LinkFields) (logged : List ℕ) (k : ℕ)
    → AreDecidedAt decides places old before new after logged → (IsIn k places → ⊥)
    → get_or after k new_link ≡ get_or before k new_link
same_elsewhere decides [] old before new after logged k (a, same, c) none =
    ap (λ (x : List LinkFields). get_or x k new_link) same
same_elsewhere decides (place ∷ places) old before new after logged k
    (one, then, mid, first, rest, short, is_one, made, e, later) none =
    same_elsewhere decides places mid (set before place then) new after rest k later
    (λ i. none (inr i))
    ∙ get_or-set_other before place k then new_link (λ e. none (inl e))

-- a connection without replies held back stays without
stays_none : (change : LinkFields → LinkFields) → ((x : LinkFields) → (change x).held ≡ [])
    → (places : List ℕ) (before after : List LinkFields) (k : ℕ)
    → AreChangedAt change places before after → (get_or before k new_link).held ≡ []
    → (get_or after k new_link).held ≡ []
stays_none change clears [] before after k same none =
    ap (λ (x : List LinkFields). (get_or x k new_link).held) same ∙ none
stays_none change clears (place ∷ places) before after k (one, short, is_one, later) none =
    stays_none change clears places (set before place (change one)) after k later
    (of (cases_eq k place))
  where
    of : (k ≡ place) ⊎ (k ≡ place → ⊥)
        → (get_or (set before place (change one)) k new_link).held ≡ []
    of (inl e) =
        ap (λ (n : ℕ). (get_or (set before place (change one)) n new_link).held) e
        ∙ ap (λ (x : LinkFields). x.held) (get_or-set_same before place (change one) new_link short)
        ∙ clears one
    of (inr other) =
        ap (λ (x : LinkFields). x.held)
        (get_or-set_other before place k (change one) new_link other) ∙ none

-- a connection that is changed has no replies held back
becomes_none : (change : LinkFields → LinkFields) → ((x : LinkFields) → (change x).held ≡ [])
    → (places : List ℕ) (before after : List LinkFields) (k : ℕ)
    → AreChangedAt change places before after → IsIn k places
    → (get_or after k new_link).held ≡ []
becomes_none change clears [] before after k same i = absurd i
becomes_none change clears (place ∷ places) before after k (one, short, is_one, later) (inl e) =
    stays_none change clears places (set before place (change one)) after k later
    (ap (λ (n : ℕ). (get_or (set before place (change one)) n new_link).held) e
    ∙ ap (λ (x : LinkFields). x.held) (get_or-set_same before place (change one) new_link short)
    ∙ clears one)
becomes_none change clears (place ∷ places) before after k (one, short, is_one, later) (inr i) =
    becomes_none change clears places (set before place (change one)) after k later i

-- after a turn no replies are held back, if none were before
pub none_held_after : {S : Type 0} (decides : Decides S) (places : List ℕ) (old : S)
    (before : List LinkFields) (mid : S) (decided : List LinkFields) (logged : List ℕ)
    (change : LinkFields → LinkFields) (after : List LinkFields)
    → ((x : LinkFields) → (change x).held ≡ [])
    → AreDecidedAt decides places old before mid decided logged
    → AreChangedAt change places decided after → NoneHeld before → NoneHeld after
none_held_after decides places old before mid decided logged change after clears made changed none =
    λ k.
    of k (is_in k places)
  where
    of : (k : ℕ) → IsIn k places ⊎ (IsIn k places → ⊥) → (get_or after k new_link).held ≡ []
    of k (inl i) = becomes_none change clears places decided after k changed i
    of k (inr other) =
        stays_none change clears places decided after k changed
        (ap (λ (x : LinkFields). x.held)
        (same_elsewhere decides places old before mid decided logged k made other) ∙ none k)

-- a connection at another place isn't changed
changed_elsewhere : (change : LinkFields → LinkFields) (places : List ℕ)
    (before after : List LinkFields) (k : ℕ) → AreChangedAt change places before after
    → (IsIn k places → ⊥) → get_or after k new_link ≡ get_or before k new_link
changed_elsewhere change [] before after k same none =
    ap (λ (x : List LinkFields). get_or x k new_link) same
changed_elsewhere change (place ∷ places) before after k (one, short, is_one, later) none =
    changed_elsewhere change places (set before place (change one)) after k later
    (λ i. none (inr i))
    ∙ get_or-set_other before place k (change one) new_link (λ e. none (inl e))

-- the connection that was set at a place
set_there : (links : List LinkFields) (place k : ℕ) (x : LinkFields) → k ≡ place
    → place < length links → get_or (set links place x) k new_link ≡ x
set_there links place k x e short =
    ap (λ (n : ℕ). get_or (set links place x) n new_link) e
    ∙ get_or-set_same links place x new_link short

-- the connection at a place
is_there : (links : List LinkFields) (place k : ℕ) (one : LinkFields) → k ≡ place
    → place < length links → one ≡ get_or links place one → one ≡ get_or links k new_link
is_there links place k one e short is_one =
    get_or_read_under links place (length links) one new_link is_one short refl
    ∙ ap (λ (n : ℕ). get_or links n new_link) (sym e)

-- a place among distinct ones isn't the first of them if it is among the others
apart : (place k : ℕ) (places : List ℕ) → (IsIn place places → ⊥) → IsIn k places → k ≡ place → ⊥
apart place k places none i e = none (subst (λ (n : ℕ). IsIn n places) e i)

-- a connection is changed once
changed_once : (change : LinkFields → LinkFields) (places : List ℕ)
    (before after : List LinkFields) (k : ℕ) → AreDistinct places
    → AreChangedAt change places before after → IsIn k places
    → get_or after k new_link ≡ change (get_or before k new_link)
changed_once change [] before after k distinct same i = absurd i
changed_once change (place ∷ places) before after k (none, distinct) (one, short, is_one, later)
    (inl e) =
    changed_elsewhere change places (set before place (change one)) after k later
    (λ i. none (subst (λ (n : ℕ). IsIn n places) e i))
    ∙ set_there before place k (change one) e short
    ∙ ap change (is_there before place k one e short is_one)
changed_once change (place ∷ places) before after k (none, distinct) (one, short, is_one, later)
    (inr i) =
    changed_once change places (set before place (change one)) after k distinct later i
    ∙ ap change
    (get_or-set_other before place k (change one) new_link (apart place k places none i))

-- the decisions of one connection
abbrev Own : {S : Type 0} → Decides S → LinkFields → LinkFields → Type 0
Own {S = S} decides before after =
    (old : S) × (new : S) × (logged : List ℕ) × MayDecide decides old before new after logged

-- a connection's requests are decided once
decided_once : {S : Type 0} (decides : Decides S) (places : List ℕ) (old : S)
    (before : List LinkFields) (new : S) (after : List LinkFields) (logged : List ℕ) (k : ℕ)
    → AreDistinct places → AreDecidedAt decides places old before new after logged → IsIn k places
    → Own decides (get_or before k new_link) (get_or after k new_link)
decided_once decides [] old before new after logged k distinct made i = absurd i
decided_once decides (place ∷ places) old before new after logged k (none, distinct)
    (one, then, mid, first, rest, short, is_one, made, e, later) (inl same) =
    let now : get_or after k new_link ≡ then =
    same_elsewhere decides places mid (set before place then) new after rest k later
    (λ i. none (subst (λ (n : ℕ). IsIn n places) same i))
    ∙ set_there before place k then same short in
    let was : one ≡ get_or before k new_link = is_there before place k one same short is_one in
    subst (λ (x : LinkFields). Own decides x (get_or after k new_link)) was
    (subst (λ (x : LinkFields). Own decides one x) (sym now) (old, mid, first, made))
decided_once decides (place ∷ places) old before new after logged k (none, distinct)
    (one, then, mid, first, rest, short, is_one, made, e, later) (inr i) =
    let was = get_or-set_other before place k then new_link (apart place k places none i) in
    subst (λ (x : LinkFields). Own decides x (get_or after k new_link)) was
    (decided_once decides places mid (set before place then) new after rest k distinct later i)

-- each connection has its own turn
pub each_is_own : {S : Type 0} (decides : Decides S) (places : List ℕ) (old : S)
    (before : List LinkFields) (mid : S) (decided : List LinkFields) (logged : List ℕ)
    (change : LinkFields → LinkFields) (after : List LinkFields) → AreDistinct places
    → AreDecidedAt decides places old before mid decided logged
    → AreChangedAt change places decided after → EachIsOwn decides change places before after
each_is_own decides places old before mid decided logged change after distinct made changed = λ k i.
    let own = decided_once decides places old before mid decided logged k distinct made i in
    record {
      old = own.0;
      new = own.1;
      decided = get_or decided k new_link;
      logged = own.2;
      made = own.3;
      changed = changed_once change places decided after k distinct changed i;
    }

-- the connections at other places stay as they are
pub others_stay : {S : Type 0} (decides : Decides S) (places : List ℕ) (old : S)
    (before : List LinkFields) (mid : S) (decided : List LinkFields) (logged : List ℕ)
    (change : LinkFields → LinkFields) (after : List LinkFields)
    → AreDecidedAt decides places old before mid decided logged
    → AreChangedAt change places decided after → OthersStay places before after
others_stay decides places old before mid decided logged change after made changed = λ k none.
    changed_elsewhere change places decided after k changed none
    ∙ same_elsewhere decides places old before mid decided logged k made none
