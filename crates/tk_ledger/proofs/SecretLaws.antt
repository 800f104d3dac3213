-- What the table of secrets has is what the set has. Key results:
--   first_found       the first key of a client's span
--   last_listed_is    the turn of the first key of a client is the client's last turn
--   has_secret_is     the table has exactly the secrets that were set
use Rattle.std.proofs.Common.{◌≡◌, inl, inr, ℕ, ◌≤◌, ◌<◌, ◌-◌, true}
use Rattle.std.proofs.Common.{List, ◌∷◌, length, Option, Some, None, refl, sym, ap, subst, ◌∙◌}
use Rattle.std.proofs.Common.{arith, eq-eqb}
use Rattle.std.proofs.lemmas.Bool.{true≢false, and_parts, and_from, eqb-true, cases_Bool, cases_lt}
use Rattle.std.proofs.lemmas.Bool.{cond-true, cond-false}
use Rattle.std.proofs.lemmas.Slice.Eq.{bytes_eq-Decides}
use Rattle.std.specs.BTreeSet.{BTreeSet, contains, keys_between}
use Rattle.std.specs.FinMap as map
use Rattle.std.specs.List.{find}
use Rattle.std.specs.List.Sorted.{IsStrictlySortedBy}
use Rattle.std.specs.Option.{option_and_then}
use Rattle.std.specs.Ordering.{nat_cmp, ordering_then}
use Rattle.std.specs.Cmp.Lexicographic.{slice_cmp}
use Rattle.std.specs.declared.ops.Bound.TheVariants.{Included}
use Rattle.tk_handle.specs.declared.dot.Dot.{Dot}
use Rattle.tk_handle.specs.Dot.{IsDot, dot_cmp}
use Rattle.tk_fact.specs.declared.body.Body.{Body}
use Rattle.tk_fact.specs.declared.body.Body.TheVariants.{SecretSet}
use Rattle.tk_fact.specs.declared.secret_set.SecretSet as set
use Rattle.tk_store.specs.FactSet.{FactSet}
use Rattle.tk_store.proofs.EntryLaws.{Passing}
use Rattle.tk_store.proofs.PutLaws.{none_is_not_some, some_injective}
use Rattle.tk_ledger.specs.Bodies.{is_same_dot}
use Rattle.tk_ledger.specs.SecretTables.{max_key, turns_left, secret_cmp, secret_key}
use Rattle.tk_ledger.specs.SecretTables.{secrets_of, turn_of, last_listed, secrets_at, has_secret}
use Rattle.tk_ledger.specs.SecretTables.{first_of, last_of}
use Rattle.tk_ledger.specs.SecretTables.{secret_in, secret_at, is_left_to, IsSecrets}
use Rattle.tk_ledger.specs.Secrets.{turn_in, last_turn, sets_in, sets, is_set}
use Rattle.tk_ledger.specs.declared.secrets.SecretKey.{SecretKey}
use Rattle.tk_ledger.proofs.KeyLaws.{same_tests}
use Rattle.tk_ledger.proofs.KeySearchLaws.{among, every, some_key, any_key, found_passes}
use Rattle.tk_ledger.proofs.KeySearchLaws.{none_passes, first_least}
use Rattle.tk_ledger.proofs.LastTurnLaws.{HasTurn, IsLast, last_turn-is, last_unique, has_turn}
use Rattle.tk_ledger.proofs.LastTurnLaws.{is_set-held, is_set-of}
use Rattle.tk_ledger.proofs.RootLaws.{from_some}
use Rattle.tk_ledger.proofs.SameLaws.{same_dot-true, same_dot-itself}
use Rattle.tk_ledger.proofs.SecretKeyLaws.{secrets_total, secret_same, client_order, is_of_client}
use Rattle.tk_ledger.proofs.SecretKeyLaws.{in_client, of_client, is_of_secret, in_secret, of_secret}
use Rattle.tk_ledger.proofs.SignOutLaws.{less_is}

-- a body that a secret is found in is the fact that sets it
secret_body : (b : Body) (f : set.SecretSet) → secret_in b ≡ Some f → b ≡ SecretSet f
secret_body (SecretSet x) f h = ap (λ (y : set.SecretSet). SecretSet y) (some_injective x f h)
secret_body body f h = absurd (none_is_not_some f h)

-- the fact of a key that is in the table
record Found (F : FactSet) (c : Dot) (left : ℕ) (g : List ℕ) (d : Dot) : Type 0 where
  pub fact : set.SecretSet
  pub at : map.get F d ≡ Some (SecretSet fact)
  pub client : fact.client ≡ c
  pub left_is : turns_left fact.turn ≡ left
  pub digest : fact.digest ≡ g
  pub early : fact.turn ≤ max_key

-- each key in the table is that of a fact that is held
found : (F : FactSet) (t : BTreeSet SecretKey) (c : Dot) (left : ℕ) (g : List ℕ) (d : Dot)
    → IsSecrets F t → contains secret_cmp t (secret_key c left g d) ≡ true → Found F c left g d
found F t c left g d i h = by (secret_at (map.get F) d) refl (sym (i.listed c left g d) ∙ h)
  where
    by : (o : Option set.SecretSet) → secret_at (map.get F) d ≡ o → is_left_to c left g o ≡ true
        → Found F c left g d
    by None at told = absurd (true≢false (sym told))
    by (Some f) at told =
        let b : (b : Body) × (map.get F d ≡ Some b) × (secret_in b ≡ Some f) =
        from_some secret_in (map.get F d) f at in
        let p = and_parts _ _ told in
        let q = and_parts _ _ p.1 in
        record {
          fact = f;
          at = b.1 ∙ ap (λ (x : Body). Some x) (secret_body b.0 f b.2);
          client = same_dot-true f.client c p.0;
          left_is = eqb-true (turns_left f.turn) left q.0;
          digest = (bytes_eq-Decides f.digest g).0 q.1;
          early = i.early d f at;
        }

-- the key of a fact that is held is in the table
record Listed (F : FactSet) (t : BTreeSet SecretKey) (d : Dot) (f : set.SecretSet) : Type 0 where
  pub at : among secret_cmp (secret_key f.client (turns_left f.turn) f.digest d) t.keys ≡ true
  pub ranged : IsDot d
  pub long : length f.digest ≡ 32
  pub early : f.turn ≤ max_key

-- each fact that sets a secret and is held has its key in the table, and is in range
listed : (F : FactSet) (t : BTreeSet SecretKey) (d : Dot) (f : set.SecretSet) → IsSecrets F t
    → map.get F d ≡ Some (SecretSet f) → Listed F t d f
listed F t d f i here = record {
  at = at;
  ranged = (i.ranged f.client (turns_left f.turn) f.digest d at).0;
  long = (i.ranged f.client (turns_left f.turn) f.digest d at).1;
  early = i.early d f (ap (option_and_then secret_in) here);
}
  where
    at : contains secret_cmp t (secret_key f.client (turns_left f.turn) f.digest d) ≡ true
    at = i.listed f.client (turns_left f.turn) f.digest d
        ∙ ap (λ e. is_left_to f.client (turns_left f.turn) f.digest (option_and_then secret_in e))
        here
        ∙ and_from _ _ (same_dot-itself f.client)
        (and_from _ _ (eq-eqb (turns_left f.turn) (turns_left f.turn) refl)
        ((bytes_eq-Decides f.digest f.digest).1 refl))

-- a turn, from the turns left
turn_back : (turn left : ℕ) → turn ≤ max_key → turns_left turn ≡ left
    → max_key - left ≡ turn
turn_back turn left le h = omega (arith, le, h)

-- ---- the last turn

-- the first of the keys of a client
pub first_found : (t : BTreeSet SecretKey) (client : Dot) (a b e : SecretKey)
    (ks rest : List SecretKey)
    → a ≡ first_of client → b ≡ last_of client
    → ks ≡ keys_between secret_cmp (Included a) (Included b) t → ks ≡ e ∷ rest
    → find every (secrets_of t client) ≡ Some e
first_found t client a b e ks rest first last between at = ap (find every)
    (sym (ap (λ (k : SecretKey). keys_between secret_cmp (Included k) (Included b) t) first
    ∙ ap (λ (k : SecretKey). keys_between secret_cmp (Included (first_of client)) (Included k) t)
    last)
    ∙ sym between ∙ at)

-- the fact that has a turn
record Setting (F : FactSet) (client : Dot) (turn : ℕ) : Type 0 where
  pub dot : Dot
  pub fact : set.SecretSet
  pub at : map.get F dot ≡ Some (SecretSet fact)
  pub client_is : fact.client ≡ client
  pub turn_is : fact.turn ≡ turn

-- a turn of the client is that of a fact that is held
setting : (F : FactSet) (client : Dot) (turn : ℕ) → HasTurn F client turn → Setting F client turn
setting F client turn h = by h.body h.held h.sets
  where
    by : (b : Body) → map.get F h.dot ≡ Some b → turn_in client b ≡ Some turn
        → Setting F client turn
    by (SecretSet f) at sets = elim (cases_Bool (is_same_dot f.client client)) [
      | inl same ↦ record {
        dot = h.dot;
        fact = f;
        at = at;
        client_is = same_dot-true f.client client same;
        turn_is = some_injective f.turn turn
            (sym (cond-true (is_same_dot f.client client) (Some f.turn) None same) ∙ sets);
      }
      | inr apart ↦ absurd (none_is_not_some turn
          (sym (cond-false (is_same_dot f.client client) (Some f.turn) None apart) ∙ sets))
    ]
    by b at sets = absurd (none_is_not_some turn sets)

-- the key of a fact of the client, but for turn 0, is in the client's span
spanned : (F : FactSet) (t : BTreeSet SecretKey) (client : Dot) (turn : ℕ)
    (s : Setting F client turn) → Listed F t s.dot s.fact → 0 < turn
    → is_of_client client
    (secret_key s.fact.client (turns_left s.fact.turn) s.fact.digest s.dot)
    ≡ true
spanned F t client turn s l some =
    ap (λ (c : Dot).
    is_of_client client (secret_key c (turns_left s.fact.turn) s.fact.digest s.dot)) s.client_is
    ∙ in_client client (turns_left s.fact.turn) s.fact.digest s.dot
    (below s.fact.turn (subst (λ (n : ℕ). 0 < n) (sym s.turn_is) some)) l.long l.ranged
  where
    below : (n : ℕ) → 0 < n → turns_left n < max_key
    below n some = omega (arith, some)

-- a client without a key has no turn above 0
none_last : (F : FactSet) (t : BTreeSet SecretKey) (client : Dot) → IsSecrets F t
    → find every (secrets_of t client) ≡ None → IsLast F client 0
none_last F t client i none = record {
  above = λ turn h. elim (cases_lt 0 turn) [
    | inr le ↦ le
    | inl some ↦
        let s = setting F client turn h in
        let l = listed F t s.dot s.fact i s.at in
        absurd (none_passes secret_cmp secrets_total secret_same every (is_of_client client) t.keys
        none (secret_key s.fact.client (turns_left s.fact.turn) s.fact.digest s.dot) l.at
        (spanned F t client turn s l some) refl)
  ];
  held = inl refl;
}

-- the first key of a client has its last turn
first_last : (F : FactSet) (t : BTreeSet SecretKey) (client : Dot) (e : SecretKey) → IsSecrets F t
    → IsStrictlySortedBy secret_cmp t.keys → find every (secrets_of t client) ≡ Some e
    → IsLast F client (max_key - e.left)
first_last F t client e i sorted h = record {
  above = λ turn s. elim (cases_lt (max_key - e.left) turn) [
    | inr le ↦ le
    | inl gt ↦ absurd (no_later turn (setting F client turn s) gt)
  ];
  held = inr (subst (λ (n : ℕ). HasTurn F client n)
      (sym (turn_back its.fact.turn e.left its.early its.left_is))
      (has_turn F client e.place its.fact its.at its.client));
}
  where
    first : (every e ≡ true) × (is_of_client client e ≡ true) × (among secret_cmp e t.keys ≡ true)
    first = found_passes secret_cmp secrets_total secret_same every (is_of_client client) t.keys e h

    itself : e ≡ secret_key client e.left e.digest e.place
    itself = of_client client e first.1

    its : Found F client e.left e.digest e.place
    its = found F t client e.left e.digest e.place i
        (ap (contains secret_cmp t) (sym itself) ∙ first.2)

    before : (turn : ℕ) → turn ≤ max_key → max_key - e.left < turn
        → turns_left turn < e.left
    before turn le gt = omega (arith, le, gt)

    no_later : (turn : ℕ) (s : Setting F client turn) → max_key - e.left < turn → ⊥
    no_later turn s gt =
        let l = listed F t s.dot s.fact i s.at in
        let k = secret_key s.fact.client (turns_left s.fact.turn) s.fact.digest s.dot in
        let later = subst (λ (n : ℕ). max_key - e.left < n) (sym s.turn_is) gt in
        first_least secret_cmp secrets_total secret_same every (is_of_client client) t.keys sorted e
        h k l.at (spanned F t client turn s l (omega (arith, gt))) refl
        (ap (secret_cmp k) itself
        ∙ ap (λ (c : Dot). secret_cmp
        (secret_key c (turns_left s.fact.turn) s.fact.digest s.dot)
        (secret_key client e.left e.digest e.place)) s.client_is
        ∙ client_order client (turns_left s.fact.turn) e.left s.fact.digest e.digest s.dot e.place
        ∙ ap (λ o. ordering_then o
        (ordering_then (slice_cmp nat_cmp s.fact.digest e.digest) (dot_cmp s.dot e.place)))
        (less_is (turns_left s.fact.turn) e.left (before s.fact.turn l.early later)))

-- the turn of the first key of a client is the client's last turn
pub last_listed_is : (F : FactSet) (t : BTreeSet SecretKey) (client : Dot) → IsSecrets F t
    → IsStrictlySortedBy secret_cmp t.keys → last_listed t client ≡ last_turn F client
last_listed_is F t client i sorted =
    last_unique F client (last_listed t client) (last_turn F client)
    (by (find every (secrets_of t client)) refl) (last_turn-is F client)
  where
    by : (o : Option SecretKey) → find every (secrets_of t client) ≡ o
        → IsLast F client (turn_of o)
    by None h = none_last F t client i h
    by (Some e) h = first_last F t client e i sorted h

-- ---- the secrets of a turn

-- two turns that leave as many are equal
turns_same : (m n left : ℕ) → m ≤ max_key → n ≤ max_key → turns_left m ≡ turns_left n
    → m ≡ n
turns_same m n left h i same = omega (arith, h, i, same)

-- the table has exactly the secrets that were set
pub has_secret_is : (F : FactSet) (t : BTreeSet SecretKey) (c : Dot) (turn : ℕ) (g : List ℕ)
    → IsSecrets F t → turn ≤ max_key
    → has_secret t c (turns_left turn) g ≡ is_set F c turn g
has_secret_is F t c turn g i keyed = same_tests (has_secret t c (turns_left turn) g)
    (is_set F c turn g)
    (λ h.
    let e : (e : SecretKey) × (find every (secrets_at t c (turns_left turn) g) ≡ Some e) =
    some_key (secrets_at t c (turns_left turn) g) h in
    let passes = found_passes secret_cmp secrets_total secret_same every
    (is_of_secret c (turns_left turn) g) t.keys e.0 e.1 in
    let its : Found F c (turns_left turn) g e.0.place =
    found F t c (turns_left turn) g e.0.place i
    (ap (contains secret_cmp t) (sym (of_secret c (turns_left turn) g e.0 passes.1)) ∙ passes.2) in
    is_set-of F c turn g e.0.place (SecretSet its.fact) its.at
    (and_from _ _
    (ap (is_same_dot its.fact.client) (sym its.client) ∙ same_dot-itself its.fact.client)
    (and_from _ _
    (eq-eqb its.fact.turn turn
    (turns_same its.fact.turn turn 0 its.early keyed its.left_is))
    ((bytes_eq-Decides its.fact.digest g).1 its.digest))))
    (λ h. any_key (secrets_at t c (turns_left turn) g) (λ none.
    let x : Passing (sets c turn g) F = is_set-held F c turn g h in
    set_none none x.dot x.body x.held x.passes))
  where
    key_is : (c e : Dot) (m n : ℕ) (g h : List ℕ) (d : Dot) → c ≡ e → m ≡ n → g ≡ h
        → secret_key c (turns_left m) g d ≡ secret_key e (turns_left n) h d
    key_is c e m n g h d i j k = λ x. secret_key (i x) (turns_left (j x)) (k x) d

    set_none : find every (secrets_at t c (turns_left turn) g) ≡ None → (d : Dot) (b : Body)
        → map.get F d ≡ Some b → sets_in c turn g b ≡ true → ⊥
    set_none none d (SecretSet f) at told =
        let p = and_parts _ _ told in
        let q = and_parts _ _ p.1 in
        let l = listed F t d f i at in
        let same : secret_key f.client (turns_left f.turn) f.digest d
        ≡ secret_key c (turns_left turn) g d =
        key_is f.client c f.turn turn f.digest g d (same_dot-true f.client c p.0)
        (eqb-true f.turn turn q.0) ((bytes_eq-Decides f.digest g).0 q.1) in
        none_passes secret_cmp secrets_total secret_same every (is_of_secret c (turns_left turn) g)
        t.keys none (secret_key c (turns_left turn) g d)
        (ap (λ (k : SecretKey). among secret_cmp k t.keys) (sym same) ∙ l.at)
        (in_secret c (turns_left turn) g d l.ranged) refl
    set_none none d b at told = true≢false (sym told)
