-- The last turn of a client. Key results:
--   last_turn-is          the last turn is the greatest of those held, or 0 if there is none
--   last_unique           one number alone is
--   is_set-held, is_set-of
--                         a secret was set exactly if a fact is held that sets it
--   secrets_end, turns_grow   the laws of secrets
use Rattle.std.proofs.Common.{◌≡◌, ◌⊎◌, inl, inr, ℕ, ◌≤◌, ◌<◌, ◌+◌, ◌-◌, max, true}
use Rattle.std.proofs.Common.{List, [], ◌∷◌, Option, Some, None, refl, sym, ap, subst}
use Rattle.std.proofs.Common.{◌∙◌, arith}
use Rattle.std.proofs.Math.Nat.{le-max_left, le-max_right, max-eq_left, max-eq_right}
use Rattle.std.proofs.lemmas.Bool.{false_from_ne_true, cases_Bool, cond-true, cond-false}
use Rattle.std.proofs.lemmas.Bool.{or_cases, and_parts, ltb-true, cases_lt}
use Rattle.std.specs.FinMap as map
use Rattle.std.specs.List.{filter_map, cons_option}
use Rattle.std.specs.Ordering.{eq_by_cmp}
use Rattle.tk_handle.specs.declared.dot.Dot.{Dot}
use Rattle.tk_handle.specs.Dot.{dot_cmp}
use Rattle.tk_fact.specs.declared.body.Body.{Body}
use Rattle.tk_fact.specs.declared.body.Body.TheVariants.{SecretSet}
use Rattle.tk_fact.specs.declared.secret_set.SecretSet as set
use Rattle.tk_store.specs.FactSet.{FactSet, Facts, AllIn}
use Rattle.tk_store.proofs.EntryLaws.{AllIn-entries, Passing, any_fact-held, any_fact-of}
use Rattle.tk_store.proofs.PutLaws.{none_is_not_some, some_injective}
use Rattle.tk_ledger.specs.Bodies.{is_same_dot}
use Rattle.tk_ledger.specs.Laws.{SecretsEnd, TurnsGrow}
use Rattle.tk_ledger.specs.Secrets.{turn_in, max_turn, last_turn, sets, is_set, is_secret_at}
use Rattle.tk_ledger.specs.Secrets.{is_good_secret}
use Rattle.tk_ledger.proofs.SameLaws.{same_dot-itself}

-- ---- the last turn

-- the turns at which facts of a list set a secret of the client
abbrev turns : Dot → Facts → List ℕ
turns client es = filter_map (λ f. turn_in client f.1) es

-- a fact is held that sets a secret of the client at the turn
pub record HasTurn (F : FactSet) (client : Dot) (turn : ℕ) : Type 0 where
  pub dot : Dot
  pub body : Body
  pub held : map.get F dot ≡ Some body
  pub sets : turn_in client body ≡ Some turn

-- no turn that is held is above the number, which is one of them, or 0
pub record IsLast (F : FactSet) (client : Dot) (last : ℕ) : Type 0 where
  pub above : (turn : ℕ) → HasTurn F client turn → turn ≤ last
  pub held : (last ≡ 0) ⊎ HasTurn F client last

-- one more turn, if there is one, doesn't lower the greatest turn
no_less : (o : Option ℕ) (xs : List ℕ) → max_turn xs ≤ max_turn (cons_option o xs)
no_less None xs = omega arith
no_less (Some n) xs = le-max_right n (max_turn xs)

-- a turn that is added to a list is at most the greatest turn
not_above : (o : Option ℕ) (xs : List ℕ) (n : ℕ) → o ≡ Some n
    → n ≤ max_turn (cons_option o xs)
not_above None xs n h = absurd (none_is_not_some n h)
not_above (Some m) xs n h =
    subst (λ (k : ℕ). k ≤ max_turn (m ∷ xs)) (some_injective m n h)
    (le-max_left m (max_turn xs))

-- a turn that a fact of the list sets is at most the greatest turn of the list
above_in : (client : Dot) (es : Facts) (d : Dot) (b : Body) (n : ℕ)
    → map.find dot_cmp d es ≡ Some b → turn_in client b ≡ Some n
    → n ≤ max_turn (turns client es)
above_in client [] d b n at h = absurd (none_is_not_some b at)
above_in client (e ∷ es) d b n at h = elim (cases_Bool (eq_by_cmp dot_cmp d e.0)) [
  | inl here ↦ not_above (turn_in client e.1) (turns client es) n
      (ap (turn_in client) (some_injective e.1 b
      (sym (cond-true (eq_by_cmp dot_cmp d e.0) (Some e.1) (map.find dot_cmp d es) here) ∙ at))
      ∙ h)
  | inr more ↦ chained n (max_turn (turns client es))
      (max_turn (turns client (e ∷ es)))
      (above_in client es d b n
      (sym (cond-false (eq_by_cmp dot_cmp d e.0) (Some e.1) (map.find dot_cmp d es) more) ∙ at) h)
      (no_less (turn_in client e.1) (turns client es))
]
  where
    chained : (a b c : ℕ) → a ≤ b → b ≤ c → a ≤ c
    chained a b c h i = omega (arith, h, i)

-- the greater of two numbers is one of them
max_either : (a b : ℕ) → (max a b ≡ a) ⊎ (max a b ≡ b)
max_either a b = elim (cases_lt a b) [
  | inl less ↦ inr (max-eq_right (below less))
  | inr more ↦ inl (max-eq_left more)
]
  where
    below : a < b → a ≤ b
    below lt = omega (arith, lt)

-- the greatest turn of some held facts is 0, or a held fact has it
held_in : (F : FactSet) (client : Dot) (es : Facts) → AllIn F es
    → (max_turn (turns client es) ≡ 0) ⊎ HasTurn F client (max_turn (turns client es))
held_in F client [] all = inl refl
held_in F client (e ∷ es) all = by (turn_in client e.1) refl (held_in F client es all.1)
  where
    by : (o : Option ℕ) → turn_in client e.1 ≡ o
        → (max_turn (turns client es) ≡ 0) ⊎ HasTurn F client (max_turn (turns client es))
        → (max_turn (cons_option o (turns client es)) ≡ 0)
        ⊎ HasTurn F client (max_turn (cons_option o (turns client es)))
    by None is others = others
    by (Some n) is others = elim (max_either n (max_turn (turns client es))) [
      | inl first ↦ inr (subst (λ (m : ℕ). HasTurn F client m) (sym first)
          (record { dot = e.0; body = e.1; held = all.0; sets = is }))
      | inr rest ↦ elim others [
        | inl none ↦ inl (rest ∙ none)
        | inr some ↦ inr (subst (λ (m : ℕ). HasTurn F client m) (sym rest) some)
      ]
    ]

-- the last turn is the greatest of those held, or 0 if there is none
pub last_turn-is : (F : FactSet) (client : Dot) → IsLast F client (last_turn F client)
unfolding last_turn
last_turn-is F client = record {
  above = λ turn h. above_in client (map.entries F) h.dot h.body turn
      (sym (map.get-entries F h.dot) ∙ h.held) h.sets;
  held = held_in F client (map.entries F) (AllIn-entries F);
}

-- for `last_unique`: one last turn of a client is at most another
reached : (F : FactSet) (client : Dot) (m n : ℕ) → IsLast F client m → IsLast F client n → m ≤ n
reached F client m n i j = elim i.held [
  | inl none ↦ subst (λ (k : ℕ). k ≤ n) (sym none) (omega arith)
  | inr some ↦ j.above m some
]

-- a client has one last turn
pub last_unique : (F : FactSet) (client : Dot) (m n : ℕ) → IsLast F client m → IsLast F client n
    → m ≡ n
last_unique F client m n i j =
    both m n (reached F client m n i j) (reached F client n m j i)
  where
    both : (m n : ℕ) → m ≤ n → n ≤ m → m ≡ n
    both m n h i = omega (arith, h, i)

-- ---- the secrets of a turn

-- a secret that was set, by the test, is set by a fact that is held
pub is_set-held : (F : FactSet) (client : Dot) (turn : ℕ) (digest : List ℕ)
    → is_set F client turn digest ≡ true → Passing (sets client turn digest) F
unfolding is_set
is_set-held F client turn digest h = any_fact-held (sets client turn digest) F h

-- a secret that a fact held sets was set, by the test
pub is_set-of : (F : FactSet) (client : Dot) (turn : ℕ) (digest : List ℕ) (d : Dot) (b : Body)
    → map.get F d ≡ Some b → sets client turn digest (d, b) ≡ true
    → is_set F client turn digest ≡ true
unfolding is_set
is_set-of F client turn digest d b at h = any_fact-of (sets client turn digest) F d b at h

-- ---- laws

-- a fact that sets a secret of the client has its turn
pub has_turn : (F : FactSet) (client d : Dot) (f : set.SecretSet) → map.get F d ≡ Some (SecretSet f)
    → f.client ≡ client → HasTurn F client f.turn
has_turn F client d f at same = record {
  dot = d;
  body = SecretSet f;
  held = at;
  sets = cond-true (is_same_dot f.client client) (Some f.turn) None
      (ap (is_same_dot f.client) (sym same) ∙ same_dot-itself f.client);
}

-- a secret is not good two turns later
pub secrets_end : SecretsEnd
secrets_end F client first digest d f at same later =
    false_from_ne_true (is_good_secret F client first digest)
    (λ good. elim (or_cases (is_secret_at F client first (last_turn F client) digest) _ good) [
      | inl now ↦ past (last_turn F client) f.turn (later (last_turn F client) now) reach
      | inr before ↦
          let p = and_parts _ _ before in
          past_by_one (last_turn F client) f.turn (ltb-true 0 (last_turn F client) p.0)
          (later (last_turn F client - 1) p.1) reach
    ])
  where
    reach : f.turn ≤ last_turn F client
    reach = (last_turn-is F client).above f.turn (has_turn F client d f at same)

    past : (n m : ℕ) → n + 2 ≤ m → m ≤ n → ⊥
    past n m h i = omega (arith, h, i)

    past_by_one : (n m : ℕ) → 0 < n → (n - 1) + 2 ≤ m → m ≤ n → ⊥
    past_by_one n m some h i = omega (arith, some, h, i)

-- last turns grow with facts
pub turns_grow : TurnsGrow
turns_grow F G within client = elim (last_turn-is F client).held [
  | inl none ↦ subst (λ (n : ℕ). n ≤ last_turn G client) (sym none) (omega arith)
  | inr some ↦ (last_turn-is G client).above (last_turn F client) (record {
    dot = some.dot;
    body = some.body;
    held = within some.dot some.body some.held;
    sets = some.sets;
  })
]
