-- Slices of a prune. Key results:
--   first_looked, more_looked      the facts of a slice are looked at, one after the other
--   end_looked, all_looked         what a slice has done at its end
use Rattle.std.proofs.Common.{map as map_list, ◌≡◌, ◌≢◌, ◌⊎◌, inl, inr, ℕ, zero, suc, ◌<◌, ◌≤◌, ◌+◌}
use Rattle.std.proofs.Common.{◌-◌, Bool, true, false, not, cond, T, List, [], ◌∷◌, ◌++◌, length}
use Rattle.std.proofs.Common.{length-append, filter, slice_get, Option, Some, None, refl, sym, ap}
use Rattle.std.proofs.Common.{subst, ◌∙◌, arith}
use Rattle.std.proofs.lemmas.Bool.{true≢false, cases_Bool, and_cases, and_parts}
use Rattle.std.proofs.lemmas.Bool.Decides.{nat_tests}
use Rattle.std.proofs.lemmas.Cmp.{tied_itself}
use Rattle.std.specs.Option.{option_and_then}
use Rattle.std.specs.Ordering.{eq_by_cmp, is_eq, is_lt}
use Rattle.std.specs.FinMap as map
use Rattle.std.specs.FinMap.Entries.{where_key, is_sorted-where_key, find-where_key}
use Rattle.tk_handle.specs.declared.dot.Dot.{Dot}
use Rattle.tk_handle.specs.Dot.{dot_cmp, dot_cmp_total, dot_cmp-IsAntisymmetric}
use Rattle.tk_family.proofs.DotLaws.{cases_dots}
use Rattle.tk_fact.specs.declared.body.Body.{Body}
use Rattle.tk_store.specs.FactSet.{FactSet, Facts}
use Rattle.tk_store.specs.Slots.{Skipped, held_slot}
use Rattle.tk_store.specs.StoreFields.{StoreFields, held_facts, with_skipped}
use Rattle.tk_store.specs.Walk.{is_above, above}
use Rattle.tk_store.proofs.FactSetLaws.{same_set}
use Rattle.tk_handle.proofs.TestLaws.{some_none, tied}
use Rattle.tk_store.proofs.PutLaws.{by_dot, get_here}
use Rattle.tk_store.proofs.SlotLaws.{get_held}
use Rattle.tk_store.proofs.WalkLaws.{goes_on, at_end}
use Rattle.tk_ledger.specs.Slices.{Goes, SkipsIf, Steps, Went, Stays, is_past, next_cursor}
use Rattle.tk_ledger.specs.Slices.{LooksOver}

-- ---- what is above a cursor

-- the facts above a cursor are those at dots past it
past_is : (a : Option Dot) (es : Facts) → filter (is_above a) es ≡ where_key dot_cmp (is_past a) es
past_is None es = refl
past_is (Some e) es = refl

-- the facts above a cursor are sorted by their dots
sorted_above : (F : FactSet) (a : Option Dot) → T (map.is_sorted dot_cmp (above F a))
sorted_above F a = subst (λ (es : Facts). T (map.is_sorted dot_cmp es))
    (sym (past_is a (map.entries F)))
    (is_sorted-where_key dot_cmp (is_past a) (map.entries F) (map.entries_sorted F))

-- what is found among the facts above a cursor
find_above : (F : FactSet) (a : Option Dot) (q : Dot)
    → map.find dot_cmp q (above F a) ≡ cond (is_past a q) (map.get F q) None
find_above F a q =
    ap (map.find dot_cmp q) (past_is a (map.entries F))
    ∙ find-where_key dot_cmp (is_past a) q
    (λ x same. ap (is_past a) (sym (dot_cmp-IsAntisymmetric q x same))) (map.entries F)
    ∙ ap (λ o. cond (is_past a q) o None) (sym (map.get-entries F q))

-- the facts above a cursor, as a set
abbrev set_above : FactSet → Option Dot → FactSet
set_above F a = map.from_sorted (above F a)

-- the facts above a cursor have those of the set at the dots past it, and no others
get_above : (F : FactSet) (a : Option Dot) (q : Dot)
    → map.get (set_above F a) q ≡ cond (is_past a q) (map.get F q) None
get_above F a q = map.get-from_sorted dot_cmp (above F a) q (sorted_above F a) ∙ find_above F a q

-- two sets with the same facts above a cursor
above_same : (F G : FactSet) (a : Option Dot)
    → ((q : Dot) → is_past a q ≡ true → map.get F q ≡ map.get G q) → above F a ≡ above G a
above_same F G a same =
    sym (map.entries-from_sorted dot_cmp (above F a) (sorted_above F a))
    ∙ ap map.entries
    (same_set (set_above F a) (set_above G a)
    (λ q. get_above F a q ∙ by_test q (is_past a q) refl ∙ sym (get_above G a q)))
    ∙ map.entries-from_sorted dot_cmp (above G a) (sorted_above G a)
  where
    by_test : (q : Dot) (t : Bool) → is_past a q ≡ t
        → cond t (map.get F q) None ≡ cond t (map.get G q) None
    by_test q true is = same q is
    by_test q false is = refl

-- a test holds if an option that depends on it has a value
some_of_cond : {A : Type 0} (t : Bool) (o : Option A) → cond t o None ≢ None → t ≡ true
some_of_cond true o some = refl
some_of_cond false o some = absurd (some refl)

-- the first fact above a cursor is past it
first_past : (F : FactSet) (a : Option Dot) (f : Dot × Body) → slice_get (above F a) 0 ≡ Some f
    → is_past a f.0 ≡ true
first_past F a f first =
    some_of_cond (is_past a f.0) (map.get F f.0) (λ none. some_none f.1 (sym found ∙ none))
  where
    found : cond (is_past a f.0) (map.get F f.0) None ≡ Some f.1
    found =
        sym (find_above F a f.0) ∙ ap (map.find dot_cmp f.0) (goes_on F a f first)
        ∙ ap (λ o. cond (is_eq o) (Some f.1) (map.find dot_cmp f.0 (above F (Some f.0))))
        (tied_itself dot_cmp_total f.0)

-- a fact past a cursor is the first one, or past that
first_least : (F : FactSet) (a : Option Dot) (f : Dot × Body) (q : Dot)
    → slice_get (above F a) 0 ≡ Some f → is_past a q ≡ true → map.get F q ≢ None
    → (q ≡ f.0) ⊎ (is_past (Some f.0) q ≡ true)
first_least F a f q first past held = by_tie (eq_by_cmp dot_cmp q f.0) refl
  where
    found : map.find dot_cmp q (f ∷ above F (Some f.0)) ≢ None
    found none = held
        (sym (ap (λ t. cond t (map.get F q) None) past) ∙ sym (find_above F a q)
        ∙ ap (map.find dot_cmp q) (goes_on F a f first) ∙ none)

    by_tie : (t : Bool) → eq_by_cmp dot_cmp q f.0 ≡ t → (q ≡ f.0) ⊎ (is_past (Some f.0) q ≡ true)
    by_tie true same = inl (tied q f.0 same)
    by_tie false apart = inr
        (some_of_cond (is_past (Some f.0) q) (map.get F q)
        (λ none. found
        (ap (λ t. cond t (Some f.1) (map.find dot_cmp q (above F (Some f.0)))) apart
        ∙ find_above F (Some f.0) q ∙ none)))

-- if there is no first fact above a cursor, no fact is past it
none_past : (F : FactSet) (a : Option Dot) (q : Dot) → slice_get (above F a) 0 ≡ None
    → is_past a q ≡ true → map.get F q ≡ None
none_past F a q none past =
    sym (ap (λ t. cond t (map.get F q) None) past) ∙ sym (find_above F a q)
    ∙ ap (map.find dot_cmp q) (at_end F a none)

-- a dot past one that is past a cursor is past the cursor
past_on : (a : Option Dot) (d q : Dot) → is_past a d ≡ true → is_past (Some d) q ≡ true
    → is_past a q ≡ true
past_on None d q h k = refl
past_on (Some e) d q h k = lt_on e d q h k
  where
    lt_on : (e d q : Dot) → is_lt (dot_cmp e d) ≡ true → is_lt (dot_cmp d q) ≡ true
        → is_lt (dot_cmp e q) ≡ true
    lt_on e d q h k = grind (arith, nat_tests)

-- a dot past another is not that dot
not_past_itself : (d q : Dot) → is_past (Some d) q ≡ true → q ≢ d
not_past_itself d q past same = true≢false
    (sym past ∙ ap (λ (x : Dot). is_lt (dot_cmp d x)) same ∙ ap is_lt (tied_itself dot_cmp_total d))

-- ---- facts that went

-- one more fact went, behind the others
steps_more : (P Q : StoreFields) (ds : List Dot) (d : Dot) → Steps P ds Q → Goes Q d
    → Steps P (ds ++ d ∷ []) (with_skipped Q d)
steps_more P Q [] d is go =
    (subst (λ (R : StoreFields). Goes R d) is go, ap (λ (R : StoreFields). with_skipped R d) is)
steps_more P Q (e ∷ ds) d steps go = (steps.0, steps_more (with_skipped P e) Q ds d steps.1 go)

-- at first no fact went
went_none : (P : StoreFields) → Went P 0 P
went_none P = record { dots = []; steps = refl; count = refl }

-- one more fact went, and is counted
went_more : (P Q : StoreFields) (n : ℕ) (d : Dot) → Went P n Q → Goes Q d
    → Went P (n + 1) (with_skipped Q d)
went_more P Q n d went go = record {
  dots = went.dots ++ d ∷ [];
  steps = steps_more P Q went.dots d went.steps go;
  count = length-append went.dots (d ∷ []) ∙ (let c = went.count in omega (arith, c));
}

-- nothing went
pub went_same : (P Q : StoreFields) → Went P 0 Q → Q ≡ P
went_same P Q went = by went.dots went.steps went.count
  where
    by : (ds : List Dot) → Steps P ds Q → length ds ≡ 0 → Q ≡ P
    by [] steps none = steps
    by (d ∷ ds) steps none = absurd (omega (arith, none))

-- a fact that may not go when it is looked at stays
stays_here : (P Q : StoreFields) (n : ℕ) (d : Dot) → Went P n Q → (Goes Q d → ⊥) → Stays P n Q d
stays_here P Q n d went stays = record {
  before = n;
  after = 0;
  seen = Q;
  first = went;
  rest = went_none Q;
  all = omega arith;
  stays = stays;
}

-- a fact that stays still stays when another goes
stays_more : (P Q : StoreFields) (n : ℕ) (d e : Dot) → Stays P n Q d → Goes Q e
    → Stays P (n + 1) (with_skipped Q e) d
stays_more P Q n d e s go = record {
  before = s.before;
  after = s.after + 1;
  seen = s.seen;
  first = s.first;
  rest = went_more s.seen Q s.after e s.rest go;
  all = (let a = s.all in omega (arith, a));
  stays = s.stays;
}

-- a test whose opposite is false is true
pub turned : (t : Bool) → not t ≡ false → t ≡ true
turned true h = refl
turned false h = absurd (true≢false h)

-- a test whose opposite is true is false
turned_back : (t : Bool) → not t ≡ true → t ≡ false
turned_back true h = absurd (true≢false (sym h))
turned_back false h = refl

-- ---- some of the facts were looked at

-- `turn` of `count` facts of P were looked at, up to a cursor, and the store is Q
pub record Looked (P : StoreFields) (after : Option Dot) (count turn : ℕ) (at : Option Dot)
    (gone : ℕ) (Q : StoreFields) : Type 0 where
  pub went : Went P gone Q
  pub most : gone ≤ turn
  pub began : at ≡ None → turn ≡ 0
  pub cursor : next_cursor (held_facts Q) at (count - turn) ≡ next_cursor (held_facts P) after count
  pub on : (q : Dot) → is_past at q ≡ true → is_past after q ≡ true
  pub ahead : (q : Dot) → is_past at q ≡ true → map.get Q.slots q ≡ map.get P.slots q
  pub behind : (q : Dot) → is_past after q ≡ false → map.get Q.slots q ≡ map.get P.slots q
  pub left : (q : Dot) → is_past after q ≡ true → is_past at q ≡ false
      → map.get (held_facts Q) q ≢ None → Stays P gone Q q

-- at the beginning of a slice no fact was looked at
pub first_looked : (P : StoreFields) (after : Option Dot) (count : ℕ)
    → Looked P after count 0 after 0 P
first_looked P after count = record {
  went = went_none P;
  most = omega arith;
  began = λ _. refl;
  cursor = ap (next_cursor (held_facts P) after) (omega arith);
  on = λ q past. past;
  ahead = λ q past. refl;
  behind = λ q low. refl;
  left = λ q past low held. absurd (true≢false (sym past ∙ low));
}

-- a skip leaves the slots at other dots
slot_other : (Q : StoreFields) (d q : Dot) → q ≢ d
    → map.get (with_skipped Q d).slots q ≡ map.get Q.slots q
slot_other Q d q ne =
    by_dot (λ o. o ≡ map.get Q.slots q) Q.slots d Skipped q (λ same. absurd (ne same)) refl

-- a dot that was skipped has no fact
held_here : (Q : StoreFields) (d : Dot) → map.get (held_facts (with_skipped Q d)) d ≡ None
held_here Q d = get_held (with_skipped Q d).slots d ∙ ap held_slot (get_here Q.slots d Skipped)

-- a skip leaves the facts at other dots
held_other : (Q : StoreFields) (d q : Dot) → q ≢ d
    → map.get (held_facts (with_skipped Q d)) q ≡ map.get (held_facts Q) q
held_other Q d q ne = get_held (with_skipped Q d).slots q ∙ ap held_slot (slot_other Q d q ne)
    ∙ sym (get_held Q.slots q)

-- ---- one fact more

-- how many facts are gone, with one more fact that goes or stays
abbrev pub gone_with : ℕ → Bool → ℕ
gone_with n true = n + 1
gone_with n false = n

module _ (P : StoreFields) (after : Option Dot) (count turn : ℕ) (at : Option Dot) (gone : ℕ)
    (Q : StoreFields) (L : Looked P after count turn at gone Q) where
  -- above the last fact there is no next cursor
  past_end : (m : ℕ) → 0 < m → above (held_facts Q) at ≡ [] → next_cursor (held_facts Q) at m ≡ None
  past_end zero low end = absurd (omega (arith, low))
  past_end (suc m) low end = ap (λ (es : Facts).
      option_and_then (λ (c : Option Dot). c)
      (slice_get (map_list (λ (f : Dot × Body). Some f.0) es) m)) end

  -- no fact is above the cursor
  pub end_looked : slice_get (above (held_facts Q) at) 0 ≡ None → turn < count
      → LooksOver P after count (record { at = None; gone = gone }) Q
  end_looked none more = record {
    went = L.went;
    most = (let m = L.most in omega (arith, m, more));
    cursor = sym (past_end (count - turn) (omega (arith, more)) (at_end (held_facts Q) at none))
        ∙ L.cursor;
    outside = L.behind;
    left = λ some q past held. elim (cases_Bool (is_past at q)) [
      | inl up ↦ absurd (held (none_past (held_facts Q) at q none up))
      | inr low ↦ L.left q past low held
    ];
  }

  -- all facts of the slice were looked at
  pub all_looked : count ≤ turn → turn ≤ count
      → LooksOver P after count (record { at = at; gone = gone }) Q
  all_looked full low = by at refl
    where
      here : at ≡ next_cursor (held_facts P) after count
      here = ap (next_cursor (held_facts Q) at) {x = 0} {y = count - turn} (omega (arith, full))
          ∙ L.cursor

      by : (o : Option Dot) → at ≡ o → LooksOver P after count (record { at = at; gone = gone }) Q
      by None is = subst (λ (x : Option Dot).
          LooksOver P after count (record { at = x; gone = gone }) Q) (sym is) (record {
            went = L.went;
            most = (let m = L.most in omega (arith, m, low));
            cursor = sym is ∙ here;
            outside = L.behind;
            left =
                λ some q past held.
                (let none = L.began is in absurd (omega (arith, none, some, full)));
          })
      by (Some e) is = subst (λ (x : Option Dot).
          LooksOver P after count (record { at = x; gone = gone }) Q) (sym is) (record {
            went = L.went;
            most = (let m = L.most in omega (arith, m, low));
            cursor = sym is ∙ here;
            outside = λ q out. elim (and_cases (is_past after q) (not (is_past (Some e) q)) out) [
              | inl below ↦ L.behind q below
              | inr high ↦
                  L.ahead q
                  (ap (λ (o : Option Dot). is_past o q) is ∙ turned (is_past (Some e) q) high)
            ];
            left = λ some q between held.
                (let both = and_parts (is_past after q) (not (is_past (Some e) q)) between in
                L.left q both.0
                (ap (λ (o : Option Dot). is_past o q) is ∙ turned_back (is_past (Some e) q) both.1)
                held);
          })

  -- ---- one fact more

  module _ (f : Dot × Body) (first : slice_get (above (held_facts Q) at) 0 ≡ Some f)
      (more : turn < count) where
    -- what is past the next fact is past the cursor
    up : (q : Dot) → is_past (Some f.0) q ≡ true → is_past at q ≡ true
    up q past = past_on at f.0 q (first_past (held_facts Q) at f first) past

    -- the cursor moves on by one fact
    moves : next_cursor (held_facts Q) (Some f.0) (count - (turn + 1))
        ≡ next_cursor (held_facts P) after count
    moves =
        ap (λ (es : Facts).
        option_and_then (λ (c : Option Dot). c)
        (slice_get (map_list (λ (g : Dot × Body). Some g.0) es) (count - (turn + 1))))
        (sym (goes_on (held_facts Q) at f first))
        ∙ ap (next_cursor (held_facts Q) at) {x = suc (count - (turn + 1))} {y = count - turn}
        (omega (arith, more))
        ∙ L.cursor

    -- what is at or below the fact, and was not looked at before it
    by_place : (q : Dot) → is_past after q ≡ true → is_past (Some f.0) q ≡ false
        → map.get (held_facts Q) q ≢ None → (q ≡ f.0) ⊎ Stays P gone Q q
    by_place q past low held = elim (cases_Bool (is_past at q)) [
      | inr before ↦ inr (L.left q past before held)
      | inl above ↦ elim (first_least (held_facts Q) at f q first above held) [
        | inl same ↦ inl same
        | inr later ↦ absurd (true≢false (sym later ∙ low))
      ]
    ]

    -- the next fact, if it may not go, is looked at and stays
    looked_kept : (Goes Q f.0 → ⊥) → Looked P after count (turn + 1) (Some f.0) gone Q
    looked_kept stays = record {
      went = L.went;
      most = (let m = L.most in omega (arith, m));
      began = λ none. absurd (some_none f.0 none);
      cursor = moves;
      on = λ q past. L.on q (up q past);
      ahead = λ q past. L.ahead q (up q past);
      behind = L.behind;
      left = λ q past low held. elim (by_place q past low held) [
        | inl same ↦ subst (Stays P gone Q) (sym same) (stays_here P Q gone f.0 L.went stays)
        | inr before ↦ before
      ];
    }

    -- the next fact, if it may go, is looked at and is skipped
    looked_gone : Goes Q f.0
        → Looked P after count (turn + 1) (Some f.0) (gone + 1) (with_skipped Q f.0)
    looked_gone go = record {
      went = went_more P Q gone f.0 L.went go;
      most = (let m = L.most in omega (arith, m));
      began = λ none. absurd (some_none f.0 none);
      cursor = ap (λ (es : Facts).
          option_and_then (λ (c : Option Dot). c)
          (slice_get (Some f.0 ∷ map_list (λ (g : Dot × Body). Some g.0) es) (count - (turn + 1))))
          (above_same (held_facts (with_skipped Q f.0)) (held_facts Q) (Some f.0)
          (λ q past. held_other Q f.0 q (not_past_itself f.0 q past)))
          ∙ moves;
      on = λ q past. L.on q (up q past);
      ahead = λ q past. slot_other Q f.0 q (not_past_itself f.0 q past) ∙ L.ahead q (up q past);
      behind = λ q low. slot_other Q f.0 q (λ same. here_on q low same) ∙ L.behind q low;
      left = λ q past low held. elim (cases_dots q f.0) [
        | inl same ↦
            absurd (held (ap (map.get (held_facts (with_skipped Q f.0))) same ∙ held_here Q f.0))
        | inr ne ↦ elim (by_place q past low (λ none. held (held_other Q f.0 q ne ∙ none))) [
          | inl same ↦ absurd (ne same)
          | inr before ↦ stays_more P Q gone q f.0 before go
        ]
      ];
    }
      where
        here_on : (q : Dot) → is_past after q ≡ false → q ≡ f.0 → ⊥
        here_on q low same = true≢false
            (sym (L.on f.0 (first_past (held_facts Q) at f first)) ∙ ap (is_past after) (sym same)
            ∙ low)

    -- a further fact was looked at
    pub more_looked : (t : Bool) (R : StoreFields) → SkipsIf Q f.0 t R
        → Looked P after count (turn + 1) (Some f.0) (gone_with gone t) R
    more_looked true R skips = subst (λ (S : StoreFields).
        Looked P after count (turn + 1) (Some f.0) (gone + 1) S) (sym skips.1) (looked_gone skips.0)
    more_looked false R skips = subst (λ (S : StoreFields).
        Looked P after count (turn + 1) (Some f.0) gone S) (sym skips.1) (looked_kept skips.0)
