-- The counts of the bad dots of a family. Key results:
--   IsCount-alike, IsCount-is      a count of other dots that are the same
--   IsCount-step                   a count after a change at one dot
--   bad-same, blamed-same          the same columns make the same dots bad
--   count-some, some-count         a count is above 0 exactly if a bad dot is under the code
use Rattle.std.specs.FinMap as map
use Rattle.std.proofs.Common.{◌≡◌, ◌≢◌, ◌⊎◌, inl, inr, ℕ, ◌+◌, ◌-◌, ◌≤◌, ◌||◌, Bool, true, false}
use Rattle.std.proofs.Common.{not, cond, Option, None, Some, List, [], ◌∷◌, ◌++◌, length, filter}
use Rattle.std.proofs.Common.{count_by, nat_lt, ap, sym, ◌∙◌, refl, arith, subst, length-append}
use Rattle.std.proofs.Common.{IsSome}
use Rattle.std.proofs.lemmas.Bool.{true≢false, cases_Bool, cond-true, cond-false, lt-ltb}
use Rattle.std.proofs.lemmas.List.Sums.{length-filter}
use Rattle.std.proofs.lemmas.Map.Made.{length-le_from_is_member}
use Rattle.std.proofs.lemmas.Map.Steps.{length-le_from_keys}
use Rattle.std.proofs.lemmas.Map.Keys.{IsDistinct-cons}
use Rattle.std.specs.List.{IsDistinct}
use Rattle.tk_handle.specs.declared.dot.Dot.{Dot}
use Rattle.tk_handle.specs.declared.kind.Kind.{Kind}
use Rattle.tk_family.specs.declared.link.Link.{Link}
use Rattle.tk_family.specs.declared.row.Row.{Row}
use Rattle.tk_family.specs.Counts.{IsCount, IsCounted}
use Rattle.tk_family.specs.Dots.{dot_eq, has}
use Rattle.tk_family.specs.Rows.{RowMap, Rows, table, link_in, code_in, count_in, marked_in}
use Rattle.tk_family.specs.Rows.{again_in, bad_at, bad_in, blamed_in, grant_kind}
use Rattle.tk_family.proofs.DotLaws.{dots_equiv, dot_eq-same, dot_eq-apart, cases_dots, has-cons}
use Rattle.tk_family.proofs.DotLaws.{has-here, has-there, has-append, has-left, has-right}
use Rattle.tk_family.proofs.DotLaws.{IsDistinct-append}
use Rattle.tk_family.proofs.EntryLaws.{entries_table}
use Rattle.tk_family.proofs.Filters.{has-filter, filter-has, IsDistinct-filter, apart_all}

-- ---- counts

-- two columns that have a code at the same dots count equally
pub IsCount-alike : (f g : Dot → Option Dot) (c : Dot) (n : ℕ)
    → ((q : Dot) → f q ≡ Some c → g q ≡ Some c) → ((q : Dot) → g q ≡ Some c → f q ≡ Some c)
    → IsCount f c n → IsCount g c n
IsCount-alike f g c n there back x = record {
  list = x.list;
  sound = λ q q_in. there q (x.sound q q_in);
  all = λ q h. x.all q (back q h);
  distinct = x.distinct;
  count = x.count;
}

-- a number that equals a count is one
pub IsCount-is : (f : Dot → Option Dot) (c : Dot) (n m : ℕ) → m ≡ n → IsCount f c n → IsCount f c m
IsCount-is f c n m same x = record {
  list = x.list;
  sound = x.sound;
  all = x.all;
  distinct = x.distinct;
  count = same ∙ x.count;
}

-- there is one count
pub IsCount-one : (f : Dot → Option Dot) (c : Dot) (n m : ℕ) → IsCount f c n → IsCount f c m → n ≡ m
IsCount-one f c n m x y =
    let few : length x.list ≤ length y.list =
    length-le_from_is_member dots_equiv x.list y.list x.distinct (λ q h. y.all q (x.sound q h)) in
    let many : length y.list ≤ length x.list =
    length-le_from_is_member dots_equiv y.list x.list y.distinct (λ q h. x.all q (y.sound q h)) in
    let a : n ≡ length x.list = x.count in
    let b : m ≡ length y.list = y.count in
    omega arith

-- a list of other dots, of which some are sent to c too
pub IsCount-sum : (f g : Dot → Option Dot) (c : Dot) (n : ℕ) (p : Dot → Bool) (ys : List Dot)
    → IsDistinct dot_eq ys → ((q : Dot) → has ys q ≡ true → f q ≢ Some c)
    → ((q : Dot) → g q ≡ Some c → (f q ≡ Some c) ⊎ ((has ys q ≡ true) × (p q ≡ true)))
    → ((q : Dot) → f q ≡ Some c → g q ≡ Some c)
    → ((q : Dot) → has ys q ≡ true → p q ≡ true → g q ≡ Some c) → IsCount f c n
    → IsCount g c (n + count_by p ys)
IsCount-sum f g c n p ys d apart claim old new x =
    let zs : List Dot = filter p ys in
    record {
      list = x.list ++ zs;
      sound = λ q q_in. elim (has-append x.list zs q q_in) [
        | inl here ↦ old q (x.sound q here)
        | inr more ↦ new q (has-filter p ys q more).0 (has-filter p ys q more).1
      ];
      all = λ q h. elim (claim q h) [
        | inl here ↦ has-left x.list zs q (x.all q here)
        | inr more ↦ has-right x.list zs q (filter-has p ys q more.0 more.1)
      ];
      distinct = IsDistinct-append x.list zs x.distinct (IsDistinct-filter p ys d)
          (λ q here more. apart q (has-filter p ys q more).0 (x.sound q here));
      count =
          let long : length (x.list ++ zs) ≡ length x.list + length zs = length-append x.list zs in
          let some : length zs ≡ count_by p ys = length-filter p ys in
          let is : n ≡ length x.list = x.count in
          omega arith;
    }

-- the dots that pass a test
pub IsCount-rest : (f g : Dot → Option Dot) (c : Dot) (n : ℕ) (p : Dot → Bool)
    → ((q : Dot) → g q ≡ Some c → (f q ≡ Some c) × (p q ≡ true))
    → ((q : Dot) → f q ≡ Some c → p q ≡ true → g q ≡ Some c) → IsCount f c n
    → (m : ℕ) × IsCount g c m
IsCount-rest f g c n p back there x = (
  length (filter p x.list),
  record {
    list = filter p x.list;
    sound = λ q h. there q (x.sound q (has-filter p x.list q h).0) (has-filter p x.list q h).1;
    all = λ q h. filter-has p x.list q (x.all q (back q h).0) (back q h).1;
    distinct = IsDistinct-filter p x.list x.distinct;
    count = refl;
  },
)

-- there are at least as many rows
pub IsCount-room : (m : RowMap) (f : Dot → Option Dot) (c : Dot) (n : ℕ)
    → ((q : Dot) → f q ≡ Some c → IsSome (table m q)) → IsCount f c n → n ≤ map.len m
IsCount-room m f c n row x =
    let few : length x.list ≤ length (map.entries m) =
    length-le_from_keys dots_equiv x.list (map.entries m) x.distinct
    (λ q h. subst IsSome (sym (entries_table m q)) (row q (x.sound q h))) in
    let all : map.len m ≡ length (map.entries m) = map.len-entries m in
    let is : n ≡ length x.list = x.count in
    omega arith

-- ---- one dot

-- a dot that is sent to c neither before nor after
pub IsCount-apart : (f g : Dot → Option Dot) (at c : Dot) (n : ℕ) → ((q : Dot) → q ≢ at → g q ≡ f q)
    → f at ≢ Some c → g at ≢ Some c → IsCount f c n → IsCount g c n
IsCount-apart f g at c n others not_f not_g x = IsCount-alike f g c n
    (λ q h. elim (cases_dots q at) [
      | inl same ↦ absurd (not_f (ap f (sym same) ∙ h))
      | inr ne ↦ others q ne ∙ h
    ])
    (λ q h. elim (cases_dots q at) [
      | inl same ↦ absurd (not_g (ap g (sym same) ∙ h))
      | inr ne ↦ sym (others q ne) ∙ h
    ]) x

-- a dot that is sent to c now
IsCount-more : (f g : Dot → Option Dot) (at c : Dot) (n : ℕ) → ((q : Dot) → q ≢ at → g q ≡ f q)
    → f at ≢ Some c → g at ≡ Some c → IsCount f c n → IsCount g c (n + 1)
IsCount-more f g at c n others not_f here x =
    let fresh : (q : Dot) → has x.list q ≡ true → q ≢ at =
    λ q h same. not_f (ap f (sym same) ∙ x.sound q h) in
    let none : has x.list at ≡ false =
    elim (cases_Bool (has x.list at)) [ inl h ↦ absurd (fresh at h refl) | inr h ↦ h ] in
    record {
      list = at ∷ x.list;
      sound = λ q h. elim (has-cons at x.list q h) [
        | inl same ↦ ap g same ∙ here
        | inr more ↦ others q (fresh q more) ∙ x.sound q more
      ];
      all = λ q h. elim (cases_dots q at) [
        | inl same ↦ subst (λ (y : Dot). has (at ∷ x.list) y ≡ true) (sym same) (has-here at x.list)
        | inr ne ↦ has-there at x.list q (x.all q (sym (others q ne) ∙ h))
      ];
      distinct = IsDistinct-cons dot_eq at x.list (apart_all at x.list none) x.distinct;
      count = let is : n ≡ length x.list = x.count in omega arith;
    }

-- a dot that is not sent to c any more
IsCount-less : (f g : Dot → Option Dot) (at c : Dot) (n : ℕ) → ((q : Dot) → q ≢ at → g q ≡ f q)
    → f at ≡ Some c → g at ≢ Some c → IsCount f c n → (1 ≤ n) × IsCount g c (n - 1)
IsCount-less f g at c n others here not_g x =
    let back : (q : Dot) → g q ≡ Some c → (f q ≡ Some c) × (not (dot_eq at q) ≡ true) =
    λ q h. elim (cases_dots q at) [
      | inl same ↦ absurd (not_g (ap g (sym same) ∙ h))
      | inr ne ↦ (sym (others q ne) ∙ h, ap not (dot_eq-apart at q (λ same. ne (sym same))))
    ] in
    let there : (q : Dot) → f q ≡ Some c → not (dot_eq at q) ≡ true → g q ≡ Some c =
    λ q h apart. elim (cases_dots q at) [
      | inl same ↦ absurd (true≢false (sym apart ∙ ap not (ap (dot_eq at) same ∙ dot_eq-same at)))
      | inr ne ↦ others q ne ∙ h
    ] in
    let r : (m : ℕ) × IsCount g c m = IsCount-rest f g c n (λ q. not (dot_eq at q)) back there x in
    let is : n ≡ r.0 + 1 = IsCount-one f c n (r.0 + 1) x
    (IsCount-more g f at c r.0 (λ q ne. sym (others q ne)) not_g here r.1) in
    (omega arith, IsCount-is g c r.0 (n - 1) (omega arith) r.1)

-- none is not some dot
pub not_some : (o : Option Dot) (c : Dot) → o ≡ None → o ≢ Some c
not_some o c none some = let clash : None ≡ Some c = sym none ∙ some in cc

-- a dot that was sent to c or to none, and is sent to c or to none now
pub IsCount-step : (f g : Dot → Option Dot) (at c : Dot) (was is : Bool) (n : ℕ)
    → ((q : Dot) → q ≢ at → g q ≡ f q) → f at ≡ cond was (Some c) None
    → g at ≡ cond is (Some c) None → IsCount f c n
    → (cond was 1 0 ≤ n) × IsCount g c ((n - cond was 1 0) + cond is 1 0)
IsCount-step f g at c true true n others before after x =
    let less : (1 ≤ n) × IsCount (λ q. cond (dot_eq at q) None (f q)) c (n - 1) =
    IsCount-less f (λ q. cond (dot_eq at q) None (f q)) at c n
    (λ q ne. cond-false _ _ _ (dot_eq-apart at q (λ same. ne (sym same)))) before
    (not_some _ c (cond-true _ _ _ (dot_eq-same at))) x in (
      less.0,
      IsCount-is g c n ((n - 1) + 1) (let some : 1 ≤ n = less.0 in omega arith)
          (IsCount-alike f g c n
          (λ q h. elim (cases_dots q at) [
            | inl same ↦ ap g same ∙ after
            | inr ne ↦ others q ne ∙ h
          ])
          (λ q h. elim (cases_dots q at) [
            | inl same ↦ ap f same ∙ before
            | inr ne ↦ sym (others q ne) ∙ h
          ]) x),
    )
IsCount-step f g at c true false n others before after x =
    let less : (1 ≤ n) × IsCount g c (n - 1) =
    IsCount-less f g at c n others before (not_some (g at) c after) x in
    (less.0, IsCount-is g c (n - 1) ((n - 1) + 0) (omega arith) less.1)
IsCount-step f g at c false true n others before after x = (
  omega arith,
  IsCount-is g c (n + 1) ((n - 0) + 1) (omega arith)
      (IsCount-more f g at c n others (not_some (f at) c before) after x),
)
IsCount-step f g at c false false n others before after x = (
  omega arith,
  IsCount-is g c n ((n - 0) + 0) (omega arith)
      (IsCount-apart f g at c n others (not_some (f at) c before) (not_some (g at) c after) x),
)

-- ---- bad dots

-- rows with the same marks and the same repeated uses are equally bad under a link
bad_at-same : (o : Option Link) (x y : Option Row) → ((k : Kind) → marked_in y k ≡ marked_in x k)
    → ((k : Kind) → again_in y k ≡ again_in x k) → bad_at o y ≡ bad_at o x
bad_at-same None x y marked again = refl
bad_at-same (Some l) x y marked again = ap (λ (b : Bool). b || again_in y (grant_kind l))
    (marked (grant_kind l))
    ∙ ap (λ (b : Bool). marked_in x (grant_kind l) || b) (again (grant_kind l))

-- whether a token is bad depends on three columns
pub bad-same : (x y : Option Row) → link_in y ≡ link_in x
    → ((k : Kind) → marked_in y k ≡ marked_in x k) → ((k : Kind) → again_in y k ≡ again_in x k)
    → bad_in y ≡ bad_in x
bad-same x y link marked again =
    ap (λ (o : Option Link). bad_at o y) link ∙ bad_at-same (link_in x) x y marked again

-- rows that are equally bad under equal codes blame the same
pub blamed-same : (x y : Option Row) → bad_in y ≡ bad_in x → code_in y ≡ code_in x
    → blamed_in y ≡ blamed_in x
blamed-same x y bad code = ap (λ (b : Bool). cond b (code_in y) None) bad
    ∙ ap (λ (o : Option Dot). cond (bad_in x) o None) code

-- a bad row under a code blames that code
pub blamed-bad : (o : Option Row) (c : Dot) → bad_in o ≡ true → code_in o ≡ Some c
    → blamed_in o ≡ Some c
blamed-bad o c bad code = cond-true (bad_in o) (code_in o) None bad ∙ code

-- a row that blames a code is bad, and under the code
pub blamed-parts : (o : Option Row) (c : Dot) → blamed_in o ≡ Some c
    → (bad_in o ≡ true) × (code_in o ≡ Some c)
blamed-parts o c h = elim (cases_Bool (bad_in o)) [
  | inl bad ↦ (bad, sym (cond-true (bad_in o) (code_in o) None bad) ∙ h)
  | inr good ↦ absurd
      (let clash : None ≡ Some c = sym (cond-false (bad_in o) (code_in o) None good) ∙ h in cc)
]

-- a row under no code blames none
pub blamed-none : (o : Option Row) → code_in o ≡ None → blamed_in o ≡ None
blamed-none o none = elim (cases_Bool (bad_in o)) [
  | inl bad ↦ cond-true (bad_in o) (code_in o) None bad ∙ none
  | inr good ↦ cond-false (bad_in o) (code_in o) None good
]

-- what is bad is a row
pub bad-row : (o : Option Row) → bad_in o ≡ true → IsSome o
bad-row None h = absurd (true≢false (sym h))
bad-row (Some r) h = refl

-- the columns that the counts depend on are the same
pub IsCounted-same : (T N : Rows) → ((q : Dot) → blamed_in (N q) ≡ blamed_in (T q))
    → ((q : Dot) → count_in (N q) ≡ count_in (T q)) → IsCounted T → IsCounted N
IsCounted-same T N blamed count x c =
    IsCount-is (λ q. blamed_in (N q)) c (count_in (T c)) (count_in (N c)) (count c)
    (IsCount-alike (λ q. blamed_in (T q)) (λ q. blamed_in (N q)) c (count_in (T c))
    (λ q h. blamed q ∙ h) (λ q h. sym (blamed q) ∙ h) (x c))

-- ---- what a count says

-- if a list is longer than 0, one of its dots is sent to c
some_of : (f : Dot → Option Dot) (c : Dot) (n : ℕ) (list : List Dot) → n ≡ length list
    → nat_lt 0 n ≡ true → ((q : Dot) → has list q ≡ true → f q ≡ Some c)
    → (q : Dot) × (f q ≡ Some c)
some_of f c n [] is h sound = absurd (true≢false (sym h ∙ ap (nat_lt 0) is))
some_of f c n (x ∷ xs) is h sound = (x, sound x (has-here x xs))

-- a list that has a dot is longer than 0
long_if : (list : List Dot) (q : Dot) → has list q ≡ true → nat_lt 0 (length list) ≡ true
long_if [] q h = absurd (true≢false (sym h))
long_if (x ∷ xs) q h = lt-ltb 0 (length (x ∷ xs)) (omega arith)

-- a count above 0 counts a dot
pub count-some : (f : Dot → Option Dot) (c : Dot) (n : ℕ) → IsCount f c n → nat_lt 0 n ≡ true
    → (q : Dot) × (f q ≡ Some c)
count-some f c n x h = some_of f c n x.list x.count h x.sound

-- a dot that is counted makes the count more than 0
pub some-count : (f : Dot → Option Dot) (c q : Dot) (n : ℕ) → IsCount f c n → f q ≡ Some c
    → nat_lt 0 n ≡ true
some-count f c q n x h = ap (nat_lt 0) x.count ∙ long_if x.list q (x.all q h)
