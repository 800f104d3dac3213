-- The counts of the bad dots of a family after a change at one dot or at a list of dots. Key
-- results:
--   IsCountedAs-from, recount-step, recount-others   a dot is counted anew
--   IsCounted-raised, IsCounted-cleared              a list of dots comes under a code or leaves it
--   recount-fits, raise-fits, clear-fits             no count overflows
use Rattle.std.specs.FinMap as map
use Rattle.std.proofs.Common.{◌≡◌, ◌≢◌, inl, inr, ℕ, ◌+◌, ◌-◌, ◌≤◌, Bool, true, false, not, cond}
use Rattle.std.proofs.Common.{Option, None, Some, List, ap, sym, ◌∙◌, refl, arith, subst}
use Rattle.std.proofs.lemmas.Bool.{true≢false, cases_Bool, cond-true, cond-false}
use Rattle.std.proofs.Math.Bool.{beq}
use Rattle.std.specs.List.{IsDistinct}
use Rattle.tk_handle.specs.declared.dot.Dot.{Dot}
use Rattle.tk_family.specs.Counts.{IsCount, IsCounted, blamed_as, IsCountedAs}
use Rattle.tk_family.specs.Dots.{dot_eq, has}
use Rattle.tk_family.specs.Rows.{RowMap, Rows, table, code_in, count_in, bad_in, blamed_in}
use Rattle.tk_family.specs.Writes.{bads}
use Rattle.tk_family.proofs.DotLaws.{dot_eq-same, dot_eq-apart, cases_dots}
use Rattle.tk_family.proofs.Counting.{IsCount-alike, IsCount-apart, IsCount-is, IsCount-one}
use Rattle.tk_family.proofs.Counting.{IsCount-rest, IsCount-room, IsCount-step, IsCount-sum}
use Rattle.tk_family.proofs.Counting.{bad-row, blamed-bad, blamed-none, blamed-parts, blamed-same}
use Rattle.tk_family.proofs.Counting.{not_some}

-- ---- a dot is counted anew

-- rows that changed at one dot are counted as if it were as before
pub IsCountedAs-from : (T M : Rows) (at : Dot) → IsCounted T
    → ((q : Dot) → code_in (M q) ≡ code_in (T q)) → ((q : Dot) → count_in (M q) ≡ count_in (T q))
    → ((q : Dot) → q ≢ at → blamed_in (M q) ≡ blamed_in (T q)) → IsCountedAs M at (bad_in (T at))
IsCountedAs-from T M at x code count blamed c =
    let f : Dot → Option Dot = blamed_as M at (bad_in (T at)) in
    let same : (q : Dot) → f q ≡ blamed_in (T q) = λ q. elim (cases_dots at q) [
      | inl here ↦ cond-true _ _ _ (ap (dot_eq at) (sym here) ∙ dot_eq-same at)
          ∙ (ap (λ (o : Option Dot). cond (bad_in (T at)) o None) (code q)
          ∙ ap (λ (y : Dot). cond (bad_in (T y)) (code_in (T q)) None) here)
      | inr ne ↦ cond-false _ _ _ (dot_eq-apart at q ne) ∙ blamed q (λ h. ne (sym h))
    ] in
    IsCount-is f c (count_in (T c)) (count_in (M c)) (count c)
    (IsCount-alike (λ q. blamed_in (T q)) f c (count_in (T c)) (λ q h. same q ∙ h)
    (λ q h. sym (same q) ∙ h) (x c))

-- the dot itself blames its code if it was bad
as_here : (M : Rows) (at : Dot) (was : Bool)
    → blamed_as M at was at ≡ cond was (code_in (M at)) None
as_here M at was = cond-true _ _ _ (dot_eq-same at)

-- other dots blame what they blame in the rows
as_other : (M : Rows) (at : Dot) (was : Bool) (q : Dot) → q ≢ at
    → blamed_in (M q) ≡ blamed_as M at was q
as_other M at was q ne = sym (cond-false _ _ _ (dot_eq-apart at q (λ same. ne (sym same))))

-- the count of a code without what its dot was, and with what it is, is right
pub recount-step : (M : Rows) (at code : Dot) (was : Bool) → IsCountedAs M at was
    → code_in (M at) ≡ Some code
    → (cond was 1 0 ≤ count_in (M code))
    × IsCount (λ q. blamed_in (M q)) code
    ((count_in (M code) - cond was 1 0) + cond (bad_in (M at)) 1 0)
recount-step M at code was x said = IsCount-step (blamed_as M at was) (λ q. blamed_in (M q)) at code
    was (bad_in (M at)) (count_in (M code)) (as_other M at was)
    (as_here M at was ∙ ap (λ (o : Option Dot). cond was o None) said)
    (ap (λ (o : Option Dot). cond (bad_in (M at)) o None) said) (x code)

-- a count is never more than there are rows
pub recount-fits : (m : RowMap) (at code : Dot) (was : Bool) → IsCountedAs (table m) at was
    → code_in (table m at) ≡ Some code
    → (count_in (table m code) - cond was 1 0) + cond (bad_in (table m at)) 1 0 ≤ map.len m
recount-fits m at code was x said = IsCount-room m (λ q. blamed_in (table m q)) code _
    (λ q h. bad-row (table m q) (blamed-parts (table m q) code h).0)
    (recount-step (table m) at code was x said).1

-- a choice of a dot or none is no other dot
some_or_none : (b : Bool) (o : Option Dot) (x c : Dot) → o ≡ Some x → x ≢ c → cond b o None ≢ Some c
some_or_none true o x c said ne h = let both : Some x ≡ Some c = sym said ∙ h in
    let same : x ≡ c = cc in ne same
some_or_none false o x c said ne h = let clash : None ≡ Some c = h in cc

-- a code other than that of the dot has its count
pub recount-others : (M : Rows) (at code : Dot) (was : Bool) (c : Dot) → IsCountedAs M at was
    → code_in (M at) ≡ Some code → code ≢ c → IsCount (λ q. blamed_in (M q)) c (count_in (M c))
recount-others M at code was c x said ne =
    IsCount-apart (blamed_as M at was) (λ q. blamed_in (M q)) at c (count_in (M c))
    (as_other M at was)
    (λ h. some_or_none was (code_in (M at)) code c said ne (sym (as_here M at was) ∙ h))
    (some_or_none (bad_in (M at)) (code_in (M at)) code c said ne) (x c)

-- a choice of none or none is no dot
none_either : (b : Bool) (o : Option Dot) (c : Dot) → o ≡ None → cond b o None ≢ Some c
none_either true o c none h = not_some o c none h
none_either false o c none h = let clash : None ≡ Some c = h in cc

-- if the dot is under no code, all codes have their counts
pub recount-none : (M : Rows) (at : Dot) (was : Bool) → IsCountedAs M at was → code_in (M at) ≡ None
    → IsCounted M
recount-none M at was x none c = IsCount-apart (blamed_as M at was) (λ q. blamed_in (M q)) at c
    (count_in (M c)) (as_other M at was)
    (λ h. none_either was (code_in (M at)) c none (sym (as_here M at was) ∙ h))
    (none_either (bad_in (M at)) (code_in (M at)) c none) (x c)

-- truth values that are equal by the test are equal
same_bools : (a b : Bool) → beq a b ≡ true → a ≡ b
same_bools true true h = refl
same_bools true false h = absurd (true≢false (sym h))
same_bools false true h = absurd (true≢false (sym h))
same_bools false false h = refl

-- if the dot is as bad as it was, all codes have their counts
pub recount-same : (M : Rows) (at : Dot) (was : Bool) → IsCountedAs M at was
    → beq (bad_in (M at)) was ≡ true → IsCounted M
recount-same M at was x so c =
    let same = same_bools (bad_in (M at)) was so in
    let alike : (q : Dot) → blamed_as M at was q ≡ blamed_in (M q) = λ q. elim (cases_dots at q) [
      | inl here ↦ cond-true _ _ _ (ap (dot_eq at) (sym here) ∙ dot_eq-same at)
          ∙ (ap (λ (b : Bool). cond b (code_in (M q)) None) (sym same)
          ∙ ap (λ (y : Dot). cond (bad_in (M y)) (code_in (M q)) None) here)
      | inr ne ↦ cond-false _ _ _ (dot_eq-apart at q ne)
    ] in
    IsCount-alike (blamed_as M at was) (λ q. blamed_in (M q)) c (count_in (M c))
    (λ q h. sym (alike q) ∙ h) (λ q h. alike q ∙ h) (x c)

-- ---- a list of dots comes under a code, or is under it no more

-- the dots that are bad under their codes, once those of the list are under c
abbrev with_list : Rows → List Dot → Dot → Dot → Option Dot
with_list M ys c q = cond (has ys q) (cond (bad_in (M q)) (Some c) None) (blamed_in (M q))

-- and once those of the list are under no code
abbrev without_list : Rows → List Dot → Dot → Option Dot
without_list T ys q = cond (has ys q) None (blamed_in (T q))

-- a choice of a dot or none is the dot only if the test holds
if_some : (b : Bool) (c : Dot) → cond b (Some c) None ≡ Some c → b ≡ true
if_some true c h = refl
if_some false c h = absurd (let clash : None ≡ Some c = h in cc)

-- the count of a code that a list of dots came under is more by the bad ones of the list
raise-count : (M : Rows) (c : Dot) (ys : List Dot) → IsCounted M → IsDistinct dot_eq ys
    → ((q : Dot) → has ys q ≡ true → code_in (M q) ≡ None)
    → IsCount (with_list M ys c) c (count_in (M c) + bads M ys)
raise-count M c ys x d fresh = IsCount-sum (λ q. blamed_in (M q)) (with_list M ys c) c
    (count_in (M c)) (λ q. bad_in (M q)) ys d
    (λ q walked. not_some (blamed_in (M q)) c (blamed-none (M q) (fresh q walked)))
    (λ q h. elim (cases_Bool (has ys q)) [
      | inl walked ↦ inr (walked, if_some (bad_in (M q)) c (sym (cond-true _ _ _ walked) ∙ h))
      | inr passed ↦ inl (sym (cond-false _ _ _ passed) ∙ h)
    ])
    (λ q h. elim (cases_Bool (has ys q)) [
      | inl walked ↦ absurd (not_some (blamed_in (M q)) c (blamed-none (M q) (fresh q walked)) h)
      | inr passed ↦ cond-false _ _ _ passed ∙ h
    ])
    (λ q walked bad. cond-true _ _ _ walked ∙ cond-true _ _ _ bad) (x c)

-- a count with the dots that come under the code is never more than there are rows
pub raise-fits : (m : RowMap) (c : Dot) (ys : List Dot) → IsCounted (table m) → IsDistinct dot_eq ys
    → ((q : Dot) → has ys q ≡ true → code_in (table m q) ≡ None)
    → count_in (table m c) + bads (table m) ys ≤ map.len m
raise-fits m c ys x d fresh = IsCount-room m (with_list (table m) ys c) c _
    (λ q h. elim (cases_Bool (has ys q)) [
      | inl walked ↦
          bad-row (table m q) (if_some (bad_in (table m q)) c (sym (cond-true _ _ _ walked) ∙ h))
      | inr passed ↦
          bad-row (table m q) (blamed-parts (table m q) c (sym (cond-false _ _ _ passed) ∙ h)).0
    ]) (raise-count (table m) c ys x d fresh)

-- the counts once a list is under c
pub IsCounted-raised : (M A : Rows) (c0 : Dot) (ys : List Dot) → IsCounted M → IsDistinct dot_eq ys
    → ((q : Dot) → has ys q ≡ true → code_in (M q) ≡ None)
    → ((q : Dot) → bad_in (A q) ≡ bad_in (M q))
    → ((q : Dot) → code_in (A q) ≡ cond (has ys q) (Some c0) (code_in (M q)))
    → count_in (A c0) ≡ count_in (M c0) + bads M ys
    → ((c : Dot) → c0 ≢ c → count_in (A c) ≡ count_in (M c)) → IsCounted A
IsCounted-raised M A c0 ys x d fresh bad code here others c =
    let blamed : (q : Dot) → blamed_in (A q) ≡ with_list M ys c0 q =
    λ q. elim (cases_Bool (has ys q)) [
      | inl walked ↦ ap (λ (b : Bool). cond b (code_in (A q)) None) (bad q)
          ∙ (ap (λ (o : Option Dot). cond (bad_in (M q)) o None) (code q ∙ cond-true _ _ _ walked)
          ∙ sym (cond-true _ _ _ walked))
      | inr passed ↦ blamed-same (M q) (A q) (bad q) (code q ∙ cond-false _ _ _ passed)
          ∙ sym (cond-false _ _ _ passed)
    ] in
    elim (cases_dots c0 c) [
      | inl same ↦ subst (λ (y : Dot). IsCount (λ q. blamed_in (A q)) y (count_in (A y))) same
          (IsCount-is (λ q. blamed_in (A q)) c0 (count_in (M c0) + bads M ys) (count_in (A c0)) here
          (IsCount-alike (with_list M ys c0) (λ q. blamed_in (A q)) c0 (count_in (M c0) + bads M ys)
          (λ q h. blamed q ∙ h) (λ q h. sym (blamed q) ∙ h) (raise-count M c0 ys x d fresh)))
      | inr ne ↦ IsCount-is (λ q. blamed_in (A q)) c (count_in (M c)) (count_in (A c)) (others c ne)
          (IsCount-alike (λ q. blamed_in (M q)) (λ q. blamed_in (A q)) c (count_in (M c))
          (λ q h. elim (cases_Bool (has ys q)) [
            | inl walked ↦
                absurd (not_some (blamed_in (M q)) c (blamed-none (M q) (fresh q walked)) h)
            | inr passed ↦ blamed q ∙ (cond-false _ _ _ passed ∙ h)
          ])
          (λ q h. elim (cases_Bool (has ys q)) [
            | inl walked ↦ absurd
                (some_or_none (bad_in (M q)) (Some c0) c0 c refl ne
                (sym (cond-true _ _ _ walked) ∙ (sym (blamed q) ∙ h)))
            | inr passed ↦ sym (cond-false _ _ _ passed) ∙ (sym (blamed q) ∙ h)
          ]) (x c))
    ]

-- the count of a code is that without a list of its dots, and the bad ones of the list
clear-count : (T : Rows) (c : Dot) (ys : List Dot) → IsCounted T → IsDistinct dot_eq ys
    → ((q : Dot) → has ys q ≡ true → code_in (T q) ≡ Some c)
    → (m : ℕ) × IsCount (without_list T ys) c m × (count_in (T c) ≡ m + bads T ys)
clear-count T c ys x d coded =
    let back : (q : Dot) → without_list T ys q ≡ Some c
    → (blamed_in (T q) ≡ Some c) × (not (has ys q) ≡ true) = λ q h. elim (cases_Bool (has ys q)) [
      | inl walked ↦ absurd (not_some (without_list T ys q) c (cond-true _ _ _ walked) h)
      | inr passed ↦ (sym (cond-false _ _ _ passed) ∙ h, ap not passed)
    ] in
    let there : (q : Dot) → blamed_in (T q) ≡ Some c → not (has ys q) ≡ true
    → without_list T ys q ≡ Some c = λ q h passed. elim (cases_Bool (has ys q)) [
      | inl walked ↦ absurd (true≢false (sym passed ∙ ap not walked))
      | inr apart ↦ cond-false _ _ _ apart ∙ h
    ] in
    let r : (m : ℕ) × IsCount (without_list T ys) c m =
    IsCount-rest (λ q. blamed_in (T q)) (without_list T ys) c (count_in (T c))
    (λ q. not (has ys q)) back there (x c) in
    let whole : IsCount (λ q. blamed_in (T q)) c (r.0 + bads T ys) =
    IsCount-sum (without_list T ys) (λ q. blamed_in (T q)) c r.0 (λ q. bad_in (T q)) ys d
    (λ q walked. not_some (without_list T ys q) c (cond-true _ _ _ walked))
    (λ q h. elim (cases_Bool (has ys q)) [
      | inl walked ↦ inr (walked, (blamed-parts (T q) c h).0)
      | inr passed ↦ inl (cond-false _ _ _ passed ∙ h)
    ])
    (λ q h. (back q h).0)
    (λ q walked bad. blamed-bad (T q) c bad (coded q walked)) r.1 in
    (r.0, r.1, IsCount-one (λ q. blamed_in (T q)) c (count_in (T c)) (r.0 + bads T ys) (x c) whole)

-- the dots that leave a code are among those that it counts
pub clear-fits : (T : Rows) (c : Dot) (ys : List Dot) → IsCounted T → IsDistinct dot_eq ys
    → ((q : Dot) → has ys q ≡ true → code_in (T q) ≡ Some c) → bads T ys ≤ count_in (T c)
clear-fits T c ys x d coded =
    let r : (m : ℕ) × IsCount (without_list T ys) c m × (count_in (T c) ≡ m + bads T ys) =
    clear-count T c ys x d coded in
    let is : count_in (T c) ≡ r.0 + bads T ys = r.2 in
    omega arith

-- the counts once a list is under no code
pub IsCounted-cleared : (T A : Rows) (c0 : Dot) (ys : List Dot) → IsCounted T → IsDistinct dot_eq ys
    → ((q : Dot) → has ys q ≡ true → code_in (T q) ≡ Some c0)
    → ((q : Dot) → bad_in (A q) ≡ bad_in (T q))
    → ((q : Dot) → code_in (A q) ≡ cond (has ys q) None (code_in (T q)))
    → count_in (A c0) ≡ count_in (T c0) - bads T ys
    → ((c : Dot) → c0 ≢ c → count_in (A c) ≡ count_in (T c)) → IsCounted A
IsCounted-cleared T A c0 ys x d coded bad code here others c =
    let blamed : (q : Dot) → blamed_in (A q) ≡ without_list T ys q =
    λ q. elim (cases_Bool (has ys q)) [
      | inl walked ↦
          blamed-none (A q) (code q ∙ cond-true _ _ _ walked) ∙ sym (cond-true _ _ _ walked)
      | inr passed ↦ blamed-same (T q) (A q) (bad q) (code q ∙ cond-false _ _ _ passed)
          ∙ sym (cond-false _ _ _ passed)
    ] in
    let r : (m : ℕ) × IsCount (without_list T ys) c0 m × (count_in (T c0) ≡ m + bads T ys) =
    clear-count T c0 ys x d coded in
    elim (cases_dots c0 c) [
      | inl same ↦ subst (λ (y : Dot). IsCount (λ q. blamed_in (A q)) y (count_in (A y))) same
          (IsCount-is (λ q. blamed_in (A q)) c0 r.0 (count_in (A c0))
          (here ∙ (let is : count_in (T c0) ≡ r.0 + bads T ys = r.2 in omega arith))
          (IsCount-alike (without_list T ys) (λ q. blamed_in (A q)) c0 r.0 (λ q h. blamed q ∙ h)
          (λ q h. sym (blamed q) ∙ h) r.1))
      | inr ne ↦ IsCount-is (λ q. blamed_in (A q)) c (count_in (T c)) (count_in (A c)) (others c ne)
          (IsCount-alike (λ q. blamed_in (T q)) (λ q. blamed_in (A q)) c (count_in (T c))
          (λ q h. elim (cases_Bool (has ys q)) [
            | inl walked ↦ absurd
                (let both : Some c0 ≡ Some c = sym (coded q walked) ∙ (blamed-parts (T q) c h).1 in
                let same : c0 ≡ c = cc in ne same)
            | inr passed ↦ blamed q ∙ (cond-false _ _ _ passed ∙ h)
          ])
          (λ q h. elim (cases_Bool (has ys q)) [
            | inl walked ↦
                absurd (not_some (blamed_in (A q)) c (blamed q ∙ cond-true _ _ _ walked) h)
            | inr passed ↦ sym (cond-false _ _ _ passed) ∙ (sym (blamed q) ∙ h)
          ]) (x c))
    ]
