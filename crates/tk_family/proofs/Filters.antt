-- Lists of dots, of which those that pass a test are kept. Key results:
--   has-filter, filter-has       a filter keeps exactly the dots of the list that pass
--   IsDistinct-filter            what a filter keeps of a distinct list is distinct
--   filter-push                  what a filter keeps of a list with one more dot
use Rattle.std.proofs.Common.{◌≡◌, ◌≢◌, inl, inr, ◌<◌, Bool, true, false, cond, List, [], ◌∷◌, ◌++◌}
use Rattle.std.proofs.Common.{length, filter, ap, sym, ◌∙◌, refl, arith, subst, append_assoc}
use Rattle.std.proofs.lemmas.Bool.{true≢false, cases_Bool, cond-true, cond-false}
use Rattle.std.proofs.lemmas.Bool.{false_from_ne_true}
use Rattle.std.proofs.lemmas.Map.Keys.{IsDistinct-cons, IsDistinct-head, IsDistinct-tail}
use Rattle.std.specs.List.{IsDistinct, AllByRecursion}
use Rattle.tk_handle.specs.declared.dot.Dot.{Dot}
use Rattle.tk_family.specs.Dots.{dot_eq, has}
use Rattle.tk_family.proofs.DotLaws.{has-cons, has-here, has-there, list_none, dot_eq-apart}

-- a dot that a filter keeps is in the list, and passes
pub has-filter : (p : Dot → Bool) (xs : List Dot) (q : Dot) → has (filter p xs) q ≡ true
    → (has xs q ≡ true) × (p q ≡ true)
has-filter p [] q h = absurd (true≢false (sym h))
has-filter p (x ∷ xs) q h = elim (cases_Bool (p x)) [
  | inl kept ↦ elim (has-cons x (filter p xs) q
      (sym (ap (λ (l : List Dot). has l q) (cond-true (p x) (x ∷ filter p xs) (filter p xs) kept))
      ∙ h)) [
        | inl same ↦ (
          subst (λ (y : Dot). has (x ∷ xs) y ≡ true) (sym same) (has-here x xs),
          ap p same ∙ kept,
        )
        | inr more ↦ let r : (has xs q ≡ true) × (p q ≡ true) = has-filter p xs q more in
            (has-there x xs q r.0, r.1)
      ]
  | inr left ↦ let r : (has xs q ≡ true) × (p q ≡ true) =
      has-filter p xs q
      (sym (ap (λ (l : List Dot). has l q) (cond-false (p x) (x ∷ filter p xs) (filter p xs) left))
      ∙ h) in (has-there x xs q r.0, r.1)
]

-- a filter keeps each dot of the list that passes
pub filter-has : (p : Dot → Bool) (xs : List Dot) (q : Dot) → has xs q ≡ true → p q ≡ true
    → has (filter p xs) q ≡ true
filter-has p [] q h kept = absurd (true≢false (sym h))
filter-has p (x ∷ xs) q h kept = elim (has-cons x xs q h) [
  | inl same ↦ ap (λ (l : List Dot). has l q)
      (cond-true (p x) (x ∷ filter p xs) (filter p xs) (sym (ap p same) ∙ kept))
      ∙ subst (λ (y : Dot). has (y ∷ filter p xs) q ≡ true) same (has-here q (filter p xs))
  | inr more ↦ elim (cases_Bool (p x)) [
    | inl also ↦ ap (λ (l : List Dot). has l q)
        (cond-true (p x) (x ∷ filter p xs) (filter p xs) also)
        ∙ has-there x (filter p xs) q (filter-has p xs q more kept)
    | inr left ↦ ap (λ (l : List Dot). has l q)
        (cond-false (p x) (x ∷ filter p xs) (filter p xs) left)
        ∙ filter-has p xs q more kept
  ]
]

-- a dot that is not in a list differs from each of it
pub apart_all : (y : Dot) (ys : List Dot) → has ys y ≡ false
    → AllByRecursion (λ z. dot_eq y z ≡ false) ys
apart_all y [] h = tt
apart_all y (z ∷ zs) h =
    let ne : y ≢ z = λ same.
    true≢false (sym (subst (λ (w : Dot). has (w ∷ zs) y ≡ true) same (has-here y zs)) ∙ h) in (
      dot_eq-apart y z ne,
      apart_all y zs
          (false_from_ne_true (has zs y) (λ more. true≢false (sym (has-there z zs y more) ∙ h))),
    )

-- what a filter keeps of a distinct list is distinct
pub IsDistinct-filter : (p : Dot → Bool) (xs : List Dot) → IsDistinct dot_eq xs
    → IsDistinct dot_eq (filter p xs)
IsDistinct-filter p [] d = d
IsDistinct-filter p (x ∷ xs) d =
    let rest : IsDistinct dot_eq (filter p xs) =
    IsDistinct-filter p xs (IsDistinct-tail dot_eq x xs d) in
    elim (cases_Bool (p x)) [
      | inl kept ↦
          let none : has (filter p xs) x ≡ false = false_from_ne_true (has (filter p xs) x)
          (λ h. true≢false
          (sym (has-filter p xs x h).0 ∙ list_none x xs (IsDistinct-head dot_eq x xs d))) in
          subst (λ (l : List Dot). IsDistinct dot_eq l)
          (sym (cond-true (p x) (x ∷ filter p xs) (filter p xs) kept))
          (IsDistinct-cons dot_eq x (filter p xs) (apart_all x (filter p xs) none) rest)
      | inr left ↦ subst (λ (l : List Dot). IsDistinct dot_eq l)
          (sym (cond-false (p x) (x ∷ filter p xs) (filter p xs) left)) rest
    ]

-- a dot put before one of two lists is put before each of them
spread : (b : Bool) (x : Dot) (ys zs : List Dot) → x ∷ cond b ys zs ≡ cond b (x ∷ ys) (x ∷ zs)
spread true x ys zs = refl
spread false x ys zs = refl

-- what a filter keeps of a list with one more dot
pub filter-push : (p : Dot → Bool) (xs : List Dot) (y : Dot)
    → filter p (xs ++ y ∷ []) ≡ cond (p y) (filter p xs ++ y ∷ []) (filter p xs)
filter-push p [] y = elim (cases_Bool (p y)) [
  | inl h ↦ cond-true _ _ _ h ∙ sym (cond-true _ _ _ h)
  | inr h ↦ cond-false _ _ _ h ∙ sym (cond-false _ _ _ h)
]
filter-push p (x ∷ xs) y = elim (cases_Bool (p x)) [
  | inl h ↦ cond-true _ _ _ h
      ∙ (ap (λ (l : List Dot). x ∷ l) (filter-push p xs y)
      ∙ (spread (p y) x (filter p xs ++ y ∷ []) (filter p xs)
      ∙ ap (λ (l : List Dot). cond (p y) (l ++ y ∷ []) l) (sym (cond-true _ _ _ h))))
  | inr h ↦ cond-false _ _ _ h
      ∙ (filter-push p xs y
      ∙ ap (λ (l : List Dot). cond (p y) (l ++ y ∷ []) l) (sym (cond-false _ _ _ h)))
]

-- one more dot goes behind those that were kept
pub joined : (b : Bool) (old kept : List Dot) (e : Dot)
    → cond b ((old ++ kept) ++ e ∷ []) (old ++ kept) ≡ old ++ cond b (kept ++ e ∷ []) kept
joined true old kept e = append_assoc old kept (e ∷ [])
joined false old kept e = refl

-- a filter keeps more dots of a list with one more that passes
pub length-filter-kept : (p : Dot → Bool) (seen : List Dot) (e : Dot) (rest : List Dot) → p e ≡ true
    → length (filter p seen) < length (filter p (seen ++ e ∷ rest))
length-filter-kept p [] e rest kept =
    let one : filter p (e ∷ rest) ≡ e ∷ filter p rest = cond-true _ _ _ kept in
    let long : length (filter p (e ∷ rest)) ≡ length (e ∷ filter p rest) = ap length one in
    omega arith
length-filter-kept p (x ∷ xs) e rest kept = elim (cases_Bool (p x)) [
  | inl h ↦
      let a : length (filter p (x ∷ xs)) ≡ length (x ∷ filter p xs) =
      ap length (cond-true _ _ _ h) in
      let b : length (filter p (x ∷ (xs ++ e ∷ rest))) ≡ length (x ∷ filter p (xs ++ e ∷ rest)) =
      ap length (cond-true _ _ _ h) in
      let less : length (filter p xs) < length (filter p (xs ++ e ∷ rest)) =
      length-filter-kept p xs e rest kept in
      omega arith
  | inr h ↦
      let a : length (filter p (x ∷ xs)) ≡ length (filter p xs) = ap length (cond-false _ _ _ h) in
      let b : length (filter p (x ∷ (xs ++ e ∷ rest))) ≡ length (filter p (xs ++ e ∷ rest)) =
      ap length (cond-false _ _ _ h) in
      let less : length (filter p xs) < length (filter p (xs ++ e ∷ rest)) =
      length-filter-kept p xs e rest kept in
      omega arith
]
