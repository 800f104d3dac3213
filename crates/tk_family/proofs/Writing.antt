-- What the steps of a forest write into the rows. Key results:
--   changed                        a row that was changed in its place, and the others as they were
--   added, dropped                 a blank row is put at a dot that has none, and taken out again
--   longer, fewer                  how many rows there are after a step
--   settled-more, unsettled-more   one more dot of a list has got its code, or has lost it
use Rattle.std.specs.FinMap as map
use Rattle.std.proofs.Common.{◌≡◌, ◌≤◌, ◌-◌, ◌+◌, inl, inr, Bool, ℕ, arith, true, false, cond}
use Rattle.std.proofs.Common.{Option, None, Some, List, [], ◌∷◌, ◌++◌, option_map, is_some, ap, sym}
use Rattle.std.proofs.Common.{◌∙◌, refl, subst}
use Rattle.std.proofs.lemmas.Bool.{true≢false, cases_Bool, cond-true, cond-false}
use Rattle.std.proofs.lemmas.Bool.{false_from_ne_true}
use Rattle.tk_handle.specs.declared.dot.Dot.{Dot}
use Rattle.tk_family.specs.declared.row.Row.{Row}
use Rattle.tk_family.specs.Dots.{dot_eq, has}
use Rattle.tk_handle.specs.Dot.{dot_cmp_total, dot_cmp-IsAntisymmetric}
use Rattle.tk_family.specs.Rows.{Rows, RowMap, table}
use Rattle.tk_family.specs.Writes.{blank, or_blank, with_code, without_code, settled, unsettled}
use Rattle.tk_family.proofs.DotLaws.{dots_equiv, dot_eq-true, dot_eq-same, has-append, has-left}
use Rattle.tk_family.proofs.DotLaws.{has-right, has-cons, has-here}

-- a row that was changed in its place, and the others as they were
pub changed : (T N : Rows) (at : Dot) (r row : Row) (F : Option Row → Option Row) → T at ≡ Some r
    → F (Some r) ≡ Some row
    → ((q : Dot) → N q ≡ cond (dot_eq at q) (option_map (λ _. row) (T q)) (T q)) → (q : Dot)
    → N q ≡ cond (dot_eq at q) (F (T q)) (T q)
changed T N at r row F here written new q = elim (cases_Bool (dot_eq at q)) [
  | inl same ↦
      let e : T q ≡ Some r = sym (ap T (dot_eq-true at q same)) ∙ here in
      new q ∙ (cond-true (dot_eq at q) (option_map (λ _. row) (T q)) (T q) same
      ∙ (ap (option_map (λ _. row)) e
      ∙ (sym written ∙ (ap F (sym e) ∙ sym (cond-true (dot_eq at q) (F (T q)) (T q) same)))))
  | inr apart ↦ new q
      ∙ (cond-false (dot_eq at q) (option_map (λ _. row) (T q)) (T q) apart
      ∙ sym (cond-false (dot_eq at q) (F (T q)) (T q) apart))
]

-- ---- a row is written at each dot of a list

-- to write a code twice is to write it once
twice_coded : (o : Option Row) (c : Dot) → with_code (with_code o c) c ≡ with_code o c
twice_coded None c = refl
twice_coded (Some r) c = refl

-- to clear a code twice is to clear it once
twice_cleared : (o : Option Row) → without_code (without_code o) ≡ without_code o
twice_cleared None = refl
twice_cleared (Some r) = refl

-- a row is written at each dot of a list, where to write it twice is to write it once
listed-more : (F : Option Row → Option Row) → ((o : Option Row) → F (F o) ≡ F o)
    → (T M N : Rows) (list : List Dot) (x : Dot)
    → ((q : Dot) → M q ≡ cond (has list q) (F (T q)) (T q))
    → ((q : Dot) → N q ≡ cond (dot_eq x q) (F (M q)) (M q)) → (q : Dot)
    → N q ≡ cond (has (list ++ x ∷ []) q) (F (T q)) (T q)
listed-more F twice T M N list x before now q = elim (cases_Bool (dot_eq x q)) [
  | inl same ↦
      let new : has (list ++ x ∷ []) q ≡ true =
      subst (λ (y : Dot). has (list ++ x ∷ []) y ≡ true) (dot_eq-true x q same)
      (has-right list (x ∷ []) x (has-here x [])) in
      now q ∙ (cond-true _ _ _ same ∙ (elim (cases_Bool (has list q)) [
        | inl old ↦
            ap F (before q ∙ cond-true _ _ _ old) ∙ (twice (T q) ∙ sym (cond-true _ _ _ new))
        | inr fresh ↦ ap F (before q ∙ cond-false _ _ _ fresh) ∙ sym (cond-true _ _ _ new)
      ]))
  | inr apart ↦ now q ∙ (cond-false _ _ _ apart ∙ (before q ∙ (elim (cases_Bool (has list q)) [
    | inl old ↦ cond-true _ _ _ old ∙ sym (cond-true _ _ _ (has-left list (x ∷ []) q old))
    | inr fresh ↦
        let still : has (list ++ x ∷ []) q ≡ false =
        false_from_ne_true (has (list ++ x ∷ []) q) (λ h. elim (has-append list (x ∷ []) q h) [
          | inl old ↦ true≢false (sym old ∙ fresh)
          | inr one ↦ elim (has-cons x [] q one) [
            | inl same ↦ true≢false
                (sym (subst (λ (y : Dot). dot_eq x y ≡ true) (sym same) (dot_eq-same x)) ∙ apart)
            | inr none ↦ true≢false (sym none)
          ]
        ]) in
        cond-false _ _ _ fresh ∙ sym (cond-false _ _ _ still)
  ])))
]

-- one more dot of a list has got its code
pub settled-more : (T M N : Rows) (list : List Dot) (x c : Dot)
    → ((q : Dot) → M q ≡ settled T list c q)
    → ((q : Dot) → N q ≡ cond (dot_eq x q) (with_code (M q) c) (M q)) → (q : Dot)
    → N q ≡ settled T (list ++ x ∷ []) c q
settled-more T M N list x c before now q =
    listed-more (λ o. with_code o c) (λ o. twice_coded o c) T M N list x before now q

-- one more dot of a list has lost its code
pub unsettled-more : (T M N : Rows) (list : List Dot) (x : Dot)
    → ((q : Dot) → M q ≡ unsettled T list q)
    → ((q : Dot) → N q ≡ cond (dot_eq x q) (without_code (M q)) (M q)) → (q : Dot)
    → N q ≡ unsettled T (list ++ x ∷ []) q
unsettled-more T M N list x before now q =
    listed-more without_code twice_cleared T M N list x before now q

-- a blank row is put at a dot that has none
pub added : (m n : RowMap) (at : Dot) (r : Row) → n ≡ map.insert m at r → map.get m at ≡ None
    → r ≡ blank → (q : Dot) → table n q ≡ cond (dot_eq at q) (or_blank (table m q)) (table m q)
added m n at r is none empty q =
    ap (λ (x : RowMap). map.get x q) is ∙ map.get-insert dot_cmp_total m at r q
    ∙ ap (λ (b : Bool). cond b (Some r) (map.get m q)) (dots_equiv.symm q at)
    ∙ elim (cases_Bool (dot_eq at q)) [
      | inl same ↦
          cond-true (dot_eq at q) (Some r) (map.get m q) same ∙ ap (λ (x : Row). Some x) empty
          ∙ ap or_blank (sym (ap (map.get m) (sym (dot_eq-true at q same)) ∙ none))
          ∙ sym (cond-true (dot_eq at q) (or_blank (table m q)) (table m q) same)
      | inr apart ↦ cond-false (dot_eq at q) (Some r) (map.get m q) apart
          ∙ sym (cond-false (dot_eq at q) (or_blank (table m q)) (table m q) apart)
    ]

-- ---- how many rows there are

-- a row that is put in place of a row is there
some_mapped : (o : Option Row) (row : Row) → is_some o ≡ true → option_map (λ _. row) o ≡ Some row
some_mapped None row h = absurd (cc)
some_mapped (Some r) row h = refl

-- nothing is put in place of no row
none_mapped : (o : Option Row) (row : Row) → is_some o ≡ false → option_map (λ _. row) o ≡ o
none_mapped None row h = refl
none_mapped (Some r) row h = absurd (cc)

-- tables with the same row at each dot are equal
same_maps : (m n : RowMap) → ((q : Dot) → map.get n q ≡ map.get m q) → n ≡ m
same_maps m n h = map.same_map dot_cmp_total dot_cmp-IsAntisymmetric n m h

-- a row in place of another makes no more rows
pub same_len : (m n : RowMap) (at : Dot) (row : Row)
    → ((q : Dot)
    → map.get n q ≡ cond (dot_eq q at) (option_map (λ _. row) (map.get m q)) (map.get m q))
    → map.len n ≡ map.len m
same_len m n at row h = elim (cases_Bool (map.contains_key m at)) [
  | inl there ↦
      let is : n ≡ map.insert m at row =
      same_maps (map.insert m at row) n (λ q. h q ∙ (elim (cases_Bool (dot_eq q at)) [
        | inl same ↦ cond-true _ _ _ same
            ∙ (some_mapped (map.get m q) row
            (subst (λ (x : Dot). is_some (map.get m x) ≡ true) (sym (dot_eq-true q at same)) there)
            ∙ sym (map.get-insert dot_cmp_total m at row q ∙ cond-true _ _ _ same))
        | inr apart ↦ cond-false _ _ _ apart
            ∙ sym (map.get-insert dot_cmp_total m at row q ∙ cond-false _ _ _ apart)
      ])) in
      ap map.len is ∙ (map.len-insert dot_cmp_total m at row ∙ cond-true _ _ _ there)
  | inr none ↦ ap map.len (same_maps m n (λ q. h q ∙ (elim (cases_Bool (dot_eq q at)) [
    | inl same ↦ cond-true _ _ _ same
        ∙ none_mapped (map.get m q) row
        (subst (λ (x : Dot). is_some (map.get m x) ≡ false) (sym (dot_eq-true q at same)) none)
    | inr apart ↦ cond-false _ _ _ apart
  ])))
]

-- a number that is another, or one more, is at most one more
one_more : (b : Bool) (x y : ℕ) → x ≡ cond b y (y + 1) → x ≤ y + 1
one_more true x y h = omega arith
one_more false x y h = omega arith

-- a table with a row inserted has one row more at most
pub longer : (m n : RowMap) (at : Dot) (row : Row) → n ≡ map.insert m at row
    → map.len n ≤ map.len m + 1
longer m n at row is = one_more (map.contains_key m at) (map.len n) (map.len m)
    (ap map.len is ∙ map.len-insert dot_cmp_total m at row)

-- a row is removed
pub dropped : (m n : RowMap) (at : Dot) → n ≡ map.remove m at → (q : Dot)
    → table n q ≡ cond (dot_eq at q) None (table m q)
dropped m n at is q = ap (λ (x : RowMap). map.get x q) is
    ∙ (map.get-remove dot_cmp_total m at q
    ∙ ap (λ (b : Bool). cond b None (map.get m q)) (dots_equiv.symm q at))

-- a number that is another, or one less, is at most the other
less_one : (b : Bool) (x y : ℕ) → x ≡ cond b (y - 1) y → x ≤ y
less_one true x y h = omega arith
less_one false x y h = omega arith

-- a table without a row has no row more
pub fewer : (m n : RowMap) (at : Dot) → n ≡ map.remove m at → map.len n ≤ map.len m
fewer m n at is = less_one (map.contains_key m at) (map.len n) (map.len m)
    (ap map.len is ∙ map.len-remove dot_cmp_total m at)
