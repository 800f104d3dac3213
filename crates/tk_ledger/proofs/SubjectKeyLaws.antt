-- The keys of codes and of sign-outs. Key results:
--   code_tied, code_same, out_same           keys tie exactly if they are equal
--   outs_total                               the order of sign-outs is total
--   codes_forward, outs_forward, out_order   the spans run forward
--   in_codes                                 the span has the dot of each code under the prefix
--                                            that starts in it
--   outs_empty                               a table without a key is in order
--   in_outs, of_subject                      the span has the keys of the subject, and no others
--   code_listed, out_listed                  the keys of a code and of a sign-out that are held
use Rattle.std.proofs.Common.{◌≡◌, inl, inr, ℕ, ◌≤◌, ◌==◌, Bool, true, false, ◌&&◌, ◌||◌, not, List}
use Rattle.std.proofs.Common.{[], ◌∷◌, Some, filter, refl, sym, ap, subst, ◌∙◌, arith, eq-eqb}
use Rattle.std.proofs.lemmas.Bool.{true≢false, eqb-true, cases_Bool, cond-true, cond-false}
use Rattle.std.proofs.lemmas.Bool.{or_cases, or_left, and_parts, and_from}
use Rattle.std.proofs.lemmas.Cmp.{on_total, then_total, tied_itself, nat_list_cmp_total}
use Rattle.std.proofs.lemmas.List.{nil_from_length}
use Rattle.std.proofs.lemmas.Map.Lookups.{exact_bytes}
use Rattle.std.proofs.lemmas.Slice.Eq.{bytes_eq-Decides}
use Rattle.std.specs.BTreeMap.{is_at}
use Rattle.std.specs.BTreeMap.Range.{range_contains, IsLeBy}
use Rattle.std.specs.BTreeSet.{BTreeSet, contains, btree_set_len}
use Rattle.std.specs.Cmp.{IsTotalOrder, nat_cmp_total}
use Rattle.std.specs.Cmp.Lexicographic.{slice_cmp}
use Rattle.std.specs.Ordering.{nat_cmp, eq_by_cmp, ordering_then, ordering_reverse, is_eq, is_lt}
use Rattle.std.specs.Ordering.{is_le, is_gt}
use Rattle.std.specs.Str.{bytes_eq}
use Rattle.std.specs.declared.ops.Bound.TheVariants.{Included}
use Rattle.std.specs.FinMap as map
use Rattle.std.specs.List.Sorted.{IsStrictlySortedBy}
use Rattle.sha2.specs.Sha256.{sha256}
use Rattle.tk_handle.specs.declared.dot.Dot.{Dot}
use Rattle.tk_handle.specs.Dot.{IsDot, dot_cmp, dot_cmp_total, least_dot, greatest_dot}
use Rattle.tk_handle.specs.Ranges.{max_moment}
use Rattle.tk_handle.proofs.SpanLaws.{number_le, from_first, to_last, not_past, between}
use Rattle.tk_family.specs.Dots.{dot_eq, has}
use Rattle.tk_fact.specs.declared.code_issued.CodeIssued as issued
use Rattle.tk_fact.specs.declared.subject_out.SubjectOut as out
use Rattle.tk_store.specs.FactSet.{FactSet}
use Rattle.tk_ledger.specs.Bodies.{is_same_dot}
use Rattle.tk_ledger.specs.Changes.{digest_prefix}
use Rattle.tk_ledger.specs.SignOuts.{sign_out_at}
use Rattle.tk_ledger.specs.SubjectTables.{left_after, code_cmp, code_key, codes_started, dots_of}
use Rattle.tk_ledger.specs.SubjectTables.{is_to, IsCodes, out_cmp, out_key, is_left_by}
use Rattle.tk_ledger.specs.SubjectTables.{IsOuts}
use Rattle.tk_ledger.specs.Tokens.{issued_at}
use Rattle.tk_ledger.specs.declared.subject_keys.CodeKey.{CodeKey}
use Rattle.tk_ledger.specs.declared.subject_keys.OutKey.{OutKey}
use Rattle.tk_ledger.proofs.KeyLaws.{at_is_same, bytes_tied}
use Rattle.tk_vector.proofs.VersionVectorLaws.{number_tied}
use Rattle.tk_store.proofs.OneMoreLaws.{at_itself}
use Rattle.tk_family.proofs.ChildLaws.{both_tied}
use Rattle.tk_ledger.proofs.KeySearchLaws.{among}
use Rattle.tk_ledger.proofs.SameLaws.{same_dot-true}

-- ---- codes

-- code keys compare as equal exactly if their parts are equal
pub code_tied : (g h m n : ℕ) (d q : Dot)
    → eq_by_cmp code_cmp (code_key g m d) (code_key h n q)
    ≡ ((g == h) && ((m == n) && is_same_dot d q))
code_tied g h m n d q =
    both_tied (nat_cmp g h) _
    ∙ ap (λ x. is_eq (nat_cmp g h) && x) (both_tied (nat_cmp m n) (dot_cmp d q))
    ∙ ap (λ x. x && (is_eq (nat_cmp m n) && is_eq (dot_cmp d q))) (number_tied g h)
    ∙ ap (λ x. (g == h) && (x && is_eq (dot_cmp d q))) (number_tied m n)
    ∙ ap (λ x. (g == h) && ((m == n) && x)) (at_is_same d q)

-- keys that tie have one dot
pub code_tied-dot : (g h m n : ℕ) (d q : Dot)
    → eq_by_cmp code_cmp (code_key g m d) (code_key h n q) ≡ true → d ≡ q
code_tied-dot g h m n d q tie =
    let p =
    and_parts (g == h) ((m == n) && is_same_dot d q) (sym (code_tied g h m n d q) ∙ tie) in
    same_dot-true d q (and_parts (m == n) (is_same_dot d q) p.1).1

-- code keys with equal parts are equal
code_by : (a b : CodeKey) → a.prefix ≡ b.prefix → a.start ≡ b.start → a.code ≡ b.code → a ≡ b
code_by a b h i j = λ x. record { prefix = h x; start = i x; code = j x }

-- code keys that compare as equal are equal
pub code_same : (a b : CodeKey) → eq_by_cmp code_cmp a b ≡ true → a ≡ b
code_same a b h =
    let p = and_parts _ _ (sym (code_tied a.prefix b.prefix a.start b.start a.code b.code) ∙ h) in
    let q = and_parts _ _ p.1 in
    code_by a b (eqb-true a.prefix b.prefix p.0) (eqb-true a.start b.start q.0)
    (same_dot-true a.code b.code q.1)

-- the keys under one prefix are in the order of their starts, and then of their dots
code_order : (prefix m n : ℕ) (a b : Dot)
    → code_cmp (code_key prefix m a) (code_key prefix n b)
    ≡ ordering_then (nat_cmp m n) (dot_cmp a b)
code_order prefix m n a b = ap (λ o. ordering_then o (ordering_then (nat_cmp m n) (dot_cmp a b)))
    (tied_itself nat_cmp_total prefix)

-- the span of codes that start between two moments runs forward
pub codes_forward : (prefix m n : ℕ) (a b : CodeKey) → m ≤ n
    → a ≡ code_key prefix m least_dot → b ≡ code_key prefix n greatest_dot → IsLeBy code_cmp a b
codes_forward prefix m n a b le first last =
    ap (λ (x : CodeKey). is_gt (code_cmp x b)) first
    ∙ ap (λ (x : CodeKey). is_gt (code_cmp (code_key prefix m least_dot) x)) last
    ∙ ap is_gt (code_order prefix m n least_dot greatest_dot)
    ∙ elim (number_le m n le) [
      | inl less ↦ ap (λ o. is_gt (ordering_then o (dot_cmp least_dot greatest_dot))) less
      | inr same ↦ ap (λ o. is_gt (ordering_then o (dot_cmp least_dot greatest_dot))) same
    ]

-- the key of each code in range that starts between the moments is in the span
in_span : (prefix m n start : ℕ) (q : Dot) → m ≤ start → start ≤ n → IsDot q
    → range_contains code_cmp (Included (code_key prefix m least_dot))
    (Included (code_key prefix n greatest_dot)) (code_key prefix start q)
    ≡ true
in_span prefix m n start q above below h = and_from _ _
    (ap is_le (code_order prefix m start least_dot q) ∙ elim (number_le m start above) [
      | inl less ↦ ap (λ o. is_le (ordering_then o (dot_cmp least_dot q))) less
      | inr same ↦ ap (λ o. is_le (ordering_then o (dot_cmp least_dot q))) same ∙ from_first q h
    ])
    (ap (λ o. not (is_lt o)) (code_order prefix n start greatest_dot q)
    ∙ ap (λ o. not (is_lt (ordering_then o (dot_cmp greatest_dot q))))
    (nat_cmp_total.antisymm n start)
    ∙ elim (number_le start n below) [
      | inl less ↦
          ap (λ o. not (is_lt (ordering_then (ordering_reverse o) (dot_cmp greatest_dot q)))) less
      | inr same ↦
          ap (λ o. not (is_lt (ordering_then (ordering_reverse o) (dot_cmp greatest_dot q)))) same
          ∙ ap (λ o. not (is_lt o)) (dot_cmp_total.antisymm greatest_dot q)
          ∙ not_past (dot_cmp q greatest_dot) (to_last q h)
    ])

-- a listed key that passes has its code among those of the keys that pass
kept_dot : (c : CodeKey → Bool) (k : CodeKey) (ks : List CodeKey) → among code_cmp k ks ≡ true
    → c k ≡ true → has (dots_of (filter c ks)) k.code ≡ true
kept_dot c k [] at kept = absurd (true≢false (sym at))
kept_dot c k (x ∷ xs) at kept = elim (or_cases (is_at (code_cmp k) x) (among code_cmp k xs) at) [
  | inl tie ↦
      let same : k ≡ x = code_same k x tie in
      ap (λ (ys : List CodeKey). has (dots_of ys) k.code)
      (cond-true (c x) (x ∷ filter c xs) (filter c xs) (sym (ap c same) ∙ kept))
      ∙ or_left (dot_eq k.code x.code) (has (dots_of (filter c xs)) k.code)
      (ap (λ (y : CodeKey). dot_eq k.code y.code) (sym same) ∙ at_itself k.code)
  | inr more ↦ elim (cases_Bool (c x)) [
    | inl here ↦
        ap (λ (ys : List CodeKey). has (dots_of ys) k.code)
        (cond-true (c x) (x ∷ filter c xs) (filter c xs) here)
        ∙ or_later (dot_eq k.code x.code) (has (dots_of (filter c xs)) k.code)
        (kept_dot c k xs more kept)
    | inr left ↦
        ap (λ (ys : List CodeKey). has (dots_of ys) k.code)
        (cond-false (c x) (x ∷ filter c xs) (filter c xs) left)
        ∙ kept_dot c k xs more kept
  ]
]
  where
    or_later : (a b : Bool) → b ≡ true → (a || b) ≡ true
    or_later true b h = refl
    or_later false b h = h

-- the span of the prefix has the dot of each code that is listed under it and starts in the span
pub in_codes : (t : BTreeSet CodeKey) (prefix m n start : ℕ) (d : Dot) → m ≤ start
    → start ≤ n → contains code_cmp t (code_key prefix start d) ≡ true → IsDot d
    → has (dots_of (codes_started t prefix m n)) d ≡ true
in_codes t prefix m n start d above below at ranged =
    kept_dot
    (range_contains code_cmp (Included (code_key prefix m least_dot))
    (Included (code_key prefix n greatest_dot))) (code_key prefix start d) t.keys at
    (in_span prefix m n start d above below ranged)

-- ---- sign-outs

-- the order of sign-out keys is total
pub outs_total : IsTotalOrder out_cmp
outs_total = then_total (on_total (λ k. k.subject) nat_list_cmp_total)
    (then_total (on_total (λ k. k.left) nat_cmp_total) (on_total (λ k. k.place) dot_cmp_total))

-- sign-out keys compare as equal exactly if their parts are equal
pub out_tied : (g h : List ℕ) (l m : ℕ) (d q : Dot)
    → eq_by_cmp out_cmp (out_key g l d) (out_key h m q)
    ≡ (bytes_eq g h && ((l == m) && is_same_dot d q))
out_tied g h l m d q =
    both_tied (slice_cmp nat_cmp g h) _
    ∙ ap (λ x. is_eq (slice_cmp nat_cmp g h) && x) (both_tied (nat_cmp l m) (dot_cmp d q))
    ∙ ap (λ x. x && (is_eq (nat_cmp l m) && is_eq (dot_cmp d q))) (bytes_tied g h)
    ∙ ap (λ x. bytes_eq g h && (x && is_eq (dot_cmp d q))) (number_tied l m)
    ∙ ap (λ x. bytes_eq g h && ((l == m) && x)) (at_is_same d q)

-- sign-out keys with equal parts are equal
pub out_by : (a b : OutKey) → a.subject ≡ b.subject → a.left ≡ b.left → a.place ≡ b.place → a ≡ b
out_by a b h i j = λ x. record { subject = h x; left = i x; place = j x }

-- sign-out keys that compare as equal are equal
pub out_same : (a b : OutKey) → eq_by_cmp out_cmp a b ≡ true → a ≡ b
out_same a b h =
    let p = and_parts _ _ (sym (out_tied a.subject b.subject a.left b.left a.place b.place) ∙ h) in
    let q = and_parts _ _ p.1 in
    out_by a b ((bytes_eq-Decides a.subject b.subject).0 p.0) (eqb-true a.left b.left q.0)
    (same_dot-true a.place b.place q.1)

-- sign-out keys of one subject are ordered by their moments, the latest first, and then by their
-- dots
pub out_order : (subject : List ℕ) (l m : ℕ) (a b : Dot)
    → out_cmp (out_key subject l a) (out_key subject m b)
    ≡ ordering_then (nat_cmp l m) (dot_cmp a b)
out_order subject l m a b = ap (λ o. ordering_then o (ordering_then (nat_cmp l m) (dot_cmp a b)))
    (tied_itself nat_list_cmp_total subject)

-- a table without a key is in order
pub outs_empty : (t : BTreeSet OutKey) → btree_set_len t ≡ 0 → IsStrictlySortedBy out_cmp t.keys
unfolding IsStrictlySortedBy
outs_empty t none = subst (λ (ks : List OutKey). IsStrictlySortedBy out_cmp ks)
    (sym (nil_from_length t.keys none)) tt

-- the span of a subject runs forward
pub outs_forward : (subject : List ℕ) (a b : OutKey) → a ≡ out_key subject 0 least_dot
    → b ≡ out_key subject max_moment greatest_dot → IsLeBy out_cmp a b
outs_forward subject a b first last =
    ap (λ (x : OutKey). is_gt (out_cmp x b)) first
    ∙ ap (λ (x : OutKey). is_gt (out_cmp (out_key subject 0 least_dot) x)) last
    ∙ ap is_gt (out_order subject 0 max_moment least_dot greatest_dot)

-- the key of a sign-out of the subject is in the span
pub in_outs : (subject : List ℕ) (l : ℕ) (q : Dot) → l ≤ max_moment → IsDot q
    → range_contains out_cmp (Included (out_key subject 0 least_dot))
    (Included (out_key subject max_moment greatest_dot)) (out_key subject l q)
    ≡ true
in_outs subject l q le h = and_from _ _
    (ap is_le (out_order subject 0 l least_dot q) ∙ elim (number_le 0 l (omega arith)) [
      | inl less ↦ ap (λ o. is_le (ordering_then o (dot_cmp least_dot q))) less
      | inr same ↦ ap (λ o. is_le (ordering_then o (dot_cmp least_dot q))) same ∙ from_first q h
    ])
    (ap (λ o. not (is_lt o)) (out_order subject max_moment l greatest_dot q)
    ∙ ap (λ o. not (is_lt (ordering_then o (dot_cmp greatest_dot q))))
    (nat_cmp_total.antisymm max_moment l)
    ∙ elim (number_le l max_moment le) [
      | inl less ↦
          ap (λ o. not (is_lt (ordering_then (ordering_reverse o) (dot_cmp greatest_dot q)))) less
      | inr same ↦
          ap (λ o. not (is_lt (ordering_then (ordering_reverse o) (dot_cmp greatest_dot q)))) same
          ∙ ap (λ o. not (is_lt o)) (dot_cmp_total.antisymm greatest_dot q)
          ∙ not_past (dot_cmp q greatest_dot) (to_last q h)
    ])

-- a key in the span is one of the subject
pub of_subject : (subject : List ℕ) (e : OutKey)
    → range_contains out_cmp (Included (out_key subject 0 least_dot))
    (Included (out_key subject max_moment greatest_dot)) e
    ≡ true
    → e.subject ≡ subject
of_subject subject e h = let p = and_parts _ _ h in
    sym (exact_bytes subject e.subject (between (slice_cmp nat_cmp subject e.subject) _ _ p.0 p.1))

-- ---- codes and sign-outs that are held are listed

-- the key of a code that is held is in the table
pub code_listed : (F : FactSet) (t : BTreeSet CodeKey) (d : Dot) (code : issued.CodeIssued)
    → IsCodes F t
    → issued_at (map.get F) d ≡ Some code
    → (contains code_cmp t (code_key (digest_prefix (sha256 code.subject)) code.start d) ≡ true)
    × IsDot d
code_listed F t d code i h = (at, i.ranged prefix code.start d at)
  where
    prefix : ℕ
    prefix = digest_prefix (sha256 code.subject)

    at : contains code_cmp t (code_key prefix code.start d) ≡ true
    at = i.listed prefix code.start d ∙ ap (is_to prefix code.start) h
        ∙ and_from _ _ (eq-eqb prefix prefix refl) (eq-eqb code.start code.start refl)

-- the key of a sign-out that is held is in the table, and its moment in range
pub out_listed : (F : FactSet) (t : BTreeSet OutKey) (d : Dot) (f : out.SubjectOut) → IsOuts F t
    → sign_out_at (map.get F) d ≡ Some f
    → (contains out_cmp t (out_key (sha256 f.subject) (left_after f.moment) d) ≡ true) × IsDot d
    × (f.moment ≤ max_moment)
out_listed F t d f i h = (at, i.ranged (sha256 f.subject) (left_after f.moment) d at, i.early d f h)
  where
    at : contains out_cmp t (out_key (sha256 f.subject) (left_after f.moment) d) ≡ true
    at = i.listed (sha256 f.subject) (left_after f.moment) d
        ∙ ap (is_left_by (sha256 f.subject) (left_after f.moment)) h
        ∙ and_from _ _ ((bytes_eq-Decides (sha256 f.subject) (sha256 f.subject)).1 refl)
        (eq-eqb (left_after f.moment) (left_after f.moment) refl)
