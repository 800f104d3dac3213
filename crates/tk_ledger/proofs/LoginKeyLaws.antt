-- The keys of logins. Key results:
--   logins_total, login_tied, login_same   keys tie exactly if they are equal
--   logins_forward                         the span above a dot runs forward
--   login_span, are_logins                 the keys under a prefix are in the order of their dots,
--                                          and in range
--   login_kept                             the login of a code that is held is listed
use Rattle.std.proofs.Common.{◌≡◌, ℕ, true, ◌&&◌, ◌==◌, Option, Some, None, refl, sym, ap}
use Rattle.std.proofs.Common.{subst, ◌∙◌, eq-eqb}
use Rattle.std.proofs.lemmas.Bool.{and_parts, eqb-true}
use Rattle.std.proofs.lemmas.Cmp.{on_total, then_total, tied_itself}
use Rattle.std.proofs.lemmas.Map.Lookups.{exact_unsigned}
use Rattle.std.specs.BTreeMap.Range.{IsLeBy, IsLtBy}
use Rattle.std.specs.BTreeSet.{BTreeSet, contains}
use Rattle.std.specs.Cmp.{IsTotalOrder, nat_cmp_total}
use Rattle.std.specs.FinMap as map
use Rattle.std.specs.Ordering.{nat_cmp, eq_by_cmp, ordering_then, is_eq}
use Rattle.std.specs.Range.Bound.{IsForward}
use Rattle.std.specs.declared.cmp.Ordering.{Ordering}
use Rattle.std.specs.declared.cmp.Ordering.TheVariants.{Less, Equal, Greater}
use Rattle.std.specs.declared.ops.Bound.{Bound}
use Rattle.std.specs.declared.ops.Bound.TheVariants.{Included}
use Rattle.sha2.specs.Sha256.{sha256}
use Rattle.tk_handle.specs.declared.dot.Dot.{Dot}
use Rattle.tk_handle.specs.Dot.{IsDot, dot_cmp, dot_cmp_total, greatest_dot}
use Rattle.tk_handle.proofs.SpanLaws.{between}
use Rattle.tk_fact.specs.declared.code_issued.CodeIssued as issued
use Rattle.tk_store.specs.FactSet.{FactSet}
use Rattle.tk_ledger.specs.Bodies.{is_same_dot}
use Rattle.tk_ledger.specs.Changes.{digest_prefix}
use Rattle.tk_ledger.specs.SubjectTables.{login_cmp, login_key, login_start, begins_under, IsLogins}
use Rattle.tk_ledger.specs.Tokens.{issued_at}
use Rattle.tk_ledger.specs.declared.subject_keys.LoginKey.{LoginKey}
use Rattle.tk_ledger.proofs.KeyLaws.{at_is_same}
use Rattle.tk_vector.proofs.VersionVectorLaws.{number_tied}
use Rattle.tk_family.proofs.ChildLaws.{both_tied}
use Rattle.tk_ledger.proofs.KeyWalkLaws.{IsSpan, AreKeys}
use Rattle.tk_ledger.proofs.KeyWalkLaws.{span_forward as forward}
use Rattle.tk_ledger.proofs.SameLaws.{same_dot-true}

-- ---- equal keys

-- the order of login keys is total
pub logins_total : IsTotalOrder login_cmp
logins_total =
    then_total (on_total (λ k. k.prefix) nat_cmp_total) (on_total (λ k. k.code) dot_cmp_total)

-- login keys compare as equal exactly if their prefixes and dots are equal
pub login_tied : (g h : ℕ) (d q : Dot)
    → eq_by_cmp login_cmp (login_key g d) (login_key h q) ≡ ((g == h) && is_same_dot d q)
login_tied g h d q =
    both_tied (nat_cmp g h) (dot_cmp d q)
    ∙ ap (λ x. x && is_eq (dot_cmp d q)) (number_tied g h)
    ∙ ap (λ x. (g == h) && x) (at_is_same d q)

-- keys that tie have one dot
pub login_tied-dot : (g h : ℕ) (d q : Dot)
    → eq_by_cmp login_cmp (login_key g d) (login_key h q) ≡ true → d ≡ q
login_tied-dot g h d q tie =
    same_dot-true d q (and_parts (g == h) (is_same_dot d q) (sym (login_tied g h d q) ∙ tie)).1

-- login keys with equal parts are equal
key_by : (a b : LoginKey) → a.prefix ≡ b.prefix → a.code ≡ b.code → a ≡ b
key_by a b h i = λ x. record { prefix = h x; code = i x }

-- login keys that compare as equal are equal
pub login_same : (a b : LoginKey) → eq_by_cmp login_cmp a b ≡ true → a ≡ b
login_same a b h =
    let p = and_parts _ _ (sym (login_tied a.prefix b.prefix a.code b.code) ∙ h) in
    key_by a b (eqb-true a.prefix b.prefix p.0) (same_dot-true a.code b.code p.1)

-- ---- the keys under one prefix

-- a key of a login has no tail behind its dot
abbrev pub NoTail : Type 0
NoTail = Unit {0}

-- the order of tails, of which there is one
abbrev pub tail_cmp : NoTail → NoTail → Ordering
tail_cmp t u = Equal

-- the order of tails is total
pub tails_total : IsTotalOrder tail_cmp
tails_total = record {
  antisymm = λ x y. refl;
  trans = λ x y z h i. h;
  congr = λ x y z h. refl;
}

-- the key under a prefix, by its dot
abbrev pub login_at : ℕ → Dot → NoTail → LoginKey
login_at prefix d t = login_key prefix d

-- the tail of a key
abbrev pub no_tail : LoginKey → NoTail
no_tail k = tt

-- an ordering followed by Equal is that ordering
then_equal : (o : Ordering) → o ≡ ordering_then o Equal
then_equal Less = refl
then_equal Equal = refl
then_equal Greater = refl

-- the keys under one prefix are in the order of their dots
pub login_span : (prefix : ℕ)
    → IsSpan login_cmp (login_at prefix) (λ k. k.code) no_tail tail_cmp
login_span prefix = record {
  order = λ d e t u.
      ap (λ o. ordering_then o (dot_cmp d e)) (tied_itself nat_cmp_total prefix)
      ∙ then_equal (dot_cmp d e);
  placed = λ d t. refl;
  between = λ k d e t u above below. key_by k (login_key prefix k.code)
      (sym (exact_unsigned prefix k.prefix
      (between (nat_cmp prefix k.prefix) _ _ above below)))
      refl;
}

-- the span above a dot runs forward
pub logins_forward : (prefix : ℕ) (after : Option Dot) (first : Bound LoginKey)
    (last : LoginKey)
    → first ≡ login_start prefix after → last ≡ login_key prefix greatest_dot
    → ((d : Dot) → after ≡ Some d → IsDot d)
    → IsForward (IsLeBy login_cmp) (IsLtBy login_cmp) first (Included last)
logins_forward prefix None first last is end ranged =
    subst (λ (b : Bound LoginKey).
    IsForward (IsLeBy login_cmp) (IsLtBy login_cmp) b (Included last)) (sym is)
    (subst (λ (k : LoginKey). IsForward (IsLeBy login_cmp) (IsLtBy login_cmp)
    (login_start prefix None) (Included k)) (sym end)
    (forward login_cmp logins_total login_same (login_at prefix) (λ k. k.code) no_tail tail_cmp
    tails_total tt tt (login_span prefix) None (refl, refl) tt))
logins_forward prefix (Some d) first last is end ranged =
    subst (λ (b : Bound LoginKey).
    IsForward (IsLeBy login_cmp) (IsLtBy login_cmp) b (Included last)) (sym is)
    (subst (λ (k : LoginKey). IsForward (IsLeBy login_cmp) (IsLtBy login_cmp)
    (login_start prefix (Some d)) (Included k)) (sym end)
    (forward login_cmp logins_total login_same (login_at prefix) (λ k. k.code) no_tail tail_cmp
    tails_total tt tt (login_span prefix) (Some d) (refl, refl) (ranged d refl)))

-- the keys under a prefix are in range
pub are_logins : (F : FactSet) (t : BTreeSet LoginKey) → IsLogins F t → (prefix : ℕ)
    → AreKeys login_cmp logins_total login_same (login_at prefix) (λ k. k.code) no_tail tail_cmp
    tails_total tt tt (login_span prefix) t.keys
are_logins F t i prefix = record {
  ranged = λ d n at. (i.ranged prefix d at, (refl, refl));
  single = λ d m n at also. refl;
}

-- the login of each code that is held is listed
pub login_kept : (F : FactSet) (t : BTreeSet LoginKey) (d : Dot) (code : issued.CodeIssued)
    → IsLogins F t
    → issued_at (map.get F) d ≡ Some code
    → contains login_cmp t (login_key (digest_prefix (sha256 code.subject)) d) ≡ true
login_kept F t d code i h =
    let prefix = digest_prefix (sha256 code.subject) in
    i.listed prefix d ∙ ap (begins_under prefix) h ∙ eq-eqb prefix prefix refl
