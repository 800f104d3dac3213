-- The last sign-out of a subject is the first key of its span whose sign-out is one of the subject.
-- Key results:
--   last_none, last_some, last_missing   the sign-out that is found is the last, or there is none
--   last_tells                           a subject signed out at a moment or later, by its last
--   last_leaves                          the first moment that no sign-out reaches, by the last
--   sign_out-gone, sign_out-kept         the sign-outs but for the one at a dot
use Rattle.std.proofs.Common.{◌≡◌, ◌≢◌, ◌⊎◌, inl, inr, ℕ, ◌+◌, ◌<◌, ◌≤◌, true, false, List, Option}
use Rattle.std.proofs.Common.{Some, None, refl, sym, ap, ◌∙◌, arith, eq-eqb}
use Rattle.std.proofs.lemmas.Bool.{true≢false, false_from_ne_true, cases_Bool, eqb-true, ltb-true}
use Rattle.std.proofs.lemmas.Bool.{ltb-false, leb-true, le-leb, and_parts, and_from, cond-true}
use Rattle.std.proofs.lemmas.Bool.{cond-false}
use Rattle.std.proofs.lemmas.Cmp.{ranked, by_ranked}
use Rattle.std.proofs.lemmas.Slice.Eq.{bytes_eq-Decides}
use Rattle.std.specs.BTreeMap.Range.{range_contains}
use Rattle.std.specs.BTreeSet.{BTreeSet, contains}
use Rattle.std.specs.FinMap as map
use Rattle.std.specs.List.{find}
use Rattle.std.specs.List.Sorted.{IsStrictlySortedBy}
use Rattle.std.specs.Option.{option_and_then}
use Rattle.std.specs.Ordering.{nat_cmp, ordering_then}
use Rattle.std.specs.Prelude.{nat_lt, nat_le}
use Rattle.std.specs.declared.cmp.Ordering.TheVariants.{Less}
use Rattle.std.specs.declared.ops.Bound.TheVariants.{Included}
use Rattle.sha2.specs.Sha256.{sha256}
use Rattle.tk_handle.specs.declared.dot.Dot.{Dot}
use Rattle.tk_handle.specs.Dot.{dot_cmp, dot_cmp_total, least_dot, greatest_dot}
use Rattle.tk_handle.specs.Ranges.{max_moment}
use Rattle.tk_family.specs.Dots.{dot_eq}
use Rattle.tk_fact.specs.declared.body.Body.{Body}
use Rattle.tk_fact.specs.declared.body.Body.TheVariants.{SubjectOut}
use Rattle.tk_fact.specs.declared.subject_out.SubjectOut as out
use Rattle.tk_store.specs.FactSet.{FactSet}
use Rattle.tk_store.proofs.PutLaws.{some_injective, none_is_not_some}
use Rattle.tk_store.proofs.OneMoreLaws.{apart_at}
use Rattle.tk_ledger.specs.Bodies.{is_same_dot}
use Rattle.tk_ledger.specs.SignOuts.{IsSignedOut, is_signed_out, reaches, IsLastSignOut}
use Rattle.tk_ledger.specs.SignOuts.{IsFirstUnreached, sign_out_in, sign_out_at}
use Rattle.tk_ledger.specs.SubjectTables.{IsOuts, left_after, out_cmp, out_key, outs_of, tells_by}
use Rattle.tk_ledger.specs.SubjectTables.{tells_of}
use Rattle.tk_ledger.specs.declared.subject_keys.OutKey.{OutKey}
use Rattle.tk_ledger.proofs.KeyLaws.{same_tests}
use Rattle.tk_store.proofs.OneMoreLaws.{at_itself}
use Rattle.tk_ledger.proofs.KeySearchLaws.{among, found_passes, none_passes, first_least}
use Rattle.tk_ledger.proofs.SameLaws.{same_dot-true, same_dot-itself}
use Rattle.tk_ledger.proofs.SubjectKeyLaws.{out_listed, outs_total, out_by, out_same, out_order}
use Rattle.tk_ledger.proofs.SubjectKeyLaws.{in_outs, of_subject}
use Rattle.tk_ledger.proofs.RootLaws.{from_some}
use Rattle.tk_ledger.proofs.TokenLaws.{is_signed_out-sound, is_signed_out-complete}

-- a body that a sign-out is found in is that of the sign-out
sign_out_body : (b : Body) (f : out.SubjectOut) → sign_out_in b ≡ Some f → b ≡ SubjectOut f
sign_out_body (SubjectOut x) f h = ap (λ (y : out.SubjectOut). SubjectOut y) (some_injective x f h)
sign_out_body body f h = absurd (none_is_not_some f h)

-- the key of a sign-out of the subject
abbrev pub its_key : List ℕ → out.SubjectOut → Dot → OutKey
its_key subject f d = out_key (sha256 subject) (left_after f.moment) d

-- the key of the sign-out is in the table and in the span, and passes
record Listed (F : FactSet) (t : BTreeSet OutKey) (subject : List ℕ) (f : out.SubjectOut)
    (d : Dot) : Type 0 where
  pub at : among out_cmp (its_key subject f d) t.keys ≡ true
  pub ranged : f.moment ≤ max_moment
  pub kept : range_contains out_cmp (Included (out_key (sha256 subject) 0 least_dot))
      (Included (out_key (sha256 subject) max_moment greatest_dot)) (its_key subject f d)
      ≡ true
  pub passes : tells_of F subject (its_key subject f d) ≡ true

-- a sign-out that is held has its key in the table and in the span of its subject, and passes
listed : (F : FactSet) (t : BTreeSet OutKey) (subject : List ℕ) (moment : ℕ) → IsOuts F t
    → (s : IsSignedOut (map.get F) subject moment) → Listed F t subject s.sign_out s.place
listed F t subject moment i s =
    let there : sign_out_at (map.get F) s.place ≡ Some s.sign_out =
    ap (option_and_then sign_out_in) s.held in
    let key = out_listed F t s.place s.sign_out i there in
    record {
      at = ap (λ x. contains out_cmp t (out_key (sha256 x) (left_after s.sign_out.moment) s.place))
          (sym s.subject_is)
          ∙ key.0;
      ranged = key.2;
      kept = in_outs (sha256 subject) (left_after s.sign_out.moment) s.place (omega arith) key.1;
      passes = ap (tells_by subject (left_after s.sign_out.moment)) there
          ∙ and_from _ _ ((bytes_eq-Decides s.sign_out.subject subject).1 s.subject_is)
          (eq-eqb (left_after s.sign_out.moment) (left_after s.sign_out.moment) refl);
    }

-- if no key is found, the subject has no sign-out
pub last_none : (F : FactSet) (t : BTreeSet OutKey) (subject : List ℕ) → IsOuts F t
    → find (tells_of F subject) (outs_of t (sha256 subject)) ≡ None
    → IsLastSignOut (map.get F) subject None
last_none F t subject i h = λ moment s.
    let l = listed F t subject moment i s in
    none_passes out_cmp outs_total out_same (tells_of F subject) _ t.keys h
    (its_key subject s.sign_out s.place) l.at l.kept l.passes

-- a lesser number compares as Less
pub less_is : (a b : ℕ) → a < b → nat_cmp a b ≡ Less
less_is a b lt = by_ranked (a < b) (a ≡ b) (b < a) (nat_cmp a b) (ranked a b (nat_cmp a b) refl)
    (λ o _. o) (λ _ e. absurd (apart e)) (λ _ g. absurd (turned g))
  where
    apart : ¬ (a ≡ b)
    apart e = omega (arith, lt, e)

    turned : ¬ (b < a)
    turned g = omega (arith, lt, g)

-- of two moments, the later leaves fewer seconds
later_first : (m n : ℕ) → m < n → n ≤ max_moment → nat_cmp (left_after n) (left_after m) ≡ Less
later_first m n lt le = less_is (left_after n) (left_after m) (omega (arith, lt, le))

-- the sign-out of the key that is found is the last
pub last_some : (F : FactSet) (t : BTreeSet OutKey) (subject : List ℕ) (e : OutKey)
    (f : out.SubjectOut)
    → IsOuts F t → IsStrictlySortedBy out_cmp t.keys
    → find (tells_of F subject) (outs_of t (sha256 subject)) ≡ Some e
    → sign_out_at (map.get F) e.place ≡ Some f → IsLastSignOut (map.get F) subject (Some f.moment)
last_some F t subject e f i sorted h there =
    let found = found_passes out_cmp outs_total out_same (tells_of F subject) _ t.keys e h in
    let told = and_parts _ _ (sym (ap (tells_by subject e.left) there) ∙ found.0) in
    let b : (b : Body) × (map.get F e.place ≡ Some b) × (sign_out_in b ≡ Some f) =
    from_some sign_out_in (map.get F e.place) f there in
    let itself : e ≡ its_key subject f e.place =
    out_by e (its_key subject f e.place) (of_subject (sha256 subject) e found.1)
    (sym (eqb-true (left_after f.moment) e.left told.1)) refl in (
      record {
        place = e.place;
        sign_out = f;
        held = b.1 ∙ ap (λ (x : Body). Some x) (sign_out_body b.0 f b.2);
        subject_is = (bytes_eq-Decides f.subject subject).0 told.0;
        not_before = omega arith;
      },
      λ moment s. (let l = listed F t subject moment i s in
          no_later moment s l (cases_Bool (nat_lt f.moment s.sign_out.moment)) itself
          (first_least out_cmp outs_total out_same (tells_of F subject) _ t.keys sorted e h
          (its_key subject s.sign_out s.place) l.at l.kept l.passes)),
    )
  where
    no_later : (moment : ℕ) (s : IsSignedOut (map.get F) subject moment)
        → Listed F t subject s.sign_out s.place
        → (nat_lt f.moment s.sign_out.moment ≡ true) ⊎ (nat_lt f.moment s.sign_out.moment ≡ false)
        → e ≡ its_key subject f e.place → out_cmp (its_key subject s.sign_out s.place) e ≢ Less
        → moment ≤ f.moment
    no_later moment s l (inl later) itself first = absurd (first (
        ap (out_cmp (its_key subject s.sign_out s.place)) itself
        ∙ out_order (sha256 subject) (left_after s.sign_out.moment) (left_after f.moment) s.place
        e.place
        ∙ ap (λ o. ordering_then o (dot_cmp s.place e.place))
        (later_first f.moment s.sign_out.moment (ltb-true f.moment s.sign_out.moment later)
        l.ranged)))
    no_later moment s l (inr early) itself first =
        omega (arith, s.not_before, ltb-false f.moment s.sign_out.moment early)

-- the dot of the key that is found has a sign-out
pub last_missing : (F : FactSet) (t : BTreeSet OutKey) (subject : List ℕ) (e : OutKey)
    → find (tells_of F subject) (outs_of t (sha256 subject)) ≡ Some e
    → sign_out_at (map.get F) e.place ≡ None → ⊥
last_missing F t subject e h none =
    let found = found_passes out_cmp outs_total out_same (tells_of F subject) _ t.keys e h in
    true≢false (sym found.0 ∙ ap (tells_by subject e.left) none)

-- ---- by the last

-- a subject signed out at a moment or later exactly if the last sign-out reaches the moment
pub last_tells : (F : FactSet) (subject : List ℕ) (last : Option ℕ)
    → IsLastSignOut (map.get F) subject last → (moment : ℕ)
    → is_signed_out F subject moment ≡ reaches last moment
last_tells F subject None none moment = false_from_ne_true (is_signed_out F subject moment)
    (λ h. none moment (is_signed_out-sound F subject moment h))
last_tells F subject (Some m) last moment =
    same_tests (is_signed_out F subject moment) (nat_le moment m)
    (λ h. le-leb moment m (last.1 moment (is_signed_out-sound F subject moment h)))
    (λ h. is_signed_out-complete F subject moment (record {
      place = last.0.place;
      sign_out = last.0.sign_out;
      held = last.0.held;
      subject_is = last.0.subject_is;
      not_before = omega (arith, leb-true moment m h, last.0.not_before);
    }))

-- the first moment that no sign-out reaches is the one after the last, or the first of all
abbrev pub after : Option ℕ → ℕ
after None = 0
after (Some m) = m + 1

-- the moment after the last sign-out is the first that no sign-out reaches
pub last_leaves : (F : FactSet) (subject : List ℕ) (last : Option ℕ)
    → IsLastSignOut (map.get F) subject last → IsFirstUnreached (map.get F) subject (after last)
last_leaves F subject None none =
    record { unreached = none 0; reached = λ moment lt. absurd (below_none moment lt) }
  where
    below_none : (n : ℕ) → ¬ (n < 0)
    below_none n lt = omega (arith, lt)
last_leaves F subject (Some m) last = record {
  unreached = λ s. past (last.1 (m + 1) s);
  reached = λ moment lt. record {
    place = last.0.place;
    sign_out = last.0.sign_out;
    held = last.0.held;
    subject_is = last.0.subject_is;
    not_before = omega (arith, lt, last.0.not_before);
  };
}
  where
    past : ¬ (m + 1 ≤ m)
    past le = omega (arith, le)

-- ---- the sign-outs but for the one at a dot

-- a set without a dot has no sign-out there
pub sign_out-gone : (F : FactSet) (d q : Dot) → is_same_dot d q ≡ true
    → sign_out_at (map.get (map.remove F d)) q ≡ None
sign_out-gone F d q same = ap (option_and_then sign_out_in)
    (map.get-remove dot_cmp_total F d q
    ∙ cond-true _ _ _ (ap (λ (p : Dot). dot_eq p d) (sym (same_dot-true d q same)) ∙ at_itself d))

-- a set without a dot has its sign-outs at the others
pub sign_out-kept : (F : FactSet) (d q : Dot) → is_same_dot d q ≡ false
    → sign_out_at (map.get (map.remove F d)) q ≡ sign_out_at (map.get F) q
sign_out-kept F d q apart = ap (option_and_then sign_out_in)
    (map.get-remove dot_cmp_total F d q
    ∙ cond-false _ _ _
    (apart_at q d
    (λ same. true≢false (sym (same_dot-itself d) ∙ ap (is_same_dot d) (sym same) ∙ apart))))
