-- The test of what may be skipped decides the relation, and all that may be skipped is listed. Key
-- results:
--   may_skip-sound, may_skip-complete   the test and the relation
--   dots_over-sound, dots_over-complete
--       the dots of exactly the facts that may be skipped are listed
use Rattle.std.proofs.Common.{map as map_list, ◌≡◌, ◌⊎◌, inl, inr, ℕ, Bool, true, false, ◌&&◌, ◌||◌}
use Rattle.std.proofs.Common.{not}
use Rattle.std.proofs.Common.{[], ◌∷◌, filter, Option, Some, None, refl, sym, ap, ◌∙◌}
use borrow.Author.Tests.{le-leb}
use Rattle.std.proofs.lemmas.Bool.{true≢false, cases_Bool, leb-true, cond-true, cond-false}
use Rattle.std.proofs.lemmas.Bool.{or_cases, or_left, or_right, and_parts, and_from}
use Rattle.std.specs.FinMap as map
use Rattle.std.specs.List.{list_any}
use Rattle.tk_handle.specs.declared.dot.Dot.{Dot}
use Rattle.tk_handle.specs.declared.token_id.TokenId.{TokenId}
use Rattle.tk_family.specs.Dots.{dot_eq, has}
use Rattle.tk_family.proofs.DotLaws.{has-append, has-left, has-right}
use Rattle.tk_fact.specs.declared.body.Body.{Body}
use Rattle.tk_fact.specs.Keeping.{kept_for}
use Rattle.tk_store.specs.FactSet.{FactSet, Facts}
use Rattle.tk_store.proofs.EntryLaws.{Passing, any_fact-held, any_fact-of}
use Rattle.tk_handle.proofs.TestLaws.{tied}
use Rattle.tk_ledger.specs.Retention.{mints, IsOverAt, MintsNothing, MaySkip, is_over_by}
use Rattle.tk_ledger.specs.Retention.{mints_nothing}
use Rattle.tk_ledger.specs.Retention.{is_over, is_any_over, may_skip, issues, picks_code}
use Rattle.tk_ledger.specs.Retention.{picks_other, picked, dots_over}
use Rattle.tk_ledger.specs.Tokens.{Root, root_in}
use Rattle.tk_store.proofs.OneMoreLaws.{at_itself}
use Rattle.tk_ledger.proofs.RootLaws.{root-sound, root-complete}

-- ---- the test

-- a dot whose body mints nothing, by the test, has a fact that mints nothing
barren_here : (F : FactSet) (d : Dot) (o : Option Body) → map.get F d ≡ o → mints_nothing o ≡ true
    → MintsNothing (map.get F) d
barren_here F d None at h = absurd (true≢false (sym h))
barren_here F d (Some b) at h = by (mints b) refl h
  where
    by : (t : Bool) → mints b ≡ t → not t ≡ true → MintsNothing (map.get F) d
    by false is h = record { fact = b; here = at; barren = is }
    by true is h = absurd (true≢false (sym h))

-- a dot whose root is over, by the test, is in a family that is over at the horizon
over_root : (F : FactSet) (horizon : ℕ) (d : Dot) (o : Option Root) → root_in (map.get F) d ≡ o
    → is_over_by horizon o ≡ true → IsOverAt (map.get F) horizon d
over_root F horizon d None j h = absurd (true≢false (sym h))
over_root F horizon d (Some root) j h =
    let p = root-sound F d root j in
    record {
      root = root.code;
      under = p.0;
      code = root.issued;
      issues = p.1;
      over = leb-true root.issued.family_end horizon h;
    }

-- what is over by the test is in a family that is over, or at a fact that mints nothing
over_why : (F : FactSet) (horizon : ℕ) (k : TokenId) → is_over F horizon k ≡ true
    → IsOverAt (map.get F) horizon k.dot ⊎ MintsNothing (map.get F) k.dot
over_why F horizon k h = elim (or_cases (mints_nothing (map.get F k.dot))
    (is_over_by horizon (root_in (map.get F) k.dot)) h) [
      | inl nothing ↦ inr (barren_here F k.dot (map.get F k.dot) refl nothing)
      | inr over ↦ inl (over_root F horizon k.dot (root_in (map.get F) k.dot) refl over)
    ]

-- a fact that the test lets go may be skipped
pub may_skip-sound : (F : FactSet) (horizon : ℕ) (d : Dot) (b : Body) → map.get F d ≡ Some b
    → may_skip F horizon (d, b) ≡ true → MaySkip (map.get F) horizon d
may_skip-sound F horizon d b here h = by_token (kept_for d b) refl h
  where
    by_token : (o : Option TokenId) → kept_for d b ≡ o → is_any_over F horizon o ≡ true
        → MaySkip (map.get F) horizon d
    by_token None kept h = absurd (true≢false (sym h))
    by_token (Some k) kept h =
        record { fact = b; here = here; token = k; kept = kept; why = over_why F horizon k h }

-- what is in a family that is over, or at a fact that mints nothing, is over by the test
why_over : (F : FactSet) (horizon : ℕ) (k : TokenId)
    → IsOverAt (map.get F) horizon k.dot ⊎ MintsNothing (map.get F) k.dot
    → is_over F horizon k ≡ true
why_over F horizon k (inl o) =
    or_right (mints_nothing (map.get F k.dot)) (is_over_by horizon (root_in (map.get F) k.dot))
    (ap (is_over_by horizon) (root-complete F k.dot o.root o.code o.under o.issues)
    ∙ le-leb o.code.family_end horizon o.over)
why_over F horizon k (inr n) =
    or_left (mints_nothing (map.get F k.dot)) (is_over_by horizon (root_in (map.get F) k.dot))
    (ap mints_nothing n.here ∙ ap not n.barren)

-- the test lets each fact go that may be skipped
pub may_skip-complete : (F : FactSet) (horizon : ℕ) (d : Dot) (s : MaySkip (map.get F) horizon d)
    → may_skip F horizon (d, s.fact) ≡ true
may_skip-complete F horizon d s =
    ap (is_any_over F horizon) s.kept ∙ why_over F horizon s.token s.why

-- ---- all facts that may be skipped

-- a fact is at the dot, and passes the test
abbrev at_dot : (Dot × Body → Bool) → Dot → Dot × Body → Bool
at_dot p q f = p f && dot_eq q f.0

-- the dots of the facts that pass have a dot exactly if a fact at the dot passes
has_picked : (p : Dot × Body → Bool) (fs : Facts) (q : Dot)
    → has (picked p fs) q ≡ list_any (at_dot p q) fs
has_picked p [] q = refl
has_picked p (f ∷ fs) q = elim (cases_Bool (p f)) [
  | inl passes ↦
      ap (λ xs. has (map_list (λ (g : Dot × Body). g.0) xs) q)
      (cond-true (p f) (f ∷ filter p fs) (filter p fs) passes)
      ∙ ap (λ a. (a && dot_eq q f.0) || has (picked p fs) q) (sym passes)
      ∙ ap (λ a. (p f && dot_eq q f.0) || a) (has_picked p fs q)
  | inr fails ↦
      ap (λ xs. has (map_list (λ (g : Dot × Body). g.0) xs) q)
      (cond-false (p f) (f ∷ filter p fs) (filter p fs) fails)
      ∙ ap (λ a. (a && dot_eq q f.0) || has (picked p fs) q) (sym fails)
      ∙ ap (λ a. (p f && dot_eq q f.0) || a) (has_picked p fs q)
]

-- a dot among those of the facts that pass is one of a fact that passes
picked-sound : (p : Dot × Body → Bool) (F : FactSet) (q : Dot)
    → has (picked p (map.entries F)) q ≡ true
    → (b : Body) × (map.get F q ≡ Some b) × (p (q, b) ≡ true)
picked-sound p F q h =
    let x : Passing (at_dot p q) F =
    any_fact-held (at_dot p q) F (sym (has_picked p (map.entries F) q) ∙ h) in
    let both = and_parts (p (x.dot, x.body)) (dot_eq q x.dot) x.passes in
    let same : q ≡ x.dot = tied q x.dot both.1 in
    (x.body, ap (map.get F) same ∙ x.held, ap (λ (d : Dot). p (d, x.body)) same ∙ both.0)

-- the dot of a held fact that passes is among those of the facts that pass
picked-complete : (p : Dot × Body → Bool) (F : FactSet) (q : Dot) (b : Body) → map.get F q ≡ Some b
    → p (q, b) ≡ true → has (picked p (map.entries F)) q ≡ true
picked-complete p F q b held passes = has_picked p (map.entries F) q
    ∙ any_fact-of (at_dot p q) F q b held (and_from _ _ passes (at_itself q))

-- each dot that is listed may be skipped
pub dots_over-sound : (F : FactSet) (horizon : ℕ) (q : Dot) → has (dots_over F horizon) q ≡ true
    → MaySkip (map.get F) horizon q
dots_over-sound F horizon q h = elim (has-append (picked (picks_code F horizon) (map.entries F))
    (picked (picks_other F horizon) (map.entries F)) q h) [
      | inl code ↦
          let x : (b : Body) × (map.get F q ≡ Some b) × (picks_code F horizon (q, b) ≡ true) =
          picked-sound (picks_code F horizon) F q code in
          may_skip-sound F horizon q x.0 x.1
          (and_parts (issues x.0) (may_skip F horizon (q, x.0)) x.2).1
      | inr other ↦
          let x : (b : Body) × (map.get F q ≡ Some b) × (picks_other F horizon (q, b) ≡ true) =
          picked-sound (picks_other F horizon) F q other in
          may_skip-sound F horizon q x.0 x.1
          (and_parts (not (issues x.0)) (may_skip F horizon (q, x.0)) x.2).1
    ]

-- each dot that may be skipped is listed
pub dots_over-complete : (F : FactSet) (horizon : ℕ) (q : Dot) → MaySkip (map.get F) horizon q
    → has (dots_over F horizon) q ≡ true
dots_over-complete F horizon q s = elim (cases_Bool (issues s.fact)) [
  | inl code ↦ has-left (picked (picks_code F horizon) (map.entries F))
      (picked (picks_other F horizon) (map.entries F)) q
      (picked-complete (picks_code F horizon) F q s.fact s.here
      (and_from (issues s.fact) (may_skip F horizon (q, s.fact)) code
      (may_skip-complete F horizon q s)))
  | inr other ↦ has-right (picked (picks_code F horizon) (map.entries F))
      (picked (picks_other F horizon) (map.entries F)) q
      (picked-complete (picks_other F horizon) F q s.fact s.here
      (and_from (not (issues s.fact)) (may_skip F horizon (q, s.fact)) (ap not other)
      (may_skip-complete F horizon q s)))
]
