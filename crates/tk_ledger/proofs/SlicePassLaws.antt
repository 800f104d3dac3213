-- The facts that may go, and a pass of a prune. Key results:
--   goes_over, goes_fully          the tests of a fact that may go, and the relation
--   go_known, absent_stays         a fact that may go is held, and is not refused
--   pass_ends                      a pass by which no fact goes leaves none that may go
use Rattle.std.proofs.Common.{◌≡◌, ◌≢◌, ◌⊎◌, inl, inr, ℕ, ◌<◌, max, true, false, not, List, [], ◌∷◌}
use Rattle.std.proofs.Common.{Option, Some, None, refl, sym, ap, subst, ◌∙◌, arith}
use Rattle.std.proofs.lemmas.Bool.{true≢false, cases_Bool, and_cases}
use Rattle.std.specs.FinMap as map
use Rattle.tk_handle.specs.declared.dot.Dot.{Dot}
use Rattle.tk_fact.specs.Keeping.{is_passing, names_of}
use Rattle.tk_fact.specs.declared.body.Body.{Body}
use Rattle.tk_fact.specs.declared.body.Body.TheVariants.{CodeRedeemed, RefreshRotated, TokenRevoked}
use Rattle.tk_fact.specs.declared.body.Body.TheVariants.{ReuseSeen, AccessRefreshed}
use Rattle.tk_store.specs.Skipping.{MayGo}
use Rattle.tk_store.specs.StoreFields.{StoreFields, held_facts, with_horizon}
use Rattle.tk_store.proofs.PutLaws.{none_is_not_some, some_injective}
use Rattle.tk_store.proofs.SlotLaws.{get_held}
use Rattle.tk_ledger.specs.Retention.{may_skip}
use Rattle.tk_ledger.specs.Slices.{Goes, is_any_skipped, Went, Stays, is_past, is_between}
use Rattle.tk_ledger.specs.Slices.{LooksOver, Turn, IsIdle, PassEnds}
use Rattle.tk_ledger.proofs.RetentionLaws.{may_skip-sound, may_skip-complete}
use Rattle.tk_ledger.proofs.SkipLaws.{passing_kept, may_go}
use Rattle.tk_ledger.specs.declared.slices.Slice.{Slice}
use Rattle.tk_ledger.proofs.SliceLaws.{turned, went_same}
use Rattle.tk_handle.proofs.TestLaws.{some_none}

-- ---- a fact that may go

-- a fact that may be skipped at the horizon, by the facts held, may go
pub goes_over : (P : StoreFields) (d : Dot) (b : Body) → map.get (held_facts P) d ≡ Some b
    → may_skip (held_facts P) P.horizon (d, b) ≡ true → Goes P d
goes_over P d b here over = inl (may_skip-sound (held_facts P) P.horizon d b here over)

-- a fact that may go is of a family that is over, or names a skipped dot
pub goes_fully : (P : StoreFields) (d : Dot) (b : Body) → map.get (held_facts P) d ≡ Some b
    → is_any_skipped P.slots (names_of b) ≡ false → Goes P d
    → may_skip (held_facts P) P.horizon (d, b) ≡ true
goes_fully P d b here none (inl may) = ap (λ (x : Body). may_skip (held_facts P) P.horizon (d, x))
    (some_injective b may.fact (sym here ∙ may.here))
    ∙ may_skip-complete (held_facts P) P.horizon d may
goes_fully P d b here none (inr names) = absurd
    (true≢false
    (sym (ap (λ (x : Body). is_any_skipped P.slots (names_of x))
    (some_injective b names.fact (sym here ∙ names.here))
    ∙ ap (is_any_skipped P.slots) names.names ∙ names.skipped)
    ∙ none))

-- a dot without a fact does not go
pub absent_stays : (P : StoreFields) (d : Dot) → map.get (held_facts P) d ≡ None → Goes P d → ⊥
absent_stays P d none (inl may) = none_is_not_some may.fact (sym none ∙ may.here)
absent_stays P d none (inr names) = none_is_not_some names.fact (sym none ∙ names.here)

-- a fact that names a dot passes
pub names_passing : (b : Body) (q : Dot) → names_of b ≡ Some q → is_passing b ≡ true
names_passing (CodeRedeemed f) q h = refl
names_passing (RefreshRotated f) q h = refl
names_passing (TokenRevoked f) q h = refl
names_passing (ReuseSeen f) q h = refl
names_passing (AccessRefreshed f) q h = refl
names_passing b q h = absurd (none_is_not_some q h)

-- the store does not refuse to skip a fact that may go
pub go_known : (P : StoreFields) (d : Dot) → Goes P d → MayGo (map.get P.slots d)
go_known P d (inl may) = may_go (map.get P.slots d) may.fact (sym (get_held P.slots d) ∙ may.here)
    (passing_kept d may.fact may.token may.kept)
go_known P d (inr names) = may_go (map.get P.slots d) names.fact
    (sym (get_held P.slots d) ∙ names.here) (names_passing names.fact names.named names.names)

-- ---- a pass

-- the facts between the cursors of a slice by which no fact goes may not go
slice_idle : (P Q : StoreFields) (after : Option Dot) (count : ℕ) (s : Slice)
    → LooksOver P after count s Q → 0 < count → s.gone ≡ 0 → (d : Dot)
    → is_between after s.at d ≡ true → Goes P d → ⊥
slice_idle P Q after count s looks some none d between go = by (looks.left some d between held)
  where
    same : Q ≡ P
    same = went_same P Q (subst (λ n. Went P n Q) none looks.went)

    held : map.get (held_facts Q) d ≢ None
    held free =
        absent_stays P d (ap (λ (R : StoreFields). map.get (held_facts R) d) (sym same) ∙ free) go

    -- nothing had gone when the fact was looked at
    by : Stays P s.gone Q d → ⊥
    by x = x.stays
        (subst (λ (R : StoreFields). Goes R d)
        (sym (went_same P x.seen
        (subst (λ k. Went P k x.seen) (let a = x.all in omega (arith, a, none)) x.first))) go)

-- a dot that is not between two cursors is past both, if it is past the first
further : (after o : Option Dot) (d : Dot) → is_past after d ≡ true → is_between after o d ≡ false
    → (o ≢ None) × (is_past o d ≡ true)
further after None d past out = absurd (true≢false (sym past ∙ out))
further after (Some e) d past out = (
  some_none e,
  elim (and_cases (is_past after d) (not (is_past (Some e) d)) out) [
    | inl low ↦ absurd (true≢false (sym past ∙ low))
    | inr high ↦ turned (is_past (Some e) d) high
  ],
)

-- raising the horizon to a moment twice is raising it once
raised_again : (old P : StoreFields) (moment : ℕ) → P ≡ with_horizon old moment
    → with_horizon P moment ≡ with_horizon old moment
raised_again old P moment same = ap (λ (R : StoreFields). with_horizon R moment) same
    ∙ (let e : max (max old.horizon moment) moment ≡ max old.horizon moment = omega arith in
    λ i. record { slots = old.slots; horizon = e i })

-- for `pass_ends`: no fact past the cursor may go if no slice from there on lets one go
idle : (old : StoreFields) (moment : ℕ) (after : Option Dot) (ts : List Turn) (d : Dot)
    → IsIdle old moment after ts → is_past after d ≡ true → after ≢ None ⊎ (ts ≢ [])
    → Goes (with_horizon old moment) d → ⊥
idle old moment after [] d is past some go =
    elim some [ inl cursor ↦ cursor is | inr more ↦ more refl ]
idle old moment after (t ∷ ts) d is past some go =
    elim (cases_Bool (is_between after t.slice.at d)) [
      | inl between ↦
          slice_idle (with_horizon old moment) t.store after t.count t.slice is.2 is.0 is.1 d
          between go
      | inr out ↦
          let on = further after t.slice.at d past out in
          let same : t.store ≡ with_horizon old moment =
          went_same (with_horizon old moment) t.store
          (subst (λ n. Went (with_horizon old moment) n t.store) is.1 is.2.went) in
          idle t.store moment t.slice.at ts d is.3 on.1 (inl on.0)
          (subst (λ (R : StoreFields). Goes R d) (sym (raised_again old t.store moment same)) go)
    ]

-- a pass by which no fact goes leaves none that may go
pub pass_ends : PassEnds
pass_ends old moment t ts is d go =
    idle old moment None (t ∷ ts) d is refl (inr (λ e. cons_some e)) go
  where
    cons_some : t ∷ ts ≡ [] → ⊥
    cons_some e = cc
