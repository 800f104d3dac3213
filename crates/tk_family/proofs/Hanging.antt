-- Going through the children of a dot. Key results:
--   Pushing        the loop's invariant
--   Pushing-from   the first child and the entries of the span are the candidates
--   Pushing-turns  a candidate is pushed if it fits
--   Pushing-ends   behind the last candidate all that fit are pushed
use Rattle.std.proofs.Common.{◌≡◌, inl, inr, ℕ, ◌+◌, ◌<◌, ◌≤◌, Bool, true, false, not, cond, Option}
use Rattle.std.proofs.Common.{None, Some, List, [], ◌∷◌, ◌++◌, length, filter, ap, sym, ◌∙◌, refl}
use Rattle.std.proofs.Common.{arith, subst, append_assoc, append-nil, length-append}
use Rattle.std.proofs.lemmas.Bool.{true≢false, cases_Bool, false_from_ne_true, and_parts, and_from}
use Rattle.std.proofs.lemmas.Map.Keys.{IsDistinct-cons}
use Rattle.std.specs.BTreeSet.{BTreeSet, IsOrdered}
use Rattle.std.specs.List.{IsDistinct}
use Rattle.tk_handle.specs.declared.dot.Dot.{Dot}
use Rattle.tk_handle.specs.declared.token_id.TokenId.{TokenId}
use Rattle.tk_family.specs.declared.children.Child.{Child}
use Rattle.tk_family.specs.declared.link.Link.{Link}
use Rattle.tk_family.specs.declared.link.Link.TheVariants.{Code, Redeems, Rotates}
use Rattle.tk_family.specs.Children.{child_cmp, token_at, others_in, users_in}
use Rattle.tk_family.specs.Dots.{dot_eq, has}
use Rattle.tk_family.specs.Families.{Links}
use Rattle.tk_family.specs.Kept.{has_dot, Hangs}
use Rattle.tk_family.specs.Puts.{fits_at, FitsAll, Pushes}
use Rattle.tk_family.specs.Rows.{grant_kind, named_of}
use Rattle.tk_family.specs.Takes.{IsShort}
use Rattle.tk_family.specs.Uses.{uses_by}
use Rattle.tk_family.proofs.DotLaws.{has-cons, has-here, has-there, dot_eq-same, dot_eq-true}
use Rattle.tk_family.proofs.Filters.{has-filter, filter-has, apart_all, IsDistinct-filter}
use Rattle.tk_family.proofs.Filters.{filter-push, joined, length-filter-kept}
use Rattle.tk_family.proofs.ChildLaws.{dots_of, users-has, has-users, users-distinct}
use Rattle.tk_family.proofs.UseLaws.{uses_named}

-- ---- the children that may fit

-- the list has only dots whose links name x, and all that fit the link above
pub record Candidates (f : Links) (x : Dot) (above : Link) (list : List Dot) : Type 0 where
  pub sound : (e : Dot) → has list e ≡ true → named_of (f e) ≡ Some x
  pub all : (e : Dot) → named_of (f e) ≡ Some x → fits_at (f e) above ≡ true → has list e ≡ true
  pub distinct : IsDistinct dot_eq list

-- a link that fits the link above uses the grant that this mints
fits_uses : (o : Option Link) (x : Dot) (above : Link) → named_of o ≡ Some x
    → fits_at o above ≡ true → uses_by o (token_at x (grant_kind above)) ≡ true
fits_uses None x above names fit = absurd (true≢false (sym fit))
fits_uses (Some Code) x above names fit = absurd (true≢false (sym fit))
fits_uses (Some (Redeems c)) x Code names fit = let both : Some c ≡ Some x = names in
    let same : c ≡ x = cc in
    and_from _ _ (subst (λ (y : Dot). dot_eq c y ≡ true) same (dot_eq-same c)) refl
fits_uses (Some (Redeems c)) x (Redeems e) names fit = absurd (true≢false (sym fit))
fits_uses (Some (Redeems c)) x (Rotates e g) names fit = absurd (true≢false (sym fit))
fits_uses (Some (Rotates c g)) x Code names fit = absurd (true≢false (sym fit))
fits_uses (Some (Rotates c g)) x (Redeems e) names fit = let both : Some c ≡ Some x = names in
    let same : c ≡ x = cc in
    and_from _ _ (subst (λ (y : Dot). dot_eq c y ≡ true) same (dot_eq-same c)) refl
fits_uses (Some (Rotates c g)) x (Rotates e h) names fit = let both : Some c ≡ Some x = names in
    let same : c ≡ x = cc in
    and_from _ _ (subst (λ (y : Dot). dot_eq c y ≡ true) same (dot_eq-same c)) refl

-- the first child, if there is one
abbrev pub listed : Option Dot → List Dot
listed None = []
listed (Some e) = e ∷ []

-- the children of x that may fit: the first, and those in the set that use the grant
pub Candidates-from : (f : Links) (first : Dot → Option Dot) (s : BTreeSet Child) (x : Dot)
    (above : Link) (o : Option Dot)
    → Hangs f first (others_in s) → IsOrdered child_cmp s → first x ≡ o
    → Candidates f x above (listed o ++ dots_of (users_in s (token_at x (grant_kind above))))
Candidates-from f first s x above None h ordered is =
    let t : TokenId = token_at x (grant_kind above) in
    record {
      sound =
          λ e e_in. uses_named (f e) t (and_parts _ _ (sym (h.rest t e) ∙ has-users s t e e_in)).0;
      all = λ e names fit. absurd (h.none x e is names);
      distinct = users-distinct s t ordered;
    }
Candidates-from f first s x above (Some y) h ordered is =
    let t : TokenId = token_at x (grant_kind above) in
    let ds : List Dot = dots_of (users_in s t) in
    let apart : (e : Dot) → has ds e ≡ true → dot_eq y e ≡ false =
    λ e e_in. not_true (dot_eq y e)
    (ap (λ (o : Option Dot). not (has_dot o e)) (sym is)
    ∙ (and_parts _ _ (sym (h.rest t e) ∙ has-users s t e e_in)).1) in
    let none : has ds y ≡ false =
    false_from_ne_true (has ds y) (λ y_in. true≢false (sym (dot_eq-same y) ∙ apart y y_in)) in
    record {
      sound = λ e e_in. elim (has-cons y ds e e_in) [
        | inl same ↦ ap (λ (z : Dot). named_of (f z)) same ∙ h.named x y is
        | inr more ↦ uses_named (f e) t (and_parts _ _ (sym (h.rest t e) ∙ has-users s t e more)).0
      ];
      all = λ e names fit. elim (cases_Bool (dot_eq y e)) [
        | inl same ↦
            subst (λ (z : Dot). has (y ∷ ds) z ≡ true) (dot_eq-true y e same) (has-here y ds)
        | inr other ↦
            let at : others_in s t e ≡ true = h.rest t e
            ∙ and_from _ _ (fits_uses (f e) x above names fit)
            (ap (λ (o : Option Dot). not (has_dot o e)) is ∙ ap not other) in
            has-there y ds e (users-has s t e at (h.ranged t e at))
      ];
      distinct = IsDistinct-cons dot_eq y ds (apart_all y ds none) (users-distinct s t ordered);
    }
  where
    not_true : (b : Bool) → not b ≡ true → b ≡ false
    not_true true h = absurd (true≢false (sym h))
    not_true false h = refl

-- ---- the loop

-- the invariant: the list has the fitting dots of those seen, and `rest` is left
pub record Pushing (f : Links) (x : Dot) (above : Link) (rest old now : List Dot) : Type 0 where
  pub seen : List Dot
  pub names : Candidates f x above (seen ++ rest)
  pub after : now ≡ old ++ filter (λ e. fits_at (f e) above) seen

-- before the first candidate nothing is pushed
pub Pushing-starts : (f : Links) (x : Dot) (above : Link) (rest old : List Dot)
    → Candidates f x above rest → Pushing f x above rest old old
Pushing-starts f x above rest old names =
    record { seen = []; names = names; after = sym (append-nil old) }

-- a candidate is pushed if it fits
pub Pushing-turns : (f : Links) (x : Dot) (above : Link) (e : Dot) (rest old now then : List Dot)
    → Pushing f x above (e ∷ rest) old now → then ≡ cond (fits_at (f e) above) (now ++ e ∷ []) now
    → Pushing f x above rest old then
Pushing-turns f x above e rest old now then p h =
    let q : Dot → Bool = λ z. fits_at (f z) above in
    record {
      seen = p.seen ++ e ∷ [];
      names = subst (λ (l : List Dot). Candidates f x above l)
          (sym (append_assoc p.seen (e ∷ []) rest)) p.names;
      after = h ∙ (ap (λ (l : List Dot). cond (q e) (l ++ e ∷ []) l) p.after
          ∙ (joined (q e) old (filter q p.seen) e
          ∙ ap (λ (l : List Dot). old ++ l) (sym (filter-push q p.seen e))));
    }

-- the candidates that fit are all the children that fit
FitsAll-candidates : (f : Links) (x : Dot) (above : Link) (list : List Dot)
    → Candidates f x above list → FitsAll f x above (filter (λ z. fits_at (f z) above) list)
FitsAll-candidates f x above list n =
    let q : Dot → Bool = λ z. fits_at (f z) above in
    record {
      names = λ e h. n.sound e (has-filter q list e h).0;
      fitting = λ e h. (has-filter q list e h).1;
      all = λ e names fitting. filter-has q list e (n.all e names fitting) fitting;
      distinct = IsDistinct-filter q list n.distinct;
    }

-- behind the last candidate all that fit are pushed
pub Pushing-ends : (f : Links) (x : Dot) (above : Link) (old now : List Dot)
    → Pushing f x above [] old now → Pushes f x above old now
Pushing-ends f x above old now p = record {
  children = filter (λ z. fits_at (f z) above) p.seen;
  after = p.after;
  fit = FitsAll-candidates f x above p.seen
      (subst (λ (l : List Dot). Candidates f x above l) (append-nil p.seen) p.names);
}

-- ---- a list that has no room for the children

-- there is too little room for the candidates if one fits and the list is full
pub Pushing-short : (f : Links) (x : Dot) (above : Link) (e : Dot) (rest old now : List Dot)
    (room : ℕ)
    → Pushing f x above (e ∷ rest) old now → fits_at (f e) above ≡ true → room ≤ length now
    → IsShort f x above old room
Pushing-short f x above e rest old now room p kept full =
    let q : Dot → Bool = λ z. fits_at (f z) above in
    let all : List Dot = filter q (p.seen ++ e ∷ rest) in
    let less : length (filter q p.seen) < length all = length-filter-kept q p.seen e rest kept in
    let so_long : length now ≡ length old + length (filter q p.seen) =
    ap length p.after ∙ length-append old (filter q p.seen) in
    let long : length (old ++ all) ≡ length old + length all = length-append old all in
    record {
      children = all;
      fit = FitsAll-candidates f x above (p.seen ++ e ∷ rest) p.names;
      short = omega arith;
    }

-- ---- the start of the loop

-- the first child and the entries of the span are the candidates
pub Pushing-from : (f : Links) (first : Dot → Option Dot) (s : BTreeSet Child) (x : Dot)
    (above : Link) (o : Option Dot) (cs : List Child) (old : List Dot)
    → Hangs f first (others_in s) → IsOrdered child_cmp s → first x ≡ o
    → cs ≡ users_in s (token_at x (grant_kind above))
    → Pushing f x above (listed o ++ dots_of cs) old old
Pushing-from f first s x above o cs old h ordered is span =
    Pushing-starts f x above (listed o ++ dots_of cs) old
    (subst (λ (l : List Child). Candidates f x above (listed o ++ dots_of l)) (sym span)
    (Candidates-from f first s x above o h ordered is))

-- the first child is pushed
pub Pushing-first : (f : Links) (x : Dot) (above : Link) (o : Option Dot) (e : Dot)
    (rest old then : List Dot)
    → o ≡ Some e → Pushing f x above (listed o ++ rest) old old
    → then ≡ cond (fits_at (f e) above) (old ++ e ∷ []) old → Pushing f x above rest old then
Pushing-first f x above o e rest old then is p h =
    Pushing-turns f x above e rest old old then
    (subst (λ (q : Option Dot). Pushing f x above (listed q ++ rest) old old) is p) h
