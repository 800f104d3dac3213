-- The law of values of several kinds (own). The format of a list of kinds has a law built from a
-- list of laws: `kind_exact .. and_then .. and_then no_kind_exact`.
use Rattle.std.proofs.Common.{◌≡◌, ℕ, true, false, cond, eqb, List, [], ◌∷◌, ◌++◌, Option, Some}
use Rattle.std.proofs.Common.{None, refl, sym, ap, subst, ◌∙◌}
use Rattle.std.proofs.lemmas.Bool.{eqb-true, eq-eqb}
use Rattle.std.proofs.lemmas.Option.{none-some}
use Rattle.tk_format.specs.Format.{Format, via, Kinds, no_kind, spelled_by, FitsBy, kind, one_of}
use Rattle.tk_format.specs.Exact.{done, none_of, IsBytes, IsExact, Takes, some_is}
use Rattle.tk_format.specs.NumberLaws.{IsBytes-rest}
use Rattle.tk_format.specs.CaseLaws.{via_takes, via_again, case_takes}

-- the law of the empty list of kinds, in which no value has a spelling
pub no_kind_exact : {B : Type 0} → IsExact (one_of (no_kind {B = B}))
no_kind_exact {B} = record {
  takes = λ bytes x fits e. absurd (nothing_read bytes x e);
  again = λ b rest fits. absurd fits;
}
  where
    nothing_read : (bytes : List ℕ) (x : B × List ℕ)
        → (one_of (no_kind {B = B})).read bytes ≡ Some x → ⊥
    nothing_read [] x e = cc
    nothing_read (t ∷ bytes) x e = cc

-- what a kind in front of the others owes: `of` gives the fields that the constructor took, no
-- other kind has its byte, and the others spell none of its values
pub record IsKind {A B : Type 0} (k : ℕ) (into : A → B) (of : B → Option A)
    (others : Kinds B) : Type 0 where
  pub made : (a : A) → of (into a) ≡ Some a
  pub back : (b : B) (a : A) → of b ≡ Some a → into a ≡ b
  pub apart : (a : A) → others.Fits (into a) → ⊥
  pub once : (bytes : List ℕ) → others.read k bytes ≡ None

-- a value that is read as one of these kinds is spelled by the bytes taken
kind_takes : {A B : Type 0} (k : ℕ) (into : A → B) (of : B → Option A) (f : Format A)
    (others : Kinds B) → IsExact f → IsKind k into of others → IsExact (one_of others)
    → (bytes : List ℕ) (x : B × List ℕ) → IsBytes bytes
    → (one_of (kind k into of f others)).read bytes ≡ Some x
    → Takes bytes ((kind k into of f others).spell x.0) x.1 × (kind k into of f others).Fits x.0
kind_takes k into of f others p is q [] x fits e = absurd cc
kind_takes {A} {B} k into of f others p is q (t ∷ bytes) x fits e =
    case_takes t k (via into f bytes) (others.read t bytes) x Taken
    (λ at h. via_takes into f p bytes x Taken (IsBytes-rest t bytes fits) (here at) h)
    (λ h. later x (of x.0) refl (q.takes (t ∷ bytes) x fits h)) e
  where
    By : (x : B × List ℕ) → Option A → Type 0
    By x o = Takes (t ∷ bytes) (spelled_by k f o (others.spell x.0)) x.1
        × FitsBy f o (others.Fits x.0)

    Taken : B × List ℕ → Type 0
    Taken x = By x (of x.0)

    here : t ≡ k → (a : A) (rest : List ℕ) → Takes bytes (f.spell a) rest → f.Fits a
        → Taken (into a, rest)
    here at a rest taken fit =
        subst (By (into a, rest)) (sym (is.made a)) (
          record {
            parts = ap (λ n. n ∷ bytes) at ∙ ap (λ (s : List ℕ). k ∷ s) taken.parts;
            rest_fits = taken.rest_fits;
          },
          fit,
        )

    later : (x : B × List ℕ) (o : Option A) → of x.0 ≡ o
        → Takes (t ∷ bytes) (others.spell x.0) x.1 × others.Fits x.0 → By x o
    later x None has h = h
    later x (Some a) has h = absurd (is.apart a (subst others.Fits (sym (is.back x.0 a has)) h.1))

-- the spelling of a value of one of these kinds is read as that value
kind_again : {A B : Type 0} (k : ℕ) (into : A → B) (of : B → Option A) (f : Format A)
    (others : Kinds B) → IsExact f → IsKind k into of others → IsExact (one_of others)
    → (b : B) (rest : List ℕ) → (kind k into of f others).Fits b
    → (one_of (kind k into of f others)).read ((kind k into of f others).spell b ++ rest)
    ≡ Some (b, rest)
kind_again {A} {B} k into of f others p is q b rest fits = by_fields (of b) refl fits
  where
    past : (bytes : List ℕ) (x : B × List ℕ) → (one_of others).read bytes ≡ Some x
        → (one_of (kind k into of f others)).read bytes ≡ Some x
    past [] x e = absurd cc
    past (t ∷ bytes) x e =
        (elim (eqb t k) as (λ c. eqb t k ≡ c
        → cond c (via into f bytes) (others.read t bytes) ≡ Some x) [
          | true ↦ λ h. absurd
              (none-some x (sym (is.once bytes)
              ∙ ap (λ n. others.read n bytes) (sym (eqb-true t k h)) ∙ e))
          | false ↦ λ h. e
        ]) refl

    by_fields : (o : Option A) → of b ≡ o → FitsBy f o (others.Fits b)
        → (one_of (kind k into of f others)).read (spelled_by k f o (others.spell b) ++ rest)
        ≡ Some (b, rest)
    by_fields None has h = past (others.spell b ++ rest) (b, rest) (q.again b rest h)
    by_fields (Some a) has h =
        rw (eq-eqb k k refl)
        (via_again into f p a rest h ∙ ap (λ c. Some (c, rest)) (is.back b a has))

-- for `kind_exact`: a value made by the constructor has the fields that the constructor took
pub its : {A B : Type 0} (into : A → B) (fields a : A) → done fields ≡ done a → into a ≡ into fields
its into fields a e = ap into (sym (some_is fields a e))

-- for `kind_exact`: a value of another kind has no fields of this kind
pub not_its : {A B : Type 0} (into : A → B) (b : B) (a : A) → none_of A ≡ done a → into a ≡ b
not_its into b a e = absurd (none-some a e)

-- the law of `kind`: if the other kinds have theirs, so has the longer list
pub kind_exact : {A B : Type 0} {k : ℕ} {into : A → B} (of : B → Option A) {f : Format A}
    (others : Kinds B)
    → IsExact f → ((b : B) (a : A) → of b ≡ Some a → into a ≡ b) → ((a : A) → of (into a) ≡ Some a)
    → ((a : A) → others.Fits (into a) → ⊥) → ((bytes : List ℕ) → others.read k bytes ≡ None)
    → IsExact (one_of others) → IsExact (one_of (kind k into of f others))
kind_exact {A} {B} {k} {into} of {f} others p back made apart once q =
    let is : IsKind k into of others =
    record { made = made; back = back; apart = apart; once = once } in
    record {
      takes = kind_takes k into of f others p is q;
      again = kind_again k into of f others p is q;
    }
