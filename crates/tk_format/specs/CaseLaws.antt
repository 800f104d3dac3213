-- The laws of formats by cases (own): a byte for a value, and a byte that selects the fields behind
-- it. The laws that formats cite end in `_exact`.
use Rattle.std.proofs.Common.{◌≡◌, ℕ, true, false, cond, eqb, List, [], ◌∷◌, ◌++◌, Option, Some}
use Rattle.std.proofs.Common.{refl, sym, subst}
use Rattle.std.proofs.lemmas.Bool.{eqb-true}
use Rattle.tk_format.specs.Format.{◌>>=◌, Format, byte, coded, choice, via}
use Rattle.tk_format.specs.Exact.{IsBytes, IsExact, Takes, Takes-then, bind_some, some_is}
use Rattle.tk_format.specs.NumberLaws.{byte_takes}

-- ---- a byte for a value

-- the two functions of a one-byte code undo each other
pub record IsCode {A : Type 0} (code : A → ℕ) (of : ℕ → Option A) : Type 0 where
  pub back : (b : ℕ) (a : A) → of b ≡ Some a → code a ≡ b
  pub forth : (a : A) → of (code a) ≡ Some a

-- a value that is read from its code is spelled by the byte taken
coded_takes : {A : Type 0} (code : A → ℕ) (of : ℕ → Option A) → IsCode code of
    → (bytes : List ℕ) (x : A × List ℕ) → IsBytes bytes → (coded code of).read bytes ≡ Some x
    → Takes bytes (code x.0 ∷ []) x.1 × Unit {0}
coded_takes {A} code of is bytes x fits e =
    let b = bind_some (byte.read bytes) (λ b. of b.0 >>= λ a. Some (a, b.1)) x e in
    let a = bind_some (of b.0.0) (λ a. Some (a, b.0.1)) x b.2 in
    let first = byte_takes bytes b.0 fits b.1 in
    subst (λ (y : A × List ℕ). Takes bytes (code y.0 ∷ []) y.1 × Unit {0})
    (some_is (a.0, b.0.1) x a.2)
    (subst (λ (t : ℕ). Takes bytes (t ∷ []) b.0.1) (sym (is.back b.0.0 a.0 a.1)) first.0, tt)

-- the law of `coded`
pub coded_exact : {A : Type 0} (code : A → ℕ) (of : ℕ → Option A) → IsCode code of
    → IsExact (coded code of)
coded_exact code of is = record {
  takes = coded_takes code of is;
  again = λ a rest fits. rw (is.forth a) refl;
}

-- ---- a byte that selects a case

-- x was read behind the byte t: t is the tag of x, and the bytes taken are the fields of x
pub record Follows {A : Type 0} (tag : A → ℕ) (fields : A → List ℕ) (Fits : A → Type 0) (t : ℕ)
    (bytes : List ℕ) (x : A × List ℕ) : Type 0 where
  pub tagged : tag x.0 ≡ t
  pub taken : Takes bytes (fields x.0) x.1
  pub fit : Fits x.0

-- what the cases of a choice owe: a value read as a case follows its tag, and its fields are read
-- as that value
pub record IsChoice {A : Type 0} (tag : A → ℕ) (fields : A → List ℕ) (Fits : A → Type 0)
    (cases : ℕ → List ℕ → Option (A × List ℕ)) : Type 0 where
  pub takes : (t : ℕ) (bytes : List ℕ) (x : A × List ℕ) → IsBytes bytes → cases t bytes ≡ Some x
      → Follows tag fields Fits t bytes x
  pub again : (a : A) (rest : List ℕ) → Fits a → cases (tag a) (fields a ++ rest) ≡ Some (a, rest)

-- the law of `choice`
pub choice_exact : {A : Type 0} (tag : A → ℕ) (fields : A → List ℕ) (Fits : A → Type 0)
    (cases : ℕ → List ℕ → Option (A × List ℕ)) → IsChoice tag fields Fits cases
    → IsExact (choice tag fields Fits cases)
choice_exact {A} tag fields Fits cases is = record {
  takes = λ bytes x fits e.
      let b = bind_some (byte.read bytes) (λ b. cases b.0 b.1) x e in
      let first = byte_takes bytes b.0 fits b.1 in
      let rest = is.takes b.0.0 b.0.1 x first.0.rest_fits b.2 in (
        subst (λ (t : ℕ). Takes bytes (t ∷ fields x.0) x.1) (sym rest.tagged)
            (Takes-then bytes (b.0.0 ∷ []) b.0.1 (fields x.0) x.1 first.0 rest.taken),
        rest.fit,
      );
  again = λ a rest fits. is.again a rest fits;
}

-- P holds of whatever is read as a case, if P holds of each value of the case, however spelled
pub via_takes : {A B : Type 0} (into : A → B) (f : Format A) → IsExact f
    → (bytes : List ℕ) (x : B × List ℕ) (P : B × List ℕ → Type 0) → IsBytes bytes
    → ((a : A) (rest : List ℕ) → Takes bytes (f.spell a) rest → f.Fits a → P (into a, rest))
    → via into f bytes ≡ Some x → P x
via_takes into f p bytes x P fits holds e =
    let a = bind_some (f.read bytes) (λ a. Some (into a.0, a.1)) x e in
    let first = p.takes bytes a.0 fits a.1 in
    subst P (some_is (into a.0.0, a.0.1) x a.2) (holds a.0.0 a.0.1 first.0 first.1)

-- the spelling of a case's fields is read as a value of that case
pub via_again : {A B : Type 0} (into : A → B) (f : Format A) → IsExact f → (a : A) (rest : List ℕ)
    → f.Fits a → via into f (f.spell a ++ rest) ≡ Some (into a, rest)
via_again into f p a rest fits = rw (p.again a rest fits) refl

-- P holds of whatever a chain of cases reads, if P holds of the first case's value and of the
-- others'
pub case_takes : {X : Type 0} (t k : ℕ) (this next : Option X) (x : X) (P : X → Type 0)
    → (t ≡ k → this ≡ Some x → P x) → (next ≡ Some x → P x) → cond (eqb t k) this next ≡ Some x
    → P x
case_takes {X} t k this next x P here later e =
    (elim (eqb t k) as (λ b. eqb t k ≡ b → cond b this next ≡ Some x → P x) [
      | true ↦ λ is h. here (eqb-true t k is) h
      | false ↦ λ is h. later h
    ]) refl e
