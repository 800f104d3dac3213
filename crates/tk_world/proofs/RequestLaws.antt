-- The bytes of a request, by its parts. Key result:
--   request_is   equal parts make equal requests
use Rattle.std.proofs.Common.{◌≡◌, ℕ, List, Result, Ok, Err, IfOk}
use Rattle.tk_world.specs.RequestLine.{assembly}

-- equal parts make equal requests
pub request_is : {A E : Type 0} (r : Result A E) (items : A → List ℕ)
    (m m' t t' a a' s s' p p' body : List ℕ)
    → m' ≡ m → t' ≡ t → a' ≡ a → s' ≡ s → p' ≡ p
    → IfOk r (λ x. items x ≡ assembly m' t' a' s' p' body)
    → IfOk r (λ x. items x ≡ assembly m t a s p body)
request_is (Ok x) items m m' t t' a a' s s' p p' body em et ea es ep e =
    rw (em, et, ea, es, ep) at e
request_is (Err x) items m m' t t' a a' s s' p p' body em et ea es ep e = tt
