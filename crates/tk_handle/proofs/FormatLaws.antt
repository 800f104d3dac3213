-- The law of each format of this crate: a value that is read is spelled by the bytes taken, and a
-- spelling is read as its value.
use Rattle.std.proofs.Common.{◌≡◌, ℕ, eqb, cond, [], ◌∷◌, Some, None, refl, sym}
use Rattle.tk_format.specs.Exact.{IsExact, some_is}
use Rattle.tk_format.specs.NumberLaws.{u16_exact, u64_exact}
use Rattle.tk_format.specs.Laws.{both_exact, only_exact, shaped_exact, repeated_exact, after_exact}
use Rattle.tk_format.specs.CaseLaws.{coded_exact, case_takes}
use Rattle.tk_handle.specs.declared.kind.Kind.{Kind}
use Rattle.tk_handle.specs.declared.kind.Kind.TheVariants.{Code, Access, Refresh}
use Rattle.tk_handle.specs.DotBytes.{dot_field}
use Rattle.tk_handle.specs.Ranges.{is_region, is_serial, is_moment}
use Rattle.tk_handle.specs.Moment.{moment}
use Rattle.tk_handle.specs.Kind.{kind_number, kind_of, kind}
use Rattle.tk_handle.specs.TokenId.{token}
use Rattle.tk_handle.specs.Handle.{version, handle}

-- the law of the format of dots
pub dot_field_exact : IsExact dot_field
dot_field_exact = shaped_exact _ _ _
    (both_exact _ _ (only_exact is_region _ u16_exact) (only_exact is_serial _ u64_exact))
    (λ _. refl) (λ _. refl)

-- the law of the format of moments
pub moment_exact : IsExact moment
moment_exact = only_exact is_moment _ u64_exact

-- a kind that was found by its number has that number
number_back : (n : ℕ) (k : Kind) → kind_of n ≡ Some k → kind_number k ≡ n
number_back n k e =
    case_takes n 1 (Some Code) (cond (eqb n 2) (Some Access) (cond (eqb n 3) (Some Refresh) None)) k
    (λ k. kind_number k ≡ n) (λ is h. rw (← some_is Code k h) (sym is))
    (case_takes n 2 (Some Access) (cond (eqb n 3) (Some Refresh) None) k (λ k. kind_number k ≡ n)
    (λ is h. rw (← some_is Access k h) (sym is))
    (case_takes n 3 (Some Refresh) None k (λ k. kind_number k ≡ n)
    (λ is h. rw (← some_is Refresh k h) (sym is)) (λ h. absurd cc))) e

-- a kind is found by its number
number_forth : (k : Kind) → kind_of (kind_number k) ≡ Some k
number_forth Code = refl
number_forth Access = refl
number_forth Refresh = refl

-- the law of the format of kinds
pub kind_exact : IsExact kind
kind_exact = coded_exact kind_number kind_of (record { back = number_back; forth = number_forth })

-- the law of the format of token names
pub token_exact : IsExact token
token_exact = shaped_exact _ _ _ (both_exact _ _ dot_field_exact kind_exact) (λ _. refl) (λ _. refl)

-- the law of the format of handles
pub handle_exact : IsExact handle
handle_exact = after_exact (version ∷ []) _
    (shaped_exact _ _ _
    (both_exact _ _ kind_exact (both_exact _ _ dot_field_exact (repeated_exact 3 _ u64_exact)))
    (λ _. refl) (λ _. refl))
