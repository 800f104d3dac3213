-- A pull is read from its spelling, and from no other bytes. Key results:
--   cursor_exact   a cursor has exactly one spelling
--   wanted_exact   a pull has exactly one spelling
use Rattle.std.proofs.Common.{◌≡◌, ℕ, Bool, true, false, ◌&&◌, ◌==◌, cond, Option, Some, None, refl}
use Rattle.std.proofs.Common.{sym, ap, ◌∙◌, arith}
use Rattle.std.proofs.lemmas.Bool.Decides.{nat_tests}
use Rattle.tk_format.specs.Exact.{IsExact}
use Rattle.tk_format.specs.NumberLaws.{u16_exact, u64_exact}
use Rattle.tk_format.specs.Laws.{both_exact, partly_exact, shaped_exact}
use Rattle.tk_handle.specs.declared.dot.Dot.{Dot}
use Rattle.tk_handle.specs.Ranges.{is_region, is_serial}
use Rattle.tk_vector.specs.VectorBytesLaws.{vector_exact}
use Rattle.tk_edge.specs.Pulls.{cursor_at, numbers_of, cursor, wanted}

-- if the test for two zeros holds, both numbers are 0
zeros : (r n : ℕ) → (r == 0) && (n == 0) ≡ true → (r ≡ 0) × (n ≡ 0)
zeros r n h = (grind (arith, nat_tests), grind (arith, nat_tests))

-- the numbers of a cursor are those from which it was read
back : (p : ℕ × ℕ) (o : Option Dot) → cursor_at p ≡ Some o → numbers_of o ≡ p
back p o = by_zeros ((p.0 == 0) && (p.1 == 0)) refl
  where
    by_range : (t : Bool)
        → cond t (Some (Some (record { region = p.0; serial = p.1 }))) None ≡ Some o
        → numbers_of o ≡ p
    by_range true h = ap numbers_of (some_is h)
      where
        some_is : Some (Some (record { region = p.0; serial = p.1 })) ≡ Some o
            → o ≡ Some (record { region = p.0; serial = p.1 })
        some_is h = cc
    by_range false h = absurd (cc)

    by_zeros : (t : Bool) → (p.0 == 0) && (p.1 == 0) ≡ t
        → cond t (Some None)
        (cond (is_region p.0 && is_serial p.1)
        (Some (Some (record { region = p.0; serial = p.1 }))) None) ≡ Some o
        → numbers_of o ≡ p
    by_zeros true e h =
        let both = zeros p.0 p.1 e in
        ap numbers_of (none_is h)
        ∙ sym (ap (λ (r : ℕ). (r, p.1)) both.0 ∙ ap (λ (n : ℕ). (0, n)) both.1)
      where
        none_is : Some None ≡ Some o → o ≡ None
        none_is h = cc
    by_zeros false e h = by_range (is_region p.0 && is_serial p.1) h

-- a cursor has exactly one spelling
pub cursor_exact : IsExact cursor
cursor_exact = partly_exact cursor_at numbers_of _ (both_exact _ _ u16_exact u64_exact) back

-- a pull has exactly one spelling
pub wanted_exact : IsExact wanted
wanted_exact =
    shaped_exact _ _ _ (both_exact cursor _ cursor_exact vector_exact) (λ _. refl) (λ _. refl)
