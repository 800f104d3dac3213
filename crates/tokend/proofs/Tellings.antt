-- What writing the pieces of a line leaves of its writer. Key results:
--   say_writes    what pieces that were written, or not, come to
--   pieces_then   the first piece was written, then the rest
--   after_none    nothing was written, then some bytes
use Rattle.std.proofs.Common.{◌≡◌, ◌<◌, ◌≤◌, ◌-◌, ℕ, suc, Bool, true, false, List, [], ◌∷◌, ◌++◌}
use Rattle.std.proofs.Common.{length, take, drop, get_or, Option, None, Some, Bor, Result, Ok, Err}
use Rattle.std.proofs.Common.{inl, inr, refl, sym, ap, subst, ◌∙◌, arith}
use Rattle.std.specs.Prelude.{nat_lt}
use Rattle.std.proofs.lemmas.Bool.Decides.{nat_tests}
use Rattle.std.specs.Io.KnownBytes.{Appends, Keeps}
use Rattle.tk_put.specs.Put.{Prints, joined_text}
use Rattle.tk_edge.specs.Failures.{CountsFailure, Rose, max_count, one_more}
use Rattle.tokend.specs.Telling.{Writer, Writes}
use Rattle.tokend.proofs.Announcements.{prints_then}

-- a count below the greatest is raised by one more failure
one_greater : (a : ℕ) → nat_lt a max_count ≡ true → a < one_more a
one_greater a e = grind (e, arith, nat_tests)

-- a count that isn't below the greatest is at its greatest with one more failure
greatest : (a : ℕ) → nat_lt a max_count ≡ false → one_more a ≡ max_count
greatest a e = grind (e, arith, nat_tests)

-- one more failure raises the count, or the count is at its greatest
rose : (a b : ℕ) → b ≡ one_more a → Rose a b
rose a b is = by (nat_lt a max_count) refl
  where
    by : (t : Bool) → nat_lt a max_count ≡ t → Rose a b
    by true e = inl (subst (λ n. a < n) (sym is) (one_greater a e))
    by false e = inr (is ∙ greatest a e)

-- what pieces that were written, or not, come to
pub say_writes : {A E : Type 0} (r : Result A E) (old new : Writer) (text : List ℕ)
    → Prints r old.bytes new.bytes text → CountsFailure r old.failed new.failed
    → Writes old new text
say_writes (Ok x) old new text prints counts = inl (prints, counts)
say_writes (Err e) old new text prints counts = inr (prints, rose old.failed new.failed counts)

-- as many elements as a list has are the whole list
take_all : {A : Type 0} (xs : List A) → take (length xs) xs ≡ xs
take_all [] = refl
take_all (x ∷ xs) = ap (λ ys. x ∷ ys) (take_all xs)

-- one less than the number after n is n
one_less : (n : ℕ) → suc n - 1 ≡ n
one_less n = omega arith

-- the first piece was written, then the rest
pub pieces_then : {A E : Type 0} (r : Result A E) (old mid new : Option (List ℕ))
    (pieces : List (Bor (List ℕ))) (other : Bor (List ℕ))
    → 1 ≤ length pieces
    → Appends old mid (get_or pieces 0 other).now
    → Prints r mid new (joined_text (take (length pieces - 1) (drop 1 pieces)))
    → Prints r old new (joined_text pieces)
pieces_then r old mid new [] other some done prints = absurd (omega (arith, some))
pieces_then r old mid new (piece ∷ pieces) other some done prints =
    prints_then old mid new piece.now (joined_text pieces) r done
    (subst (λ ps. Prints r mid new (joined_text ps))
    (ap (λ n. take n pieces) (one_less (length pieces)) ∙ take_all pieces) prints)

-- nothing was written, then some bytes
pub after_none : (old mid new : Option (List ℕ)) (bytes : List ℕ) → Keeps old mid
    → Appends mid new bytes → Appends old new bytes
after_none None mid new bytes kept done = tt
after_none (Some x) None new bytes kept done = absurd kept
after_none (Some x) (Some y) None bytes kept done = absurd done
after_none (Some x) (Some y) (Some z) bytes kept done = done ∙ ap (λ l. l ++ bytes) kept
