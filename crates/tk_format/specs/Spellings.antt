-- Spellings are lists of bytes, and how long they are.
--   number_bytes, IsBytes-append             spellings are lists of bytes
--   number_length, text_short, both_short    lengths of spellings
use Rattle.std.proofs.Common.{◌≡◌, ℕ, zero, suc, ◌+◌, ◌<◌, ◌≤◌, List, [], ◌∷◌, ◌++◌, length, refl}
use Rattle.std.proofs.Common.{ap, arith, lit<}
use Rattle.std.specs.Int.{Width, w16, byte_at, byte_len, bytes_high_first}
use Rattle.std.proofs.lemmas.List.{length-append}
use Rattle.tk_format.specs.Format.{number_spelling, text_spelling, text}
use Rattle.tk_format.specs.Exact.{IsBytes}

-- ---- spellings are lists of bytes

-- a byte in front of a list of bytes gives a list of bytes
pub IsBytes-cons : (b : ℕ) (bytes : List ℕ) → b < 256 → IsBytes bytes → IsBytes (b ∷ bytes)
IsBytes-cons b bytes lt h zero = lt
IsBytes-cons b bytes lt h (suc i) = h i

-- the empty list is a list of bytes
pub IsBytes-nil : IsBytes []
IsBytes-nil i = lit< tt

-- two lists of bytes, one after the other, are a list of bytes
pub IsBytes-append : (a b : List ℕ) → IsBytes a → IsBytes b → IsBytes (a ++ b)
IsBytes-append [] b p q = q
IsBytes-append (x ∷ a) b p q = IsBytes-cons x (a ++ b) (p 0) (IsBytes-append a b (λ i. p (suc i)) q)

-- each byte of a number is below 256
byte_below : (k n : ℕ) → byte_at k n < 256
byte_below zero n = omega arith
byte_below (suc k) n = omega arith

-- the bytes of a number, high byte first, are a list of bytes
high_first_bytes : (k n : ℕ) → IsBytes (bytes_high_first k n)
high_first_bytes zero n = IsBytes-nil
high_first_bytes (suc k) n =
    IsBytes-cons (byte_at k n) (bytes_high_first k n) (byte_below k n) (high_first_bytes k n)

-- the spelling of a number is a list of bytes
pub number_bytes : (w : Width) (n : ℕ) → IsBytes (number_spelling w n)
unfolding number_spelling
number_bytes w n = high_first_bytes (byte_len w) n

-- ---- lengths of spellings

-- a number in k bytes has length k
high_first_length : (k n : ℕ) → length (bytes_high_first k n) ≡ k
high_first_length zero n = refl
high_first_length (suc k) n = ap suc (high_first_length k n)

-- the spelling of a number has the length of its width
pub number_length : (w : Width) (n : ℕ) → length (number_spelling w n) ≡ byte_len w
unfolding number_spelling
number_length w n = high_first_length (byte_len w) n

-- two spellings together are at most as long as their two bounds together
pub both_short : (a b : List ℕ) (m n : ℕ) → length a ≤ m → length b ≤ n → length (a ++ b) ≤ m + n
both_short a b m n p q = omega (arith, length-append a b)

-- the spelling of a text is at most two longer than the text
pub text_short : (t : List ℕ) (n : ℕ) → length t ≤ n → length (text.spell t) ≤ 2 + n
unfolding text_spelling
text_short t n p = both_short (number_spelling w16 (length t)) t 2 n
    (omega (arith, number_length w16 (length t))) p
