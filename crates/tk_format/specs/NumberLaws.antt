-- The laws of formats of numbers and of bytes (own): a value that is read is spelled by the bytes
-- taken, and a spelling is read as its value. The laws that formats cite end in `_exact`.
use Rattle.std.proofs.Common.{◌≡◌, ℕ, suc, ◌^◌, ◌<◌, ◌≤◌, false, ltb, List, [], ◌∷◌, ◌++◌, length}
use Rattle.std.proofs.Common.{take, drop, Some, refl, sym, subst, arith}
use Rattle.std.specs.Int.{Width, w16, w64, byte_len, from_be_bytes, to_be_bytes}
use Rattle.std.proofs.lemmas.Bool.{le-ltb, ltb-false}
use Rattle.std.proofs.lemmas.List.{drop_at, length-append, length-take, take-append-drop, take_at}
use Rattle.std.proofs.lemmas.Nat.{
  be_bytes_2,
  be_bytes_8,
  from_be_bytes-to_be_bytes_2,
  from_be_bytes-to_be_bytes_8,
}
use Rattle.tk_format.specs.Format.{number_spelling, number_at, bytes_at, number, byte}
use Rattle.tk_format.specs.Format.{byte_at_front, bytes_of, nothing}
use Rattle.tk_format.specs.Exact.{IsBytes, IsBytes-drop, IsBytes-take, IsExact, Takes, guard_some}
use Rattle.tk_format.specs.Exact.{some_is}

-- ---- numbers

-- what a width owes: each number has as many bytes as the width, and the bytes give the number back
pub record IsWide (w : Width) : Type 0 where
  pub len : (n : ℕ) → length (to_be_bytes w n) ≡ byte_len w
  pub back : (bytes : List ℕ) → length bytes ≡ byte_len w → IsBytes bytes
      → to_be_bytes w (from_be_bytes w bytes) ≡ bytes
  pub again : (n : ℕ) → n < 256 ^ byte_len w → from_be_bytes w (to_be_bytes w n) ≡ n
  pub below : (bytes : List ℕ) → IsBytes bytes → from_be_bytes w bytes < 256 ^ byte_len w

-- the width of two bytes keeps `IsWide`
pub wide16 : IsWide w16
wide16 = record {
  len = λ n. refl;
  back = λ bytes len fits. be_bytes_2 bytes _ len fits refl;
  again = λ n lt. from_be_bytes-to_be_bytes_2 n lt;
  below = λ bytes fits. omega (arith, fits 0, fits 1);
}

-- the width of eight bytes keeps `IsWide`
pub wide64 : IsWide w64
wide64 = record {
  len = λ n. refl;
  back = λ bytes len fits. be_bytes_8 bytes _ len fits refl;
  again = λ n lt. from_be_bytes-to_be_bytes_8 n lt;
  below = λ bytes fits.
      omega (arith, fits 0, fits 1, fits 2, fits 3, fits 4, fits 5, fits 6, fits 7);
}

-- a number that is read is spelled by the bytes taken
number_takes : (w : Width) (wide : IsWide w) (bytes : List ℕ) (x : ℕ × List ℕ) → IsBytes bytes
    → (number w).read bytes ≡ Some x
    → Takes bytes (number_spelling w x.0) x.1 × (x.0 < 256 ^ byte_len w)
unfolding number_at number_spelling
number_takes w wide bytes x fits e =
    let g = guard_some (ltb (length bytes) (byte_len w))
    (from_be_bytes w (take (byte_len w) bytes), drop (byte_len w) bytes) x e in
    let long : byte_len w ≤ length bytes = ltb-false _ _ g.0 in
    let front : to_be_bytes w (from_be_bytes w (take (byte_len w) bytes))
    ≡ take (byte_len w) bytes =
    wide.back (take (byte_len w) bytes) (omega (arith, length-take (byte_len w) bytes))
    (IsBytes-take (byte_len w) bytes fits) in
    subst (λ (y : ℕ × List ℕ). Takes bytes (to_be_bytes w y.0) y.1 × (y.0 < 256 ^ byte_len w)) g.1 (
      record {
        parts = rw front (sym (take-append-drop (byte_len w) bytes));
        rest_fits = IsBytes-drop (byte_len w) bytes fits;
      },
      wide.below (take (byte_len w) bytes) (IsBytes-take (byte_len w) bytes fits),
    )

-- the law of `number`
pub number_exact : (w : Width) → IsWide w → IsExact (number w)
unfolding number_at number_spelling
number_exact w wide = record {
  takes = number_takes w wide;
  again = λ n rest lt.
      let len = wide.len n in
      let long : ltb (length (to_be_bytes w n ++ rest)) (byte_len w) ≡ false =
      le-ltb _ _ (omega (arith, length-append (to_be_bytes w n) rest)) in
      rw (
        long,
        take_at (to_be_bytes w n) rest (byte_len w) len,
        drop_at (to_be_bytes w n) rest (byte_len w) len,
        wide.again n lt,
      ) refl;
}

-- the law of a number of two bytes
pub u16_exact : IsExact (number w16)
u16_exact = number_exact w16 wide16

-- the law of a number of eight bytes
pub u64_exact : IsExact (number w64)
u64_exact = number_exact w64 wide64

-- ---- bytes

-- a list of bytes without its first is a list of bytes
pub IsBytes-rest : (b : ℕ) (bytes : List ℕ) → IsBytes (b ∷ bytes) → IsBytes bytes
IsBytes-rest b bytes h i = h (suc i)

-- a byte that is read is spelled by the byte taken
pub byte_takes : (bytes : List ℕ) (x : ℕ × List ℕ) → IsBytes bytes → byte_at_front bytes ≡ Some x
    → Takes bytes (x.0 ∷ []) x.1 × (x.0 < 256)
byte_takes [] x fits e = absurd cc
byte_takes (b ∷ bytes) x fits e =
    subst (λ (y : ℕ × List ℕ). Takes (b ∷ bytes) (y.0 ∷ []) y.1 × (y.0 < 256))
    (some_is (b, bytes) x e)
    (record { parts = refl; rest_fits = IsBytes-rest b bytes fits }, fits 0)

-- the law of `byte`
pub byte_exact : IsExact byte
byte_exact = record { takes = byte_takes; again = λ b rest lt. refl }

-- n bytes that are read are the bytes taken
pub bytes_take : (n : ℕ) (bytes : List ℕ) (x : List ℕ × List ℕ) → IsBytes bytes
    → (bytes_of n).read bytes ≡ Some x → Takes bytes x.0 x.1 × (length x.0 ≡ n)
unfolding bytes_at
bytes_take n bytes x fits e =
    let g = guard_some (ltb (length bytes) n) (take n bytes, drop n bytes) x e in
    let long : n ≤ length bytes = ltb-false _ _ g.0 in
    subst (λ (y : List ℕ × List ℕ). Takes bytes y.0 y.1 × (length y.0 ≡ n)) g.1 (
      record { parts = sym (take-append-drop n bytes); rest_fits = IsBytes-drop n bytes fits },
      omega (arith, length-take n bytes),
    )

-- the law of `bytes_of`
pub bytes_exact : (n : ℕ) → IsExact (bytes_of n)
unfolding bytes_at
bytes_exact n = record {
  takes = bytes_take n;
  again = λ bs rest len.
      let long : ltb (length (bs ++ rest)) n ≡ false =
      le-ltb _ _ (omega (arith, length-append bs rest)) in
      rw (long, take_at bs rest n len, drop_at bs rest n len) refl;
}

-- the law of `nothing`
pub nothing_exact : IsExact nothing
nothing_exact = record {
  takes = λ bytes x fits e.
      subst (λ (y : Unit {0} × List ℕ). Takes bytes [] y.1 × Unit {0}) (some_is (tt, bytes) x e)
      (record { parts = refl; rest_fits = fits }, tt);
  again = λ u rest fits. refl;
}
