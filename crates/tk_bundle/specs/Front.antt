-- The walk over the lengths of the bundle at the front of bytes (own).
--   opening      the magic and the digit with which a bundle begins
--   header       the bytes behind the digit, before the items
--   skipped      the bytes behind one item
--   walk         the bytes behind the bundle, or the error of the walk
--   IsCut        the walk runs out of bytes
--   Walks        how a walk of the code meets `walk`
--   IsFrontOf    a bundle was read with the length of its spelling
--   unread       the error of a front that has the lengths of a bundle but can't be read
use Rattle.std.specs.Prelude.{◌≡◌, ℕ, zero, suc, Bool, not, nat_lt, List, length, Option, Some}
use Rattle.std.specs.Prelude.{None, Result, Ok, Err, if◌then◌else◌}
use Rattle.std.specs.Str.{bytes_eq}
use Rattle.std.specs.Int.{w16}
use Rattle.tk_format.specs.declared.error.ReadError.{ReadError}
use Rattle.tk_format.specs.declared.error.ReadError.TheVariants as read
use Rattle.tk_format.specs.Format.{Format, ◌⊗◌, number, byte, bytes_of}
use Rattle.tk_fact.specs.FactBytes.{max_bytes}
use Rattle.tk_bundle.specs.BundleFields.{BundleFields}
use Rattle.tk_bundle.specs.Versions.{is_version, has_horizon}
use Rattle.tk_bundle.specs.Bundle.{magic, max_items, bundle}
use Rattle.tk_bundle.specs.declared.error.FrontError.{FrontError}
use Rattle.tk_bundle.specs.declared.error.FrontError.TheVariants.{Malformed, Memory, Cut}

infixl 10 ◌>>=◌
-- the second walk over what the first leaves, or the error of the first
abbrev pub ◌>>=◌ : {A B : Type 0} → Result A FrontError → (A → Result B FrontError)
    → Result B FrontError
(Ok x) >>= f = f x
(Err e) >>= f = Err e

-- Cut if there is no value
abbrev pub or_cut : {A : Type 0} → Option A → Result A FrontError
or_cut None = Err Cut
or_cut (Some x) = Ok x

-- Malformed if the test holds, otherwise the given walk
abbrev pub malformed_if : {A : Type 0} → Bool → Result A FrontError → Result A FrontError
malformed_if test others = if test then Err Malformed else others

-- Cut if the test holds, otherwise the given walk
abbrev pub cut_if : {A : Type 0} → Bool → Result A FrontError → Result A FrontError
cut_if test others = if test then Err Cut else others

-- the magic and the digit of a version
abbrev pub opening : Format (List ℕ × ℕ)
opening = bytes_of (length magic) ⊗ byte

-- the least number of bytes before the items: the magic, a digit, and a count
abbrev pub min_header : ℕ
min_header = 6

-- the number of bytes of the horizon, if the version has one
abbrev pub horizon_size : ℕ → ℕ
horizon_size digit = if has_horizon digit then 8 else 0

-- the bytes of a horizon, if the version has one, and a count
abbrev pub header : ℕ → Format (List ℕ × ℕ)
header digit = bytes_of (horizon_size digit) ⊗ number w16

-- the bytes behind one item and its length
abbrev pub skipped : List ℕ → Result (List ℕ) FrontError
skipped bytes =
    -- no whole length is left: Cut
    or_cut ((number w16).read bytes) >>= λ size.
    -- the length is above the greatest length of a fact: Malformed
    malformed_if (nat_lt max_bytes size.0)
    -- fewer bytes than the length are left: Cut
    (or_cut ((bytes_of size.0).read size.1) >>= λ skip. Ok skip.1)

-- the bytes behind n items
unfoldable pub skipped_many : ℕ → List ℕ → Result (List ℕ) FrontError
skipped_many zero bytes = Ok bytes
skipped_many (suc n) bytes = skipped bytes >>= λ rest. skipped_many n rest

-- the walk over a bundle: the opening, the header, and as many items as it counts
abbrev pub walk : List ℕ → Result (List ℕ) FrontError
walk bytes =
    -- fewer than six bytes: Cut
    cut_if (nat_lt (length bytes) min_header)
    (or_cut (opening.read bytes) >>= λ front.
    -- another magic: Malformed
    malformed_if (not (bytes_eq front.0.0 magic))
    -- the digit of no version: Malformed
    (malformed_if (not (is_version front.0.1))
    -- fewer bytes than the horizon and a count have: Cut
    (or_cut ((header front.0.1).read front.1) >>= λ head.
    -- a count above 128: Malformed
    malformed_if (nat_lt max_items head.0.1)
    -- otherwise the walk over the items
    (skipped_many head.0.1 head.1))))

-- the walk runs out of bytes
abbrev pub IsCut : List ℕ → Type 0
IsCut bytes = walk bytes ≡ Err Cut

-- the result of a walk in the code, and the bytes that it leaves, are those of `walk`
abbrev pub Walks : {X : Type 0} → Result X FrontError → Result (List ℕ) FrontError → List ℕ → Type 0
Walks (Ok x) walked new = walked ≡ Ok new
Walks (Err e) walked new = walked ≡ Err e

-- the bundle, and the length of its spelling, was read, unless memory ran out
abbrev pub IsFrontOf : Result (BundleFields × ℕ) FrontError → BundleFields → Type 0
IsFrontOf (Ok x) b = (x.0 ≡ b) × (x.1 ≡ length (bundle.spell b))
IsFrontOf (Err Memory) b = Unit {0}
IsFrontOf (Err Malformed) b = ⊥
IsFrontOf (Err Cut) b = ⊥

-- the error of a front that has the lengths of a bundle but can't be read
abbrev pub unread : ReadError → FrontError
unread read.Malformed = Malformed
unread read.Memory = Memory
