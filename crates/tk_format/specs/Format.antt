-- Formats (own): which values have a spelling, what that spelling is, and what is read from the
-- front of bytes.
--   number, byte, bytes_of, text    the formats of numbers and bytes
--   ⊗, only, shaped, partly         one format after another, a test, another shape
--   counted, repeated               several values of one format
--   after, sized                    bytes in front, a length in front
--   coded, choice                   a byte for a value, a byte for a case
--   one_of, kind                    values of several kinds
use Rattle.std.specs.Prelude.{◌≡◌, ℕ, zero, suc, ◌<◌, ◌^◌, Bool, true, List, [], ◌∷◌, ◌++◌, length}
use Rattle.std.specs.Prelude.{take, drop, Option, Some, None, nat_lt, nat_le, ◌==◌, if◌then◌else◌}
use Rattle.std.specs.Int.{Width, w16, byte_len, from_be_bytes, to_be_bytes}
use Rattle.std.specs.List.{AllByRecursion, flat_map}
use Rattle.std.specs.Str.{bytes_eq}

-- a format of the values of A: how they are spelled, which have a spelling, what is read from the
-- front of bytes
pub record Format (A : Type 0) : Type 1 where
  pub spell : A → List ℕ
  pub Fits : A → Type 0
  pub read : List ℕ → Option (A × List ℕ)

-- a step that may fail, and then another on the value of the first
infixl 10 ◌>>=◌
abbrev pub ◌>>=◌ : {A B : Type 0} → Option A → (A → Option B) → Option B
None >>= f = None
(Some x) >>= f = f x

-- ---- numbers and bytes
-- The spellings and readings of numbers, bytes and texts unfold only in the proofs that name them.
-- In a goal a list of fields therefore stays a list of fields.

-- the bytes of a number, the high byte first
unfoldable pub number_spelling : Width → ℕ → List ℕ
number_spelling w n = to_be_bytes w n

-- the number of the given width at the front of bytes, and the rest
unfoldable pub number_at : Width → List ℕ → Option (ℕ × List ℕ)
number_at w bytes =
    if nat_lt (length bytes) (byte_len w) then None
    else Some (from_be_bytes w (take (byte_len w) bytes), drop (byte_len w) bytes)

-- the format of a number of the given width, the high byte first
abbrev pub number : Width → Format ℕ
number w = record {
  spell = number_spelling w;
  Fits = λ n. n < 256 ^ byte_len w;
  read = number_at w;
}

-- the byte at the front of bytes, and the rest
abbrev pub byte_at_front : List ℕ → Option (ℕ × List ℕ)
byte_at_front [] = None
byte_at_front (b ∷ rest) = Some (b, rest)

-- the format of one byte
abbrev pub byte : Format ℕ
byte = record { spell = λ b. b ∷ []; Fits = λ b. b < 256; read = byte_at_front }

-- n bytes at the front of bytes, and the rest
unfoldable pub bytes_at : ℕ → List ℕ → Option (List ℕ × List ℕ)
bytes_at n bytes = if nat_lt (length bytes) n then None else Some (take n bytes, drop n bytes)

-- the format of n bytes
abbrev pub bytes_of : ℕ → Format (List ℕ)
bytes_of n = record { spell = λ bs. bs; Fits = λ bs. length bs ≡ n; read = bytes_at n }

-- the length of a text in two bytes, and then the text
unfoldable pub text_spelling : List ℕ → List ℕ
text_spelling bs = (number w16).spell (length bs) ++ bs

-- the text at the front of bytes, and the rest
unfoldable pub text_at : List ℕ → Option (List ℕ × List ℕ)
text_at bytes = (number w16).read bytes >>= λ n. (bytes_of n.0).read n.1

-- the format of a text below 65,536 bytes: its length in two bytes, and then the text
abbrev pub text : Format (List ℕ)
text = record { spell = text_spelling; Fits = λ bs. length bs < 2 ^ 16; read = text_at }

-- the format of no bytes
abbrev pub nothing : Format (Unit {0})
nothing = record { spell = λ u. []; Fits = λ u. Unit {0}; read = λ bytes. Some (tt, bytes) }

-- ---- formats put together

-- a value of the first format, and then a value of the second
infixr 6 ◌⊗◌
abbrev pub ◌⊗◌ : {A B : Type 0} → Format A → Format B → Format (A × B)
f ⊗ g = record {
  spell = λ p. f.spell p.0 ++ g.spell p.1;
  Fits = λ p. f.Fits p.0 × g.Fits p.1;
  read = λ bytes. f.read bytes >>= λ a. g.read a.1 >>= λ b. Some ((a.0, b.0), b.1);
}

-- the values of a format that pass a test
abbrev pub only : {A : Type 0} → (A → Bool) → Format A → Format A
only test f = record {
  spell = f.spell;
  Fits = λ a. f.Fits a × (test a ≡ true);
  read = λ bytes. f.read bytes >>= λ a. if test a.0 then Some a else None;
}

-- the values of a format in another shape: `to` makes the new shape, `of` leads back
abbrev pub shaped : {A B : Type 0} → (A → B) → (B → A) → Format A → Format B
shaped to of f = record {
  spell = λ b. f.spell (of b);
  Fits = λ b. f.Fits (of b);
  read = λ bytes. f.read bytes >>= λ a. Some (to a.0, a.1);
}

-- the values that a partial function `to` makes, and from which `of` leads back
abbrev pub partly : {A B : Type 0} → (A → Option B) → (B → A) → Format A → Format B
partly to of f = record {
  spell = λ b. f.spell (of b);
  Fits = λ b. f.Fits (of b) × (to (of b) ≡ Some b);
  read = λ bytes. f.read bytes >>= λ a. to a.0 >>= λ b. Some (b, a.1);
}

-- n values at the front of bytes, and the rest
unfoldable pub read_many : {A : Type 0} → (List ℕ → Option (A × List ℕ)) → ℕ → List ℕ
    → Option (List A × List ℕ)
read_many read zero bytes = Some ([], bytes)
read_many read (suc n) bytes =
    read bytes >>= λ a. read_many read n a.1 >>= λ others. Some (a.0 ∷ others.0, others.1)

-- a count, and then as many values as the count
abbrev pub counted : {A : Type 0} → Format ℕ → Format A → Format (List A)
counted count f = record {
  spell = λ xs. count.spell (length xs) ++ flat_map f.spell xs;
  Fits = λ xs. count.Fits (length xs) × AllByRecursion f.Fits xs;
  read = λ bytes. count.read bytes >>= λ n. read_many f.read n.0 n.1;
}

-- n values one after the other, with no count
abbrev pub repeated : {A : Type 0} → ℕ → Format A → Format (List A)
repeated n f = record {
  spell = λ xs. flat_map f.spell xs;
  Fits = λ xs. (length xs ≡ n) × AllByRecursion f.Fits xs;
  read = read_many f.read n;
}

-- the bytes `magic`, and then a value
abbrev pub after : {A : Type 0} → List ℕ → Format A → Format A
after magic f = record {
  spell = λ a. magic ++ f.spell a;
  Fits = f.Fits;
  read = λ bytes. (bytes_of (length magic)).read bytes >>= λ m. if bytes_eq m.0 magic
      then f.read m.1 else None;
}

-- the value that all of the bytes spell
abbrev pub whole : {A : Type 0} → Format A → List ℕ → Option A
whole f bytes = f.read bytes >>= λ a. if length a.1 == 0 then Some a.0 else None

-- the length of a value's spelling in two bytes, at most the limit, and then the spelling
abbrev pub sized : {A : Type 0} → ℕ → Format A → Format A
sized limit f = record {
  spell = λ a. text.spell (f.spell a);
  Fits = λ a. f.Fits a × (text.Fits (f.spell a) × (nat_le (length (f.spell a)) limit ≡ true));
  read = λ bytes. (only (λ t. nat_le (length t) limit) text).read bytes >>= λ t. whole f t.0
      >>= λ a. Some (a, t.1);
}

-- a value of a small type as one byte
abbrev pub coded : {A : Type 0} → (A → ℕ) → (ℕ → Option A) → Format A
coded code of = record {
  spell = λ a. code a ∷ [];
  Fits = λ _. Unit {0};
  read = λ bytes. byte.read bytes >>= λ b. of b.0 >>= λ a. Some (a, b.1);
}

-- a byte that selects a case, and then the fields of the case
abbrev pub choice : {A : Type 0} → (A → ℕ) → (A → List ℕ) → (A → Type 0)
    → (ℕ → List ℕ → Option (A × List ℕ)) → Format A
choice tag fields Fits cases = record {
  spell = λ a. tag a ∷ fields a;
  Fits = Fits;
  read = λ bytes. byte.read bytes >>= λ b. cases b.0 b.1;
}

-- reading one case of a choice: the value that the format reads, put into the type of the choice
abbrev pub via : {A B : Type 0} → (A → B) → Format A → List ℕ → Option (B × List ℕ)
via into f bytes = f.read bytes >>= λ a. Some (into a.0, a.1)

-- ---- values of several kinds

-- values of several kinds: their spellings, each begun by the byte of its kind, and what is read
-- behind that byte
pub record Kinds (B : Type 0) : Type 1 where
  pub spell : B → List ℕ
  pub Fits : B → Type 0
  pub read : ℕ → List ℕ → Option (B × List ℕ)

-- the empty list of kinds
abbrev pub no_kind : {B : Type 0} → Kinds B
no_kind = record { spell = λ b. []; Fits = λ b. ⊥; read = λ t bytes. None }

-- the byte of the kind k and the fields, if the value is of that kind; or the spelling by the other
-- kinds
abbrev pub spelled_by : {A : Type 0} → ℕ → Format A → Option A → List ℕ → List ℕ
spelled_by k f None others = others
spelled_by k f (Some a) others = k ∷ f.spell a

-- the fields have a spelling, if the value is of this kind; or the value has one by the other kinds
abbrev pub FitsBy : {A : Type 0} → Format A → Option A → Type 0 → Type 0
FitsBy f None Others = Others
FitsBy f (Some a) Others = f.Fits a

-- a list of kinds with one more in front: its byte, its constructor, the fields of a value of this
-- kind, their format
abbrev pub kind : {A B : Type 0} → ℕ → (A → B) → (B → Option A) → Format A → Kinds B → Kinds B
kind k into of f others = record {
  spell = λ b. spelled_by k f (of b) (others.spell b);
  Fits = λ b. FitsBy f (of b) (others.Fits b);
  read = λ t bytes. if t == k then via into f bytes else others.read t bytes;
}

-- application, as an infix: `kind .. and_then kind .. and_then no_kind` is a list of kinds
infixr 3 ◌and_then◌
abbrev pub ◌and_then◌ {ℓ κ} : {A : Type ℓ} {B : Type κ} → (A → B) → A → B
one and_then others = one others

-- the format of a value of one of the kinds: the byte of its kind, and then its fields
abbrev pub one_of : {B : Type 0} → Kinds B → Format B
one_of kinds = record {
  spell = kinds.spell;
  Fits = kinds.Fits;
  read = λ bytes. byte.read bytes >>= λ t. kinds.read t.0 t.1;
}
