-- Texts of scope-tokens.
--   tokens_utf8     a text of scope-tokens is UTF-8
--   All-no_space    a token has no space
use Rattle.std.proofs.Common.{◌≡◌, ℕ, ◌<◌, true, false, ◌==◌, List, [], ◌∷◌, All, arith}
use Rattle.std.specs.List.{join_with_byte, list_all}
use Rattle.std.specs.Str.{IsUtf8}
use Rattle.std.proofs.lemmas.Bool.Decides.{nat_tests}
use Rattle.std.proofs.lemmas.List.Elements.{All-append, All-cons, All-nil}
use Rattle.std.proofs.lemmas.List.Splits.{join_with_byte-slice_split}
use Rattle.std.proofs.lemmas.Str.{IsUtf8-from_ascii}
use Rattle.std.proofs.lemmas.Str.Ascii.{IsAscii-from_all}
use Rattle.tk_scope.specs.Scope.{is_scope_byte, is_token, tokens_of}
use Rattle.std.proofs.lemmas.Bool.{and_parts as both_sides}

-- a byte of a token is ASCII
scope_byte_low : (b : ℕ) → is_scope_byte b ≡ true → b < 128
scope_byte_low b h = grind (arith, nat_tests)

-- a byte of a token is no space
scope_byte_no_space : (b : ℕ) → is_scope_byte b ≡ true → (b == 0x20) ≡ false
scope_byte_no_space b h = grind (arith, nat_tests)

-- P holds of each byte of a list that passes, if P holds of each byte that passes
all_bytes : (P : ℕ → Type 0) → ((b : ℕ) → is_scope_byte b ≡ true → P b) → (bs : List ℕ)
    → list_all is_scope_byte bs ≡ true → All P bs
all_bytes P each [] h = All-nil P
all_bytes P each (b ∷ bs) h = let sides = both_sides _ _ h in
    All-cons P b bs (each b sides.0) (all_bytes P each bs sides.1)

-- no byte of a token is a space
pub All-no_space : (t : List ℕ) → is_token t ≡ true → All (λ b. (b == 0x20) ≡ false) t
All-no_space t h = all_bytes (λ b. (b == 0x20) ≡ false) scope_byte_no_space t (both_sides _ _ h).1

-- joined tokens are ASCII
low_joined : (ts : List (List ℕ)) → list_all is_token ts ≡ true
    → All (λ b. b < 128) (join_with_byte 0x20 ts)
low_joined [] h = All-nil (λ b. b < 128)
low_joined (t ∷ []) h =
    all_bytes (λ b. b < 128) scope_byte_low t (both_sides _ _ (both_sides _ _ h).0).1
low_joined (t ∷ u ∷ ts) h =
    let sides = both_sides (is_token t) (list_all is_token (u ∷ ts)) h in
    All-append (λ b. b < 128) t _
    (all_bytes (λ b. b < 128) scope_byte_low t (both_sides _ _ sides.0).1)
    (All-cons (λ b. b < 128) 0x20 _ (omega arith) (low_joined (u ∷ ts) sides.1))

-- a text of tokens is ASCII, and therefore UTF-8
pub tokens_utf8 : (text : List ℕ) → list_all is_token (tokens_of text) ≡ true → IsUtf8 text
tokens_utf8 text h =
    let low = low_joined (tokens_of text) h in
    IsUtf8-from_ascii text (IsAscii-from_all text (rw join_with_byte-slice_split at low))
