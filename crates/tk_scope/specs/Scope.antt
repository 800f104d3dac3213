-- Scopes (RFC 6749, 3.3).
--   scope_refusal      the first rule of a scope that a text breaks
--   scope_of           the scope that a text writes, as its printed form
--   scope_text         the printed form of tokens
--   IsWithin           each token of one scope is a token of the other; is_within is its test
--   HasSameTokens      two scopes have the same tokens
use Rattle.std.specs.Prelude.{ℕ, Bool, ◌&&◌, ◌||◌, ◌==◌, not, nat_le, nat_lt, List, [], ◌∷◌, length}
use Rattle.std.specs.Prelude.{All, Contains, Option, Some, None, is_some, if◌then◌else◌}
use Rattle.std.specs.Cmp.Lexicographic.{slice_cmp}
use Rattle.std.specs.List.{join_with_byte, list_all, list_any, slice_split}
use Rattle.std.specs.Ordering.{is_lt, nat_cmp}
use Rattle.std.specs.Str.{bytes_eq}
use Rattle.tk_scope.specs.declared.error.ScopeError.{ScopeError}
use Rattle.tk_scope.specs.declared.error.ScopeError.TheVariants.{TooLong, Malformed, TooMany}

-- a byte that a scope-token may have: %x21 / %x23-5B / %x5D-7E (RFC 6749, 3.3)
abbrev pub is_scope_byte : ℕ → Bool
is_scope_byte b = (b == 0x21) || (nat_le 0x23 b && nat_le b 0x5B)
    || (nat_le 0x5D b && nat_le b 0x7E)

-- scope-token: one or more bytes of a scope-token (RFC 6749, 3.3)
abbrev pub is_token : List ℕ → Bool
is_token token = not (length token == 0) && list_all is_scope_byte token

-- the parts of a text between its spaces
abbrev pub tokens_of : List ℕ → List (List ℕ)
tokens_of text = slice_split (λ b. b == 0x20) text

-- the greatest length in bytes of a scope as it is written (own)
abbrev pub max_length : ℕ
max_length = 1024

-- the greatest number of tokens of a scope as it is written, counting repeated ones (own)
abbrev pub max_tokens : ℕ
max_tokens = 32

-- the first rule of a scope that a text breaks: its length, its grammar (RFC 6749, 3.3), its number
-- of tokens
abbrev pub scope_refusal : List ℕ → Option ScopeError
scope_refusal text =
    if nat_lt max_length (length text) then Some TooLong
    else if not (list_all is_token (tokens_of text)) then Some Malformed
    else if nat_lt max_tokens (length (tokens_of text)) then Some TooMany
    else None

-- a list of tokens that ascend in byte order, with one more token in its place, unless the list has
-- that token
abbrev pub with_token : List ℕ → List (List ℕ) → List (List ℕ)
with_token token [] = token ∷ []
with_token token (t ∷ ts) =
    if bytes_eq token t then t ∷ ts
    else if is_lt (slice_cmp nat_cmp token t) then token ∷ t ∷ ts
    else t ∷ with_token token ts

-- the tokens in byte order, without duplicates
abbrev pub in_order : List (List ℕ) → List (List ℕ)
in_order [] = []
in_order (t ∷ ts) = with_token t (in_order ts)

-- the printed form of a list of tokens (own): in byte order, without duplicates, with one space
-- between each two
abbrev pub scope_text : List (List ℕ) → List ℕ
scope_text tokens = join_with_byte 0x20 (in_order tokens)

-- the scope that a text writes, as its printed form
abbrev pub scope_of : List ℕ → Option (List ℕ)
scope_of text = if is_some (scope_refusal text) then None else Some (scope_text (tokens_of text))

-- each token of the one scope is a token of the other (RFC 6749, 6: no token that was not granted)
abbrev pub IsWithin : List ℕ → List ℕ → Type 0
IsWithin scope other = All (Contains (tokens_of other)) (tokens_of scope)

-- `IsWithin` as a test
abbrev pub is_within : List ℕ → List ℕ → Bool
is_within scope other = list_all (λ t. list_any (bytes_eq t) (tokens_of other)) (tokens_of scope)

-- two scopes have the same tokens
abbrev pub HasSameTokens : List ℕ → List ℕ → Type 0
HasSameTokens scope other = IsWithin scope other × IsWithin other scope
