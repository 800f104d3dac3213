-- The parameters of a form or a query (RFC 6749, 3.1, 3.2 and appendix B).
--   Pairs         names, each with a value
--   text_of       the text of an encoded name or value
--   params_of     the parameters that the bytes of a form give
--   values_of     the values of a name
--   value_of      the value of a name that occurs once
--   is_twice      a name occurs twice or more
--   has_twice     one of several names occurs twice or more
use Rattle.std.specs.Prelude.{ℕ, Bool, nat_le, List, [], ◌∷◌, length, map, filter, Option, Some}
use Rattle.std.specs.Prelude.{None}
use Rattle.std.specs.List.{list_any}
use Rattle.std.specs.Str.{bytes_eq}
use Rattle.std.specs.Str.Lossy.{utf8_lossy}
use Rattle.form_urlencoded.specs.Form as form

-- pairs of a name and a value
abbrev pub Pairs : Type 0
Pairs = List (List ℕ × List ℕ)

-- the text of an encoded name or value: bytes that are not UTF-8 become U+FFFD (RFC 6749, appendix
-- B; own)
abbrev pub text_of : List ℕ → List ℕ
text_of bytes = utf8_lossy (form.decode bytes)

-- pairs with each name and each value decoded
abbrev pub texts_of : Pairs → Pairs
texts_of pairs = map (λ p. (text_of p.0, text_of p.1)) pairs

-- the pairs that have a value: a name without one counts as omitted (RFC 6749, 3.1 and 3.2)
abbrev pub with_values : Pairs → Pairs
with_values pairs = filter (λ p. form.is_nonempty p.1) pairs

-- the parameters that the bytes of a form or a query give, in order
abbrev pub params_of : List ℕ → Pairs
params_of input = with_values (texts_of (form.raw_pairs input))

-- the values of a name, in order
abbrev pub values_of : List ℕ → Pairs → List (List ℕ)
values_of name pairs = map (λ p. p.1) (filter (λ p. bytes_eq p.0 name) pairs)

-- the only element of a list with one element
abbrev pub only : List (List ℕ) → Option (List ℕ)
only [] = None
only (value ∷ []) = Some value
only (value ∷ other ∷ values) = None

-- the value of a name that occurs once
abbrev pub value_of : List ℕ → Pairs → Option (List ℕ)
value_of name pairs = only (values_of name pairs)

-- a name occurs twice or more, which no request may have (RFC 6749, 3.1 and 3.2)
abbrev pub is_twice : List ℕ → Pairs → Bool
is_twice name pairs = nat_le 2 (length (values_of name pairs))

-- one of several names occurs twice or more
abbrev pub has_twice : List (List ℕ) → Pairs → Bool
has_twice names pairs = list_any (λ name. is_twice name pairs) names
