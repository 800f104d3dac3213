-- The credentials of a Basic header (RFC 7617, 2; RFC 6749, 2.3.1).
--   around_first   the bytes before and behind the first byte of a value
--   encoded_in     the base64 text of a header with the Basic scheme
--   halves_of      the id and the secret in decoded bytes
--   basic_of       the id and the secret of a header
use Rattle.std.specs.Prelude.{ℕ, Bool, ◌==◌, ◌+◌, position, List, map, take, drop, codes, Option}
use Rattle.std.specs.Prelude.{Some, None, if◌then◌else◌}
use Rattle.std.specs.Char.{to_ascii_lowercase}
use Rattle.std.specs.List.{prefix_len}
use Rattle.std.specs.Option.{option_and_then, option_map}
use Rattle.std.specs.Result.{result_ok}
use Rattle.std.specs.Str.{bytes_eq}
use Rattle.base64.specs.Engines.{standard}
use Rattle.base64.specs.GeneralPurpose.{decode_of}
use Rattle.tk_params.specs.Params.{text_of}

-- the byte `b' '`
abbrev pub space : ℕ
space = 32

-- the byte `b':'`
abbrev pub colon : ℕ
colon = 58

-- the bytes before and behind a place
abbrev pub around : List ℕ → Option ℕ → Option (List ℕ × List ℕ)
around bytes None = None
around bytes (Some at) = Some (take at bytes, drop (at + 1) bytes)

-- the bytes before and behind the first `mark`
abbrev pub around_first : ℕ → List ℕ → Option (List ℕ × List ℕ)
around_first mark bytes = around bytes (position (λ b. b == mark) bytes)

-- the scheme Basic, in any case (RFC 9110, 11.1; RFC 7617, 2)
abbrev pub is_scheme : List ℕ → Bool
is_scheme bytes = bytes_eq (map to_ascii_lowercase bytes) (codes "basic")

-- the bytes without their leading spaces
abbrev pub skip_spaces : List ℕ → List ℕ
skip_spaces bytes = drop (prefix_len (λ b. b == space) bytes) bytes

-- the base64 text behind a scheme, if the scheme is Basic
abbrev pub encoded_behind : List ℕ → List ℕ → Option (List ℕ)
encoded_behind scheme rest = if is_scheme scheme then Some (skip_spaces rest) else None

-- the base64 text of a header: behind the Basic scheme and one or more spaces (RFC 9110, 11.4)
abbrev pub encoded_in : List ℕ → Option (List ℕ)
encoded_in header = option_and_then (λ p. encoded_behind p.0 p.1) (around_first space header)

-- the bytes whose padded base64 the text is, with no unused bit set (RFC 4648, 3.5 and 4)
abbrev pub decoded : List ℕ → Option (List ℕ)
decoded text = result_ok (decode_of standard text)

-- the id before and the secret behind the first colon (RFC 7617, 2), each form-encoded as a whole
-- (RFC 6749, 2.3.1)
abbrev pub halves_of : List ℕ → Option (List ℕ × List ℕ)
halves_of bytes = option_map (λ p. (text_of p.0, text_of p.1)) (around_first colon bytes)

-- the id and the secret of a header, if the header is readable
abbrev pub basic_of : List ℕ → Option (List ℕ × List ℕ)
basic_of header = option_and_then halves_of (option_and_then decoded (encoded_in header))
