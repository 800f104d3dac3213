-- Whether a body is a form, by the value of Content-Type (RFC 9110, 8.3.1; RFC 6749, 4.1.3).
--   media_type_of   the media type before its parameters
--   is_form         the media type is a form's
use Rattle.std.specs.Prelude.{ℕ, Bool, ◌==◌, List, take, reverse, codes}
use Rattle.std.specs.List.{position_or_len}
use Rattle.std.specs.Str.{str_eq_ignore_ascii_case}
use Rattle.httparse.specs.Grammar.{skip_ows}

-- a text without the spaces and tabs at its end
abbrev pub without_end : List ℕ → List ℕ
without_end bytes = reverse (skip_ows (reverse bytes))

-- the media type before its parameters; 59 is the semicolon
abbrev pub media_type_of : List ℕ → List ℕ
media_type_of value = take (position_or_len (λ b. b == 59) value) value

-- the media type is application/x-www-form-urlencoded, in any case and with any parameters
abbrev pub is_form : List ℕ → Bool
is_form value =
    str_eq_ignore_ascii_case (without_end (media_type_of value))
    (codes "application/x-www-form-urlencoded")
