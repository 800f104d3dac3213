-- Whether a connection stays open behind the reply to a request (RFC 9112, 9.3).
--   lets_stay       the client lets its connection stay
--   is_read_whole   nothing of a request is left unread behind its bytes
--   stays_open      the connection may stay behind the reply to a head
use Rattle.std.specs.Prelude.{ℕ, ◌==◌, ◌&&◌, Bool, true, false, List, [], ◌∷◌, codes, map}
use Rattle.std.specs.Str.{str_eq_ignore_ascii_case}
use Rattle.httparse.specs.Grammar.{RequestHead}
use Rattle.httparse.specs.Spans.{name_and_value}
use Rattle.tk_params.specs.Params.{Pairs}
use Rattle.tk_edge.specs.HeadFields.{coding_in, connection_in, length_in}
use Rattle.tk_edge.specs.Judged.{judged_of}
use Rattle.tk_edge.specs.declared.judge.Judged.{Judged}
use Rattle.tk_edge.specs.declared.judge.Judged.TheVariants.{Refused, Query, Vector, Notice, Body}
use Rattle.tk_edge.specs.declared.reach.Reach.{Reach}

-- the client lets its connection stay: it says nothing of it, or `keep-alive` alone
abbrev pub lets_stay : List (List ℕ) → Bool
lets_stay [] = true
lets_stay (value ∷ []) = str_eq_ignore_ascii_case value (codes "keep-alive")
lets_stay (value ∷ next ∷ more) = false

-- the field isn't given
abbrev pub is_absent : List (List ℕ) → Bool
is_absent [] = true
is_absent (value ∷ more) = false

-- no body comes with a head (RFC 9112, 6.3)
abbrev pub has_no_body : Pairs → Bool
has_no_body pairs = is_absent (coding_in pairs) && is_absent (length_in pairs)

-- nothing of a request is left unread behind its bytes: a body that isn't read must not be taken
-- for a request
abbrev pub is_read_whole : Pairs → Judged → Bool
is_read_whole pairs (Refused why) = false
is_read_whole pairs (Query endpoint) = has_no_body pairs
is_read_whole pairs Vector = has_no_body pairs
is_read_whole pairs (Notice notice) = has_no_body pairs
is_read_whole pairs (Body posted n) = true

-- the connection may stay, by the minor version, the fields and what was judged of the head
abbrev pub stays_by : ℕ → Pairs → Judged → Bool
stays_by minor pairs judged =
    (minor == 1) && (lets_stay (connection_in pairs) && is_read_whole pairs judged)

-- the connection may stay behind the reply to a head: connections of HTTP/1.1 do, unless the
-- client asks for the end, or the request is refused
abbrev pub stays_open : Reach → RequestHead → Bool
stays_open reach h =
    stays_by h.minor (map name_and_value h.fields)
    (judged_of reach h.method h.target (map name_and_value h.fields))
