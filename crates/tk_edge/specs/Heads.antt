-- The head of a request at the front of a stream (RFC 9112, 3 and 5; httparse defines which bytes
-- are a head).
--   head_limit    the most bytes of a head
--   field_limit   the most fields of a head
--   HasHead       a beginning of the bytes is this head, within given limits
use Rattle.std.specs.Prelude.{ℕ, ◌≤◌, List, length}
use Rattle.httparse.specs.Grammar.{RequestHead, print_request, ReadsRequest}

-- the most bytes of a head (own)
abbrev pub head_limit : ℕ
head_limit = 8192

-- the most fields of a head (own)
abbrev pub field_limit : ℕ
field_limit = 64

-- a beginning of the bytes is this head, within limits on its bytes and its fields (RFC 9112, 3 and
-- 5)
abbrev pub HasHead : List ℕ → ℕ → ℕ → RequestHead → Type 0
HasHead bytes size room h =
    ((rest : List ℕ) × ReadsRequest bytes h rest) × (length (print_request h) ≤ size)
    × (length h.fields ≤ room)
