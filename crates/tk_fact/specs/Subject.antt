-- The names of resource owners (RFC 6749, 1.1; their limits are own).
--   is_subject   a text names a subject, of at most `max_subject_bytes`
use Rattle.std.specs.Prelude.{ℕ, Bool, ◌&&◌, nat_le, List, length}
use Rattle.std.specs.List.{list_all}

-- a visible ASCII byte, %x21-7E (own)
abbrev pub is_visible : ℕ → Bool
is_visible b = nat_le 33 b && nat_le b 126

-- the greatest length of a subject in bytes (own)
abbrev pub max_subject_bytes : ℕ
max_subject_bytes = 128

-- the name of a subject: 1 to `max_subject_bytes` visible ASCII bytes (own)
abbrev pub is_subject : List ℕ → Bool
is_subject subject =
    nat_le 1 (length subject) && nat_le (length subject) max_subject_bytes
    && list_all is_visible subject
