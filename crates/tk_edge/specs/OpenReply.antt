-- The reply over a connection that stays open (RFC 9112, 9.3): it doesn't say that the connection
-- ends.
--   closing_line   the line that says so
--   says_at        a reply has that line at a place
--   IsOpenReply    a reply without its first such line
use Rattle.std.specs.Prelude.{◌≡◌, ◌⊎◌, ℕ, ◌+◌, ◌<◌, ◌==◌, Bool, true, false, List, ◌++◌}
use Rattle.std.specs.Prelude.{codes, length, take, drop}
use Rattle.std.specs.List.{starts_with}

-- the line that says that a connection ends (RFC 9110, 7.6.1)
abbrev pub closing_line : List ℕ
closing_line = codes "Connection: close\r\n"

-- a reply has the closing line at a place
abbrev pub says_at : List ℕ → ℕ → Bool
says_at reply at = starts_with ◌==◌ (drop at reply) closing_line

-- the first closing line of a reply is at a place
pub record IsFirstAt (reply : List ℕ) (at : ℕ) : Type 0 where
  pub here : says_at reply at ≡ true
  pub before : (k : ℕ) → k < at → says_at reply k ≡ false

-- a reply has no closing line
abbrev pub HasNone : List ℕ → Type 0
HasNone reply = (k : ℕ) → k < length reply → says_at reply k ≡ false

-- a reply without its first closing line
abbrev pub IsOpenReply : List ℕ → List ℕ → Type 0
IsOpenReply reply without =
    ((at : ℕ) × IsFirstAt reply at
    × (without ≡ take at reply ++ drop (at + length closing_line) reply))
    ⊎ (HasNone reply × (without ≡ reply))
