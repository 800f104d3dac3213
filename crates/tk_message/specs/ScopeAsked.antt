-- The scope that is requested (RFC 6749, 3.3).
--   within_whole   a scope, if it is within the whole
--   scope_asked    the scope that is requested
use Rattle.std.specs.Prelude.{ℕ, List, Option, Some, None, if◌then◌else◌}
use Rattle.tk_scope.specs.Scope.{scope_of, is_within}

-- the scope, if there is one and it is within the whole
abbrev pub within_whole : List ℕ → Option (List ℕ) → Option (List ℕ)
within_whole whole None = None
within_whole whole (Some scope) = if is_within scope whole then Some scope else None

-- the scope that was sent, if it is one and within the whole; the whole if no scope was sent
abbrev pub scope_asked : List ℕ → Option (List ℕ) → Option (List ℕ)
scope_asked whole None = Some whole
scope_asked whole (Some text) = within_whole whole (scope_of text)
