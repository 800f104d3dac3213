-- The kinds of tokens, and their bytes (own).
--   kind_number   the number of a kind
--   kind_of       the kind with a number
--   kind          the format of a kind: its number in a byte
--   is_code, is_access, is_refresh   each kind
use Rattle.std.specs.Prelude.{ℕ, Bool, true, false, Option, Some, None, if◌then◌else◌, ◌==◌}
use Rattle.tk_format.specs.Format.{Format, coded}
use Rattle.tk_handle.specs.declared.kind.Kind.{Kind}
use Rattle.tk_handle.specs.declared.kind.Kind.TheVariants.{Code, Access, Refresh}

-- the number of a kind; handles and facts keep these numbers, so they never change
abbrev pub kind_number : Kind → ℕ
kind_number Code = 1
kind_number Access = 2
kind_number Refresh = 3

-- the kind with that number
abbrev pub kind_of : ℕ → Option Kind
kind_of n =
    if n == 1 then Some Code
    else if n == 2 then Some Access
    else if n == 3 then Some Refresh
    else None

-- the format of a kind: its number in a byte
abbrev pub kind : Format Kind
kind = coded kind_number kind_of

-- the kind of codes
abbrev pub is_code : Kind → Bool
is_code Code = true
is_code Access = false
is_code Refresh = false

-- the kind of access tokens
abbrev pub is_access : Kind → Bool
is_access Code = false
is_access Access = true
is_access Refresh = false

-- the kind of refresh tokens
abbrev pub is_refresh : Kind → Bool
is_refresh Code = false
is_refresh Access = false
is_refresh Refresh = true
