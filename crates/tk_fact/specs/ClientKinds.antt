-- The kinds of clients (RFC 6749, 2.1).
--   keeps_refresh   a client of this kind keeps its refresh token
use Rattle.std.specs.Prelude.{Bool, true, false}
use Rattle.tk_fact.specs.declared.client_kind.ClientKind.{ClientKind}
use Rattle.tk_fact.specs.declared.client_kind.ClientKind.TheVariants.{
  Public,
  Confidential,
  Resource,
  Keeping,
}

-- a client of this kind keeps its refresh token (own; RFC 9700, 2.2.2)
abbrev pub keeps_refresh : ClientKind → Bool
keeps_refresh Public = false
keeps_refresh (Confidential digest) = false
keeps_refresh (Resource digest) = false
keeps_refresh (Keeping digest) = true
