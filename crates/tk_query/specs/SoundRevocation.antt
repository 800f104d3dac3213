-- What holds of every revocation (own): the fact that is made passes its check by this.
--   IsSoundRevocation   a token that is revoked is an access or refresh token
use Rattle.std.specs.Prelude.{◌≡◌, true}
use Rattle.tk_fact.specs.Check.{is_revocable}
use Rattle.tk_query.specs.declared.revoked.Revocation.{Revocation}
use Rattle.tk_query.specs.declared.revoked.Revocation.TheVariants.{Refused, Done, Revokes, Later}

-- a token that is revoked is an access or refresh token (RFC 7009, 2)
abbrev pub IsSoundRevocation : Revocation → Type 0
IsSoundRevocation (Refused why) = Unit {0}
IsSoundRevocation (Done why) = Unit {0}
IsSoundRevocation Later = Unit {0}
IsSoundRevocation (Revokes fact) = is_revocable fact.token.kind ≡ true
