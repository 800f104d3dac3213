-- The error codes of refusals of token requests (RFC 6749, 5.2).
--   refusal_code   the error code of a refusal
use Rattle.tk_message.specs.declared.error_code.ErrorCode.{ErrorCode}
use Rattle.tk_message.specs.declared.error_code.ErrorCode.TheVariants as code
use Rattle.tk_grant.specs.declared.refusal.Refusal.{Refusal}
use Rattle.tk_grant.specs.declared.refusal.Refusal.TheVariants as refusal

-- the error code of a refusal (RFC 6749, 5.2): `invalid_grant` for a code or refresh token that
-- can't be redeemed, whatever the reason
abbrev pub refusal_code : Refusal → ErrorCode
refusal_code refusal.DuplicateParameter = code.InvalidRequest
refusal_code refusal.MixedCredentials = code.InvalidRequest
refusal_code refusal.InvalidClient = code.InvalidClient
refusal_code refusal.MissingGrantType = code.InvalidRequest
refusal_code refusal.UnsupportedGrantType = code.UnsupportedGrantType
refusal_code refusal.MissingGrant = code.InvalidRequest
refusal_code refusal.UnknownGrant = code.InvalidGrant
refusal_code refusal.ForeignGrant = code.InvalidGrant
refusal_code refusal.DeadFamily = code.InvalidGrant
refusal_code refusal.WithdrawnGrant = code.InvalidGrant
refusal_code refusal.FamilyOver = code.InvalidGrant
refusal_code refusal.PastGrant = code.InvalidGrant
refusal_code refusal.WrongRedirect = code.InvalidGrant
refusal_code refusal.WrongVerifier = code.InvalidGrant
refusal_code refusal.LastGeneration = code.InvalidGrant
refusal_code refusal.WrongScope = code.InvalidScope
