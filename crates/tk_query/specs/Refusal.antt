-- The error codes of refusals (RFC 6749, 5.2; RFC 7662, 2.3; RFC 7009, 2.2.1).
--   refusal_code   the error code of a refusal
use Rattle.tk_message.specs.declared.error_code.ErrorCode.{ErrorCode}
use Rattle.tk_message.specs.declared.error_code.ErrorCode.TheVariants as code
use Rattle.tk_query.specs.declared.refusal.Refusal.{Refusal}
use Rattle.tk_query.specs.declared.refusal.Refusal.TheVariants as refusal

-- the error code of a refusal. A token that was issued to another client is an invalid grant (RFC
-- 6749, 5.2)
abbrev pub refusal_code : Refusal → ErrorCode
refusal_code refusal.DuplicateParameter = code.InvalidRequest
refusal_code refusal.MixedCredentials = code.InvalidRequest
refusal_code refusal.InvalidClient = code.InvalidClient
refusal_code refusal.PublicClient = code.InvalidClient
refusal_code refusal.MissingToken = code.InvalidRequest
refusal_code refusal.ForeignToken = code.InvalidGrant
