-- The error codes of refusals in place (RFC 6749, 4.1.2.1).
--   refusal_code   the error code of a refusal
use Rattle.tk_message.specs.declared.error_code.ErrorCode.{ErrorCode}
use Rattle.tk_message.specs.declared.error_code.ErrorCode.TheVariants.{InvalidRequest}
use Rattle.tk_authorize.specs.declared.refusal.Refusal.{Refusal}
use Rattle.tk_authorize.specs.declared.refusal.Refusal.TheVariants as refusal

-- the error code of a refusal in place: `invalid_request` for each (own; RFC 6749, 4.1.2.1 gives
-- such an error no code)
abbrev pub refusal_code : Refusal → ErrorCode
refusal_code refusal.DuplicateClientOrRedirect = InvalidRequest
refusal_code refusal.MissingClient = InvalidRequest
refusal_code refusal.UnknownClient = InvalidRequest
refusal_code refusal.RetiredClient = InvalidRequest
refusal_code refusal.MissingRedirect = InvalidRequest
refusal_code refusal.UnknownRedirect = InvalidRequest
