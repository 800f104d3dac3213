-- The error codes of denials (RFC 6749, 4.1.2.1; RFC 7636, 4.4.1).
--   denial_code   the error code of a denial
use Rattle.tk_message.specs.declared.error_code.ErrorCode.{ErrorCode}
use Rattle.tk_message.specs.declared.error_code.ErrorCode.TheVariants as code
use Rattle.tk_authorize.specs.declared.denial.Denial.{Denial}
use Rattle.tk_authorize.specs.declared.denial.Denial.TheVariants as denial

-- the error code of a denial (RFC 6749, 4.1.2.1; RFC 7636, 4.4.1). A response type, a scope and a
-- consent have codes of their own
abbrev pub denial_code : Denial → ErrorCode
denial_code denial.DuplicateParameter = code.InvalidRequest
denial_code denial.MalformedState = code.InvalidRequest
denial_code denial.MissingResponseType = code.InvalidRequest
denial_code denial.UnsupportedResponseType = code.UnsupportedResponseType
denial_code denial.WrongScope = code.InvalidScope
denial_code denial.ChallengeMethodAlone = code.InvalidRequest
denial_code denial.MissingChallenge = code.InvalidRequest
denial_code denial.UnsupportedChallengeMethod = code.InvalidRequest
denial_code denial.MalformedChallenge = code.InvalidRequest
denial_code denial.MissingSubject = code.AccessDenied
denial_code denial.MalformedSubject = code.AccessDenied
denial_code denial.MissingConsent = code.AccessDenied
