-- The codes of errors (RFC 6749, 4.1.2.1 and 5.2). `not_found` is own, as are the last nine: they
-- are for requests that can't be read and for what regions exchange.
--   error_row      the status and the name of an error
--   error_status   the status of an error
--   error_name     the name of an error
use Rattle.std.specs.Prelude.{ℕ, List, codes}
use Rattle.tk_message.specs.declared.status_code.StatusCode.{StatusCode}
use Rattle.tk_message.specs.declared.status_code.StatusCode.TheVariants as status
use Rattle.tk_message.specs.declared.error_code.ErrorCode.{ErrorCode}
use Rattle.tk_message.specs.declared.error_code.ErrorCode.TheVariants.{
  InvalidRequest,
  InvalidClient,
  InvalidGrant,
  InvalidScope,
  UnsupportedGrantType,
  UnsupportedResponseType,
  AccessDenied,
  NotFound,
  TemporarilyUnavailable,
  BadRequest,
  MethodNotAllowed,
  LengthRequired,
  TooLarge,
  Malformed,
  HorizonAhead,
  OutOfRange,
  OwnNumber,
  Conflict,
}

-- a table with a row for each error: its status and its name. For an error that RFC 6749 names, the
-- status is 400, but for invalid_client, 401 (RFC 6749, 5.2), and temporarily_unavailable, 503
abbrev pub error_row : ErrorCode → StatusCode × List ℕ
error_row InvalidRequest = (status.BadRequest, codes "invalid_request")
error_row InvalidClient = (status.Unauthorized, codes "invalid_client")
error_row InvalidGrant = (status.BadRequest, codes "invalid_grant")
error_row InvalidScope = (status.BadRequest, codes "invalid_scope")
error_row UnsupportedGrantType = (status.BadRequest, codes "unsupported_grant_type")
error_row UnsupportedResponseType = (status.BadRequest, codes "unsupported_response_type")
error_row AccessDenied = (status.BadRequest, codes "access_denied")
error_row NotFound = (status.NotFound, codes "not_found")
error_row TemporarilyUnavailable = (status.ServiceUnavailable, codes "temporarily_unavailable")
error_row BadRequest = (status.BadRequest, codes "bad_request")
error_row MethodNotAllowed = (status.MethodNotAllowed, codes "method_not_allowed")
error_row LengthRequired = (status.LengthRequired, codes "length_required")
error_row TooLarge = (status.ContentTooLarge, codes "too_large")
error_row Malformed = (status.BadRequest, codes "malformed")
error_row HorizonAhead = (status.Conflict, codes "horizon_ahead")
error_row OutOfRange = (status.Conflict, codes "out_of_range")
error_row OwnNumber = (status.Conflict, codes "own_number")
error_row Conflict = (status.Conflict, codes "conflict")

-- the status of an error (RFC 6749, 4.1.2.1 and 5.2; own)
abbrev pub error_status : ErrorCode → StatusCode
error_status code = (error_row code).0

-- the name of an error (RFC 6749, 4.1.2.1 and 5.2; own)
abbrev pub error_name : ErrorCode → List ℕ
error_name code = (error_row code).1
