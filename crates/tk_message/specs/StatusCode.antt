-- The numbers of statuses (RFC 9110, 15).
--   status_number   the number of a status
use Rattle.std.specs.Prelude.{ℕ}
use Rattle.tk_message.specs.declared.status_code.StatusCode.{StatusCode}
use Rattle.tk_message.specs.declared.status_code.StatusCode.TheVariants.{
  Ok,
  Created,
  Found,
  BadRequest,
  Unauthorized,
  NotFound,
  MethodNotAllowed,
  Conflict,
  LengthRequired,
  ContentTooLarge,
  ServiceUnavailable,
}

-- the number of a status
abbrev pub status_number : StatusCode → ℕ
status_number Ok = 200
status_number Created = 201
status_number Found = 302
status_number BadRequest = 400
status_number Unauthorized = 401
status_number NotFound = 404
status_number MethodNotAllowed = 405
status_number Conflict = 409
status_number LengthRequired = 411
status_number ContentTooLarge = 413
status_number ServiceUnavailable = 503
