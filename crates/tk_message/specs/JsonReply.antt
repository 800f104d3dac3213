-- What JSON replies say (RFC 6749, 5.1, for tokens, 5.2, for errors; RFC 7662, 2.2, for
-- introspection; the others are own).
--   status_of   the status of the reply
--   body_of     the body of the reply
--   reply_of        the reply that says this
use Rattle.serde_json.specs.Data.{Data}
use Rattle.tk_store.specs.StoreFields.{held_facts}
use Rattle.tk_message.specs.declared.status_code.StatusCode.{StatusCode}
use Rattle.tk_message.specs.declared.status_code.StatusCode.TheVariants.{Ok}
use Rattle.tk_message.specs.declared.json_reply.JsonReply.{JsonReply}
use Rattle.tk_message.specs.declared.json_reply.JsonReply.TheVariants.{
  Error,
  Client,
  Shown,
  Clients,
  Consent,
  Subject,
  SubjectPage,
  Login,
  Tokens,
  Refreshed,
  Access,
  Refresh,
  Inactive,
  Taken,
}
use Rattle.tk_message.specs.Bodies.{
  error_body,
  client_body,
  shown_body,
  consent_body,
  subject_body,
  login_body,
  token_body,
  refreshed_body,
  access_body,
  refresh_body,
  standing_body,
  inactive_body,
  taken_body,
}
use Rattle.tk_message.specs.ClientPage.{clients_body}
use Rattle.tk_message.specs.ErrorCode.{error_status, error_name}
use Rattle.tk_message.specs.Reply.{json_reply}
use Rattle.tk_message.specs.ReplyFields.{ReplyFields}
use Rattle.tk_message.specs.SubjectPage.{subject_page}

-- the status of the reply (RFC 6749, 5.1 and 5.2; RFC 7662, 2.2; own)
abbrev pub status_of : JsonReply → StatusCode
status_of (Error code) = error_status code
status_of (Client status client) = status
status_of (Consent status consent) = status
status_of reply_of = Ok

-- the body of the reply (RFC 6749, 5.1 and 5.2; RFC 7662, 2.2; own)
abbrev pub body_of : JsonReply → Data
body_of (Error code) = error_body (error_name code)
body_of (Client status client) = client_body client
body_of (Shown client client_kind lives live scope) =
    shown_body client client_kind.now lives live scope.now
body_of (Clients ledger after) = clients_body (held_facts ledger.now) after
body_of (Consent status consent) = consent_body consent
body_of (Subject subject) = subject_body subject.now
body_of (SubjectPage ledger now subject consents_after logins_after) =
    subject_page (held_facts ledger.now) now subject.now consents_after logins_after
body_of (Login code) = login_body code
body_of (Tokens access lifetime refresh scope) =
    token_body access.now lifetime refresh.now scope.now
body_of (Refreshed access lifetime scope) = refreshed_body access.now lifetime scope.now
body_of (Access s) = standing_body access_body s
body_of (Refresh s) = standing_body refresh_body s
body_of Inactive = inactive_body
body_of (Taken count) = taken_body count

-- the reply that says this (RFC 6749, 5.1 and 5.2; RFC 7662, 2.2; own)
abbrev pub reply_of : JsonReply → ReplyFields
reply_of t = json_reply (status_of t) (body_of t)
