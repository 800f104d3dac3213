-- The decision of an administration request (own; RFC 6749, 2 for clients).
--   code_of             the error code of a refusal
--   decided_..          the decision by a judgement of one kind
--   administered_by     the decision by a judgement
--   decided_alone       the judgement of specs/Administered and specs/Chosen, carried out
--   administration_of   the decision of a request, with the operator that it names
use Rattle.std.specs.Prelude.{ℕ, Bool, Option, Some, None, Result, Ok, Err, if◌then◌else◌}
use Rattle.tk_handle.specs.declared.dot.Dot.{Dot}
use Rattle.tk_fact.specs.declared.body.Body.TheVariants.{
  ClientAdded,
  ClientRetired,
  ConsentGiven,
  ConsentWithdrawn,
  SubjectOut,
  TokenRevoked,
  SecretSet,
}
use Rattle.tk_fact.specs.declared.by.By.{By}
use Rattle.tk_fact.specs.declared.client_added.ClientAdded as added
use Rattle.tk_fact.specs.declared.consent_given.ConsentGiven as given
use Rattle.tk_fact.specs.declared.secret_set.SecretSet as set
use Rattle.tk_fact.specs.declared.subject_out.SubjectOut as out
use Rattle.tk_fact.specs.declared.token_revoked.TokenRevoked as revoked
use Rattle.tk_store.specs.FactSet.{FactSet}
use Rattle.tk_message.specs.declared.decision.Decision.{Decision}
use Rattle.tk_message.specs.declared.error_code.ErrorCode.{ErrorCode}
use Rattle.tk_message.specs.declared.error_code.ErrorCode.TheVariants.{
  InvalidRequest,
  InvalidScope,
  NotFound,
}
use Rattle.tk_message.specs.declared.place.Place.{Place}
use Rattle.tk_message.specs.declared.status_code.StatusCode.TheVariants as status
use Rattle.tk_message.specs.Decision.{answered, refused}
use Rattle.tk_message.specs.Place.{next_in}
use Rattle.tk_message.specs.Bodies.{client_body, consent_body, login_body, shown_body}
use Rattle.tk_message.specs.Bodies.{subject_body}
use Rattle.tk_message.specs.Reply.{json_reply}
use Rattle.tk_message.specs.RequestFields.{RequestFields}
use Rattle.tk_authorize.specs.declared.admin_refusal.AdminRefusal.{AdminRefusal}
use Rattle.tk_authorize.specs.declared.admin_refusal.AdminRefusal.TheVariants as refusal
use Rattle.tk_authorize.specs.declared.administered.Administered.{Administered}
use Rattle.tk_authorize.specs.declared.administered.ShownClient.{ShownClient}
use Rattle.tk_authorize.specs.declared.administered.Administered.TheVariants.{
  Refused,
  Registers,
  Shows,
  Retires,
  Consents,
  HasConsent,
  Withdraws,
  AlreadyOut,
  SignsOut,
  LogsOut,
  AlreadyEnded,
  SetsSecret,
  HasSecret,
}
use Rattle.tk_authorize.specs.Administered.{administered_of}
use Rattle.tk_authorize.specs.Chosen.{chosen}
use Rattle.tk_authorize.specs.Operators.{by_asked, with_operator}

-- the error code of a refusal (own)
abbrev pub code_of : AdminRefusal → ErrorCode
code_of refusal.MalformedOperator = InvalidRequest
code_of refusal.DuplicateParameter = InvalidRequest
code_of refusal.MissingParameter = InvalidRequest
code_of refusal.UnknownKind = InvalidRequest
code_of refusal.WrongRefresh = InvalidRequest
code_of refusal.UnwantedSecret = InvalidRequest
code_of refusal.MissingSecret = InvalidRequest
code_of refusal.MalformedSecret = InvalidRequest
code_of refusal.WrongOld = InvalidRequest
code_of refusal.TooManyTurns = InvalidRequest
code_of refusal.WrongLife = InvalidRequest
code_of refusal.MalformedScope = InvalidScope
code_of refusal.WrongRedirects = InvalidRequest
code_of refusal.UnknownClient = NotFound
code_of refusal.MalformedSubject = InvalidRequest
code_of refusal.WrongScope = InvalidScope
code_of refusal.UnknownConsent = NotFound
code_of refusal.UnknownLogin = NotFound
code_of refusal.UnredeemedCode = NotFound
code_of refusal.UnknownEndpoint = NotFound

-- a client is added, and gets the id of the next dot (own; RFC 6749, 2)
abbrev pub decided_registered : Place → added.ClientAdded → Decision
decided_registered place client = record {
  reply = json_reply status.Created (client_body (next_in place));
  made = Some (ClientAdded client);
}

-- a client is shown (own)
abbrev pub decided_shown : ShownClient → Decision
decided_shown client = answered
    (json_reply status.Ok
    (shown_body client.client client.client_kind client.lives client.live client.scope))

-- a client is retired. A client that is not live makes no fact (own)
abbrev pub decided_retired : Dot → Bool → Decision
decided_retired client live = record {
  reply = json_reply status.Ok (client_body client);
  made = if live then Some (ClientRetired (record { client = client; by = None })) else None;
}

-- a consent is given, and gets the id of the next dot (own)
abbrev pub decided_consented : Place → given.ConsentGiven → Decision
decided_consented place consent =
    record {
      reply = json_reply status.Created (consent_body (next_in place));
      made = Some (ConsentGiven consent);
    }

-- a consent that is held and good serves: no fact is made (own)
abbrev pub decided_held : Dot → Decision
decided_held consent = answered (json_reply status.Ok (consent_body consent))

-- a consent is withdrawn. A consent that is not live makes no fact (own)
abbrev pub decided_withdrawn : Dot → Bool → Decision
decided_withdrawn consent live = record {
  reply = json_reply status.Ok (consent_body consent);
  made = if live then Some (ConsentWithdrawn (record { consent = consent; by = None })) else None;
}

-- a subject is signed out (own)
abbrev pub decided_out : out.SubjectOut → Decision
decided_out sign_out = record {
  reply = json_reply status.Ok (subject_body sign_out.subject);
  made = Some (SubjectOut sign_out);
}

-- a login is ended: its refresh token is revoked in the name of its client (RFC 7009, 2.1)
abbrev pub decided_ended : Dot → revoked.TokenRevoked → Decision
decided_ended login revocation = record {
  reply = json_reply status.Ok (login_body login);
  made = Some (TokenRevoked revocation);
}

-- a secret of a client is set (own; RFC 6749, 2.3.1)
abbrev pub decided_set : set.SecretSet → Decision
decided_set secret = record {
  reply = json_reply status.Created (client_body secret.client);
  made = Some (SecretSet secret);
}

-- the decision by a judgement. A subject that is signed out already makes no fact, and neither does
-- a login that is ended already, or a secret that the client has already (own)
abbrev pub administered_by : Place → Administered → Decision
administered_by place (Refused why) = refused (code_of why)
administered_by place (Registers client) = decided_registered place client
administered_by place (Shows client) = decided_shown client
administered_by place (Retires client live) = decided_retired client live
administered_by place (Consents consent) = decided_consented place consent
administered_by place (HasConsent consent) = decided_held consent
administered_by place (Withdraws consent live) = decided_withdrawn consent live
administered_by place (AlreadyOut subject) = answered (json_reply status.Ok (subject_body subject))
administered_by place (SignsOut sign_out) = decided_out sign_out
administered_by place (LogsOut login revocation) = decided_ended login revocation
administered_by place (AlreadyEnded login) = answered (json_reply status.Ok (login_body login))
administered_by place (SetsSecret secret) = decided_set secret
administered_by place (HasSecret client) = answered (json_reply status.Ok (client_body client))

-- the decision of an administration request in which no operator is named (own)
abbrev pub decided_alone : FactSet → Place → ℕ → RequestFields → Decision
decided_alone F place now request =
    administered_by place (chosen F place.choices (administered_of F now request))

-- the decision by the operator that the request names, if it names one (own)
abbrev pub decided_as : FactSet → Place → ℕ → RequestFields → Result (Option By) AdminRefusal
    → Decision
decided_as F place now request (Err why) = refused (code_of why)
decided_as F place now request (Ok by) = with_operator by (decided_alone F place now request)

-- the decision of an administration request (own)
abbrev pub administration_of : FactSet → Place → ℕ → RequestFields → Decision
administration_of F place now request =
    decided_as F place now request (by_asked now request.operator)
