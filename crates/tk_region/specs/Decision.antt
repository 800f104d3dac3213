-- The decision of a request to any endpoint, and the serial cap (own).
--   decision_of   the decision by the endpoint
--   capped        a decision, unless it makes a fact above the cap
use Rattle.std.specs.Prelude.{ℕ, ◌&&◌, nat_lt, List, is_some, if◌then◌else◌}
use Rattle.tk_store.specs.StoreFields.{StoreFields, held_facts}
use Rattle.tk_message.specs.declared.decision.Decision.{Decision}
use Rattle.tk_message.specs.declared.error_code.ErrorCode.TheVariants.{TemporarilyUnavailable}
use Rattle.tk_message.specs.declared.place.Place.{Place}
use Rattle.tk_message.specs.declared.request.Endpoint.{Endpoint}
use Rattle.tk_message.specs.declared.request.Endpoint.TheVariants.{Authorize, Token, Introspect}
use Rattle.tk_message.specs.declared.request.Endpoint.TheVariants.{Revoke, AddClient, ShowClient}
use Rattle.tk_message.specs.declared.request.Endpoint.TheVariants.{Retire, Consent, Withdraw}
use Rattle.tk_message.specs.declared.request.Endpoint.TheVariants.{ListClients, SignOut}
use Rattle.tk_message.specs.declared.request.Endpoint.TheVariants.{ShowSubject, Logout}
use Rattle.tk_message.specs.declared.request.Endpoint.TheVariants.{ChangeSecret}
use Rattle.tk_message.specs.RequestFields.{RequestFields}
use Rattle.tk_message.specs.Decision.{answered, refused}
use Rattle.tk_authorize.specs.Administration.{administration_of}
use Rattle.tk_authorize.specs.Authorization.{authorization_of}
use Rattle.tk_authorize.specs.Listing.{listing_of}
use Rattle.tk_authorize.specs.SubjectListing.{subject_of}
use Rattle.tk_grant.specs.Granted.{grant_of}
use Rattle.tk_query.specs.Introspection.{introspection_of}
use Rattle.tk_query.specs.Revocation.{revocation_of}

-- the decision by the endpoint
abbrev pub decision_by : Endpoint → StoreFields → Place → ℕ → List ℕ → RequestFields → Decision
decision_by Authorize P place now words request =
    authorization_of (held_facts P) place now words request
decision_by Token P place now words request = grant_of P place now words request
decision_by Introspect P place now words request =
    answered (introspection_of P place.choices.refresh_seen now request)
decision_by Revoke P place now words request = revocation_of P place now request
decision_by AddClient P place now words request = administration_of (held_facts P) place now request
decision_by ShowClient P place now words request =
    administration_of (held_facts P) place now request
decision_by ListClients P place now words request = listing_of (held_facts P) request.params
decision_by Retire P place now words request = administration_of (held_facts P) place now request
decision_by ChangeSecret P place now words request =
    administration_of (held_facts P) place now request
decision_by Consent P place now words request = administration_of (held_facts P) place now request
decision_by Withdraw P place now words request = administration_of (held_facts P) place now request
decision_by SignOut P place now words request = administration_of (held_facts P) place now request
decision_by ShowSubject P place now words request = subject_of (held_facts P) now request.params
decision_by Logout P place now words request = administration_of (held_facts P) place now request

-- the decision of a request, without regard to the cap
abbrev pub decision_of : StoreFields → Place → ℕ → List ℕ → RequestFields → Decision
decision_of P place now words request = decision_by request.endpoint P place now words request

-- the decision, or `temporarily_unavailable` without a fact if the decision makes one above the cap
abbrev pub capped : ℕ → Place → Decision → Decision
capped cap place d =
    if is_some d.made && nat_lt cap place.next then refused TemporarilyUnavailable else d
