-- The decision of a revocation request (RFC 7009, 2.2).
--   revocation_of   the decision of a request
use Rattle.std.specs.Prelude.{ℕ, Some}
use Rattle.tk_fact.specs.declared.body.Body.TheVariants.{TokenRevoked}
use Rattle.tk_store.specs.StoreFields.{StoreFields, held_facts}
use Rattle.tk_message.specs.declared.decision.Decision.{Decision}
use Rattle.tk_message.specs.declared.place.Place.{Place}
use Rattle.tk_message.specs.declared.status_code.StatusCode.TheVariants.{Ok}
use Rattle.tk_message.specs.Caller.{caller_of}
use Rattle.tk_message.specs.Decision.{answered, refused, postponed}
use Rattle.tk_message.specs.Reply.{empty_reply}
use Rattle.tk_message.specs.RequestFields.{RequestFields}
use Rattle.tk_query.specs.declared.revoked.Revocation.{Revocation}
use Rattle.tk_query.specs.declared.revoked.Revocation.TheVariants.{Refused, Done, Revokes, Later}
use Rattle.tk_query.specs.Caller.{known_names}
use Rattle.tk_query.specs.Refusal.{refusal_code}
use Rattle.tk_query.specs.Revoked.{revoked_by_caller}

-- the decision by the outcome of revocation: an error (RFC 7009, 2.2.1), or 200 without a body,
-- whether or not anything was left to revoke (RFC 7009, 2.2), or 503 (RFC 7009, 2.2.1)
abbrev pub revoked_by : Revocation → Decision
revoked_by (Refused why) = refused (refusal_code why)
revoked_by (Done why) = answered (empty_reply Ok)
revoked_by Later = postponed
revoked_by (Revokes fact) = record { reply = empty_reply Ok; made = Some (TokenRevoked fact) }

-- the decision of a revocation request (RFC 7009, 2.1 and 2.2). Of the place, the region's number
-- and choices count
abbrev pub revocation_of : StoreFields → Place → ℕ → RequestFields → Decision
revocation_of P place now request =
    revoked_by (revoked_by_caller P place now request.params
    (caller_of (held_facts P) known_names request))
