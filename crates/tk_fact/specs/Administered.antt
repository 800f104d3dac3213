-- By whom and when a fact was administered (own).
--   by_of     by whom and when, if an operator was named
--   with_by   a fact with by whom and when
use Rattle.std.specs.Prelude.{Option, None}
use Rattle.tk_fact.specs.declared.by.By.{By}
use Rattle.tk_fact.specs.declared.body.Body.{Body}
use Rattle.tk_fact.specs.declared.body.Body.TheVariants.{
  ClientAdded,
  ClientRetired,
  ConsentGiven,
  ConsentWithdrawn,
  TokenRevoked,
  SubjectOut,
  SecretSet,
}
use Rattle.tk_fact.specs.Kinds as fields

-- by whom and when the fact was administered, if an operator was named
abbrev pub by_of : Body → Option By
by_of (ClientAdded f) = f.by
by_of (ClientRetired f) = f.by
by_of (ConsentGiven f) = f.by
by_of (ConsentWithdrawn f) = f.by
by_of (TokenRevoked f) = f.by
by_of (SubjectOut f) = f.by
by_of (SecretSet f) = f.by
by_of body = None

-- the fact with by whom and when it was administered; facts of the other kinds have no place for it
abbrev pub with_by : Option By → Body → Body
with_by by (ClientAdded f) = ClientAdded (fields.client_on (fields.terms_of f) f.lives by)
with_by by (ClientRetired f) = ClientRetired (fields.retirement_on f.client by)
with_by by (ConsentGiven f) = ConsentGiven (fields.consent_on (fields.consent_fields f) by)
with_by by (ConsentWithdrawn f) = ConsentWithdrawn (fields.withdrawal_on f.consent by)
with_by by (TokenRevoked f) = TokenRevoked (fields.revocation_on (fields.revocation_fields f) by)
with_by by (SubjectOut f) = SubjectOut (fields.sign_out_on (fields.sign_out_fields f) by)
with_by by (SecretSet f) = SecretSet (fields.secret_on (fields.secret_fields f) by)
with_by by body = body
