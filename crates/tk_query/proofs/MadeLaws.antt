-- Revocation makes no fact but revocations. Key result:
--   revokes_alone   revocation requests
use Rattle.std.proofs.Common.{◌≡◌, ℕ, IfSome, refl}
use Rattle.tk_fact.specs.declared.body.Body.{Body}
use Rattle.tk_fact.specs.declared.body.Body.TheVariants as body
use Rattle.tk_fact.specs.declared.token_revoked.TokenRevoked.{TokenRevoked}
use Rattle.tk_store.specs.StoreFields.{StoreFields, held_facts}
use Rattle.tk_message.specs.Caller.{caller_of}
use Rattle.tk_message.specs.RequestFields.{RequestFields}
use Rattle.tk_message.specs.declared.place.Place.{Place}
use Rattle.tk_query.specs.Caller.{known_names}
use Rattle.tk_query.specs.Revocation.{revoked_by, revocation_of}
use Rattle.tk_query.specs.Revoked.{revoked_by_caller}
use Rattle.tk_query.specs.declared.revoked.Revocation.{Revocation}
use Rattle.tk_query.specs.declared.revoked.Revocation.TheVariants.{Refused, Done, Revokes, Later}

-- the body is a revocation
abbrev pub Revoking : Body → Type 0
Revoking b = (f : TokenRevoked) × (b ≡ body.TokenRevoked f)

-- for `revokes_alone`: by what the revocation comes to
revoked_alone : (r : Revocation) → IfSome (revoked_by r).made Revoking
revoked_alone (Refused why) = tt
revoked_alone (Done why) = tt
revoked_alone Later = tt
revoked_alone (Revokes fact) = (fact, refl)

-- a revocation makes no other fact than that of a token revoked
pub revokes_alone : (P : StoreFields) (place : Place) (now : ℕ) (request : RequestFields)
    → IfSome (revocation_of P place now request).made Revoking
revokes_alone P place now request = revoked_alone
    (revoked_by_caller P place now request.params (caller_of (held_facts P) known_names request))
