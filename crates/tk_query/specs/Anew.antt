-- The revocation of a token that is not seen, as if it was the first (own).
--   IsEarly         a token is known, and hasn't expired
--   AsksToRevoke    a client asks to revoke the token of a handle
--   revoked_first   the outcome for a token of which no revocation is known
--   IsAnew          a decision is that of a first revocation, though the token was revoked before
use Rattle.std.specs.Prelude.{◌≡◌, ◌≢◌, ◌<◌, ℕ, true, false, List, codes, Option, Some}
use Rattle.std.specs.Prelude.{if◌then◌else◌}
use Rattle.tk_handle.specs.declared.dot.Dot.{Dot}
use Rattle.tk_handle.specs.declared.handle.Handle.{Handle}
use Rattle.tk_handle.specs.declared.kind.Kind.TheVariants as kind
use Rattle.tk_handle.specs.Handle.{handle_in}
use Rattle.tk_fact.specs.declared.token_revoked.TokenRevoked.{TokenRevoked}
use Rattle.tk_store.specs.StoreFields.{StoreFields, held_facts}
use Rattle.tk_ledger.specs.Status.{status_here, digest_of}
use Rattle.tk_ledger.specs.Tokens.{is_revoked}
use Rattle.tk_ledger.specs.ViewFields.{ClientFields}
use Rattle.tk_ledger.specs.Views.{client_view}
use Rattle.tk_ledger.specs.declared.status.Status.{Status}
use Rattle.tk_ledger.specs.declared.status.Status.TheVariants.{Unseen, Wrong, Broken, Known}
use Rattle.tk_params.specs.Params.{value_of}
use Rattle.tk_message.specs.Caller.{caller_of}
use Rattle.tk_message.specs.RequestFields.{RequestFields}
use Rattle.tk_message.specs.declared.caller.Caller.TheVariants as caller
use Rattle.tk_message.specs.declared.choices.UnseenRevocation.{UnseenRevocation}
use Rattle.tk_message.specs.declared.decision.Decision.{Decision}
use Rattle.tk_message.specs.declared.place.Place.{Place}
use Rattle.tk_query.specs.Caller.{known_names}
use Rattle.tk_query.specs.Revocation.{revoked_by}
use Rattle.tk_query.specs.Revoked.{revocation_of, may_revoke_unseen, is_own}
use Rattle.tk_query.specs.declared.revoked.Revocation.{Revocation}
use Rattle.tk_query.specs.declared.revoked.Revocation.TheVariants.{Revokes, Later}

-- the token was minted, and its expiry is later than the moment (own)
abbrev pub IsEarly : ℕ → Status → Type 0
IsEarly now Unseen = ⊥
IsEarly now Wrong = ⊥
IsEarly now (Broken expiry) = now < expiry
IsEarly now (Known s) = now < s.expiry

-- the sender of the request is a client that asks to revoke the token of the handle (RFC 7009, 2.1)
pub record AsksToRevoke (P : StoreFields) (request : RequestFields) (client : Dot) (h : Handle)
    : Type 0
  where
    pub sender : caller_of (held_facts P) known_names request ≡ caller.Client client
    pub text : List ℕ
    pub named : value_of (codes "token") request.params ≡ Some text
    pub reads : handle_in text ≡ Some h

-- the outcome for a token of another region that is not seen, and of which no revocation is known:
-- a sender that may not revoke it may try again later (RFC 7009, 2.2.1)
abbrev pub revoked_first : UnseenRevocation → Option ClientFields → TokenRevoked → Revocation
revoked_first choice sender fact =
    if may_revoke_unseen choice sender then Revokes fact else Later

-- the token is not seen by the store, though by its facts the sender revoked it before; and the
-- decision is that of a first revocation (own)
pub record IsAnew (P : StoreFields) (place : Place) (now : ℕ) (request : RequestFields)
    (d : Decision) : Type 0 where
  pub client : Dot
  pub handle : Handle
  pub asks : AsksToRevoke P request client handle
  pub revocable : handle.id.kind ≢ kind.Code
  pub foreign : is_own place.number handle ≡ false
  pub unseen : status_here P now handle ≡ Unseen
  pub before : is_revoked (held_facts P) handle.id (digest_of handle) client ≡ true
  pub decided : d ≡ revoked_by (revoked_first place.choices.unseen
      (client_view (held_facts P) client) (revocation_of handle handle.id.kind client))
