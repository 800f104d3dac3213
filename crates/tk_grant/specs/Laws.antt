-- The laws of token requests: a lost token is an invalid grant (RFC 6749, 5.2), and tokens end with
-- their family (own).
--   GrantsAlike    two stores decide a token request alike if they answer each handle alike, and
--                  have the same clients
--   GrantsWithin   the fact that is made uses what was minted, and its tokens end with their family
--   RepeatsReply   a refresh that is repeated gets the reply that was given to it
--   RefreshesAnew  a refresh by a client that keeps its refresh token is no repeat
use Rattle.std.specs.Prelude.{◌≡◌, ℕ, List, IfSome, Some, None}
use Rattle.std.specs.FinMap as map
use Rattle.tk_handle.specs.declared.dot.Dot.{Dot}
use Rattle.tk_handle.specs.declared.handle.Handle.{Handle}
use Rattle.tk_store.specs.StoreFields.{StoreFields, held_facts}
use Rattle.tk_ledger.specs.Alike.{AnsweredAlike}
use Rattle.tk_ledger.specs.Status.{status_here}
use Rattle.tk_ledger.specs.Views.{client_view}
use Rattle.tk_message.specs.Caller.{caller_of}
use Rattle.tk_message.specs.RequestFields.{RequestFields}
use Rattle.tk_message.specs.declared.place.Place.{Place}
use Rattle.tk_fact.specs.declared.access_refreshed.AccessRefreshed.{AccessRefreshed}
use Rattle.tk_fact.specs.declared.body.Body.{Body}
use Rattle.tk_fact.specs.declared.body.Body.TheVariants as body
use Rattle.tk_message.specs.Place.{next_in}
use Rattle.tk_message.specs.ReplyFields.{ReplyFields}
use Rattle.tk_grant.specs.Granted.{grant_of}
use Rattle.tk_grant.specs.Judged.{judged_of, known_names}
use Rattle.tk_grant.specs.Repeat.{later_reply, repeat_of}
use Rattle.tk_grant.specs.Within.{IsWithin}
use Rattle.tk_grant.specs.declared.judged.Grant.{Grant}
use Rattle.tk_grant.specs.declared.judged.Judged.TheVariants.{Rotates}

-- two stores that answer each handle alike, have the same clients, and take the sender for the same
-- client, decide a token request alike (RFC 6749, 5.2)
abbrev pub GrantsAlike : Type 0
GrantsAlike = (P Q : StoreFields) (place : Place) (now : ℕ) (words : List ℕ)
    (request : RequestFields)
    → ((h : Handle) → AnsweredAlike now h (status_here P now h) (status_here Q now h))
    → ((d : Dot) → client_view (held_facts P) d ≡ client_view (held_facts Q) d)
    → caller_of (held_facts P) known_names request ≡ caller_of (held_facts Q) known_names request
    → grant_of P place now words request ≡ grant_of Q place now words request

-- the fact made for a token request, if one is made, uses a code or refresh token that was minted,
-- and its tokens end with their family at the latest (own)
abbrev pub GrantsWithin : Type 0
GrantsWithin = (P : StoreFields) (place : Place) (now : ℕ) (words : List ℕ)
    (request : RequestFields)
    → IfSome (grant_of P place now words request).made (IsWithin (held_facts P))

-- A refresh that was granted at a moment, whose fact is held, gets the same reply when it is
-- repeated later, if it gets one: the reply of the grant, of which `expires_in` alone differs
-- (own).
abbrev pub RepeatsReply : Type 0
RepeatsReply = (P Q : StoreFields) (place : Place) (now later : ℕ) (words : List ℕ)
    (request : RequestFields) (generation : ℕ) (grant : Grant) (body : Body) (reply : ReplyFields)
    → judged_of P now request ≡ Rotates generation grant
    → (grant_of P place now words request).made ≡ Some body
    → map.get (held_facts Q) (next_in place) ≡ Some body
    → repeat_of Q later (next_in place) words ≡ Some reply
    → reply ≡ later_reply place now later words grant

-- A refresh by a client that keeps its refresh token is never repeated: where its fact is held, no
-- reply is given again (own).
abbrev pub RefreshesAnew : Type 0
RefreshesAnew = (Q : StoreFields) (later : ℕ) (dot : Dot) (words : List ℕ) (fact : AccessRefreshed)
    → map.get (held_facts Q) dot ≡ Some (body.AccessRefreshed fact)
    → repeat_of Q later dot words ≡ None
