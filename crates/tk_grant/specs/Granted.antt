-- The decision of a token request (RFC 6749, 4.1.4, 5.1, 6 and 10.4).
--   ends_at         a token's expiry: its life after the moment, cut at the family's end
--   access_token    the access token that a fact mints
--   refresh_token   the refresh token that a fact mints
--   redemption, rotation, access_refresh   the fact that is made of a grant
--   granted_by      the decision by a judgement
--   grant_of        the decision of a request
use Rattle.std.specs.Prelude.{ℕ, ◌-◌, nat_le, List, [], ◌∷◌, Some, slice_index, if◌then◌else◌}
use Rattle.tk_handle.specs.declared.dot.Dot.{Dot}
use Rattle.tk_handle.specs.declared.kind.Kind.TheVariants as kind
use Rattle.tk_handle.specs.declared.handle.Handle.{Handle}
use Rattle.tk_handle.specs.Moment.{moment_plus}
use Rattle.tk_fact.specs.declared.body.Body.TheVariants.{
  CodeRedeemed,
  RefreshRotated,
  ReuseSeen,
  AccessRefreshed,
}
use Rattle.tk_fact.specs.declared.access_refreshed.AccessRefreshed as refreshed
use Rattle.tk_fact.specs.declared.code_redeemed.CodeRedeemed as redeemed
use Rattle.tk_fact.specs.declared.minted_token.MintedToken.{MintedToken}
use Rattle.tk_fact.specs.declared.refresh_rotated.RefreshRotated as rotated
use Rattle.tk_store.specs.StoreFields.{StoreFields}
use Rattle.tk_ledger.specs.Status.{digest_of}
use Rattle.tk_message.specs.declared.decision.Decision.{Decision}
use Rattle.tk_message.specs.declared.error_code.ErrorCode.TheVariants.{InvalidGrant}
use Rattle.tk_message.specs.declared.place.Lives.{Lives}
use Rattle.tk_message.specs.declared.place.Place.{Place}
use Rattle.tk_message.specs.declared.status_code.StatusCode.TheVariants.{Ok}
use Rattle.tk_message.specs.Bodies.{refreshed_body, token_body}
use Rattle.tk_message.specs.Decision.{refused}
use Rattle.tk_message.specs.Lives.{lives_within}
use Rattle.tk_message.specs.Place.{next_in}
use Rattle.tk_message.specs.Reply.{error_reply, json_reply}
use Rattle.tk_message.specs.ReplyFields.{ReplyFields}
use Rattle.tk_message.specs.RequestFields.{RequestFields}
use Rattle.tk_grant.specs.declared.judged.Grant.{Grant}
use Rattle.tk_grant.specs.declared.judged.Judged.{Judged}
use Rattle.tk_grant.specs.declared.judged.Judged.TheVariants.{
  Refused,
  Reused,
  Redeems,
  Rotates,
  Refreshes,
}
use Rattle.tk_grant.specs.Judged.{judged_of}
use Rattle.tk_grant.specs.Refusal.{refusal_code}

-- the earlier of two moments (own)
abbrev pub earlier : ℕ → ℕ → ℕ
earlier a b = if nat_le a b then a else b

-- a token's expiry: its life after the moment, but at most the family's end (own)
abbrev pub ends_at : ℕ → ℕ → ℕ → ℕ
ends_at now life family_end = earlier (moment_plus now life) family_end

-- how long what is granted lives: the server's lives, within those of the client (own)
abbrev pub lives_at : Place → Grant → Lives
lives_at place grant = lives_within place.lives grant.lives

-- the handle of the access token at the dot, of the first three random words (own)
abbrev pub access_handle : Dot → List ℕ → Handle
access_handle next words = record {
  id = record { dot = next; kind = kind.Access };
  words = slice_index words 0 ∷ slice_index words 1 ∷ slice_index words 2 ∷ [];
}

-- the handle of the refresh token at the dot, of the last three random words (own)
abbrev pub refresh_handle : Dot → List ℕ → Handle
refresh_handle next words = record {
  id = record { dot = next; kind = kind.Refresh };
  words = slice_index words 3 ∷ slice_index words 4 ∷ slice_index words 5 ∷ [];
}

-- the access token that a fact mints (RFC 6749, 5.1): its digest, its expiry and its scope
abbrev pub access_token : Place → ℕ → List ℕ → Grant → MintedToken
access_token place now words grant = record {
  digest = digest_of (access_handle (next_in place) words);
  expiry = ends_at now (lives_at place grant).access grant.family_end;
  scope = grant.access;
}

-- the refresh token that a fact mints (RFC 6749, 5.1 and 6): its digest, its expiry and its scope
abbrev pub refresh_token : Place → ℕ → List ℕ → Grant → MintedToken
refresh_token place now words grant = record {
  digest = digest_of (refresh_handle (next_in place) words);
  expiry = ends_at now (lives_at place grant).refresh grant.family_end;
  scope = grant.refresh;
}

-- the reply with both handles, and the life of the access token (RFC 6749, 5.1)
abbrev pub granted_reply : Place → ℕ → List ℕ → Grant → ReplyFields
granted_reply place now words grant = json_reply Ok
    (token_body (access_handle (next_in place) words)
    (ends_at now (lives_at place grant).access grant.family_end - now)
    (refresh_handle (next_in place) words) grant.access)

-- the redemption of a code: both tokens start at the moment (RFC 6749, 4.1.3)
abbrev pub redemption : Place → ℕ → List ℕ → Grant → redeemed.CodeRedeemed
redemption place now words grant = record {
  code = grant.from;
  start = now;
  access = access_token place now words grant;
  refresh = refresh_token place now words grant;
}

-- the rotation of a refresh token into a generation: both tokens start at the moment (RFC 6749, 6)
abbrev pub rotation : Place → ℕ → List ℕ → ℕ → Grant → rotated.RefreshRotated
rotation place now words generation grant = record {
  parent = grant.from;
  generation = generation;
  start = now;
  access = access_token place now words grant;
  refresh = refresh_token place now words grant;
}

-- the reply with the access token's handle and its life, to a client that keeps its refresh token
-- (RFC 6749, 5.1 and 6)
abbrev pub refreshed_reply : Place → ℕ → List ℕ → Grant → ReplyFields
refreshed_reply place now words grant = json_reply Ok
    (refreshed_body (access_handle (next_in place) words)
    (ends_at now (lives_at place grant).access grant.family_end - now) grant.access)

-- the access token that is minted for a refresh token that is kept starts at the moment (RFC 6749,
-- 6)
abbrev pub access_refresh : Place → ℕ → List ℕ → Grant → refreshed.AccessRefreshed
access_refresh place now words grant = record {
  parent = grant.from;
  start = now;
  access = access_token place now words grant;
}

-- the decision by a judgement: an error (RFC 6749, 5.2); a reuse, which is an error and makes a
-- fact (RFC 6749, 4.1.2 and 10.4); tokens for a code (RFC 6749, 4.1.4) or for a refresh token (RFC
-- 6749, 6), or an access token for a refresh token that is kept, with the fact that minted them
abbrev pub granted_by : Place → ℕ → List ℕ → Judged → Decision
granted_by place now words (Refused why) = refused (refusal_code why)
granted_by place now words (Reused id) =
    record { reply = error_reply InvalidGrant; made = Some (ReuseSeen (record { token = id })) }
granted_by place now words (Redeems grant) = record {
  reply = granted_reply place now words grant;
  made = Some (CodeRedeemed (redemption place now words grant));
}
granted_by place now words (Rotates generation grant) = record {
  reply = granted_reply place now words grant;
  made = Some (RefreshRotated (rotation place now words generation grant));
}
granted_by place now words (Refreshes grant) = record {
  reply = refreshed_reply place now words grant;
  made = Some (AccessRefreshed (access_refresh place now words grant));
}

-- the decision of a token request (RFC 6749, 5.1 and 5.2)
abbrev pub grant_of : StoreFields → Place → ℕ → List ℕ → RequestFields → Decision
grant_of P place now words request = granted_by place now words (judged_of P now request)
