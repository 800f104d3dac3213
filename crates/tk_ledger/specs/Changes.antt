-- The change that one fact makes in the tables of a ledger (own).
--   digest_prefix   the beginning of a subject's digest, which is in the keys of its codes
--   change_in       the change that the fact of a body makes
--   adds, retires_of, gives_to, withdraws_of, revokes_of, reuses_of
--                   the change adds a client, retires it, and so on
use Rattle.std.specs.Prelude.{ℕ, Bool, true, false, ◌&&◌, List, take}
use Rattle.std.specs.Int.{w64, from_be_bytes}
use Rattle.std.specs.Str.{bytes_eq}
use Rattle.sha2.specs.Sha256.{sha256}
use Rattle.tk_handle.specs.declared.dot.Dot.{Dot}
use Rattle.tk_handle.specs.declared.token_id.TokenId.{TokenId}
use Rattle.tk_family.specs.declared.link.Link.TheVariants as link
use Rattle.tk_fact.specs.declared.body.Body.{Body}
use Rattle.tk_fact.specs.declared.body.Body.TheVariants.{
  ClientAdded,
  ClientRetired,
  ConsentGiven,
  ConsentWithdrawn,
  CodeIssued,
  CodeRedeemed,
  RefreshRotated,
  TokenRevoked,
  ReuseSeen,
  SubjectOut,
  AccessRefreshed,
  SecretSet,
}
use Rattle.tk_fact.specs.declared.token_revoked.TokenRevoked as revoked
use Rattle.tk_ledger.specs.Bodies.{is_same_dot, is_same_token}
use Rattle.tk_ledger.specs.declared.change.RevokedToken.{RevokedToken}
use Rattle.tk_ledger.specs.declared.change.Change.{Change}
use Rattle.tk_ledger.specs.declared.change.Change.TheVariants as change

-- the first 8 bytes of a digest, as a number (own): the keys of codes and logins have these alone.
-- The keys of subjects whose digests begin alike are mixed
unfoldable pub digest_prefix : List ℕ → ℕ
digest_prefix digest = from_be_bytes w64 (take 8 digest)

-- the token that the fact revokes, in the name of a client
abbrev pub revoked_in : revoked.TokenRevoked → RevokedToken
revoked_in f = record { token = f.token; digest = f.digest; client = f.client }

-- the change that the fact of a body makes. The key of a consent has its client and the digest of
-- its subject, the key of a code the prefix of that digest and its start, the key of a sign-out the
-- digest and its moment, the key of a secret its client, its turn and its digest
abbrev pub change_in : Body → Change
change_in (ClientAdded f) = change.Add
change_in (ClientRetired f) = change.Retire f.client
change_in (ConsentGiven f) = change.Give f.client (sha256 f.subject)
change_in (ConsentWithdrawn f) = change.Withdraw f.consent
change_in (CodeIssued f) = change.Issue (digest_prefix (sha256 f.subject)) f.start
change_in (CodeRedeemed f) = change.Put (link.Redeems f.code)
change_in (RefreshRotated f) = change.Put (link.Rotates f.parent f.generation)
change_in (TokenRevoked f) = change.Revoke (revoked_in f)
change_in (ReuseSeen f) = change.Mark f.token
change_in (SubjectOut f) = change.SignOut (sha256 f.subject) f.moment
change_in (AccessRefreshed f) = change.Nothing
change_in (SecretSet f) = change.SetSecret f.client f.turn f.digest

-- the change adds a client
abbrev pub adds : Change → Bool
adds change.Add = true
adds other = false

-- the change retires the client
abbrev pub retires_of : Dot → Change → Bool
retires_of q (change.Retire d) = is_same_dot d q
retires_of q other = false

-- the change gives the client a consent, by a subject with the digest
abbrev pub gives_to : Dot → List ℕ → Change → Bool
gives_to client subject (change.Give c s) = is_same_dot c client && bytes_eq s subject
gives_to client subject other = false

-- the change withdraws the consent
abbrev pub withdraws_of : Dot → Change → Bool
withdraws_of q (change.Withdraw d) = is_same_dot d q
withdraws_of q other = false

-- the change is that the client revokes the token with the digest
abbrev pub revokes_of : TokenId → List ℕ → Dot → Change → Bool
revokes_of k digest client (change.Revoke f) =
    is_same_token f.token k && (bytes_eq f.digest digest && is_same_dot f.client client)
revokes_of k digest client other = false

-- the change is that the token's reuse was seen
abbrev pub reuses_of : TokenId → Change → Bool
reuses_of k (change.Mark j) = is_same_token j k
reuses_of k other = false
