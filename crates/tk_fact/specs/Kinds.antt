-- The fields of each kind of fact, in the order in which they are spelled (own). Facts that were
-- written keep this order, so it never changes. Behind the fields of a fact that was administered
-- by
-- an operator who was named, stands by whom and when.
use Rattle.std.specs.Prelude.{ℕ, Bool, List, ◌++◌, Option, Some, None}
use Rattle.std.specs.Int.{w16, w64}
use Rattle.tk_format.specs.Format.{Format, ◌⊗◌, number, shaped}
use Rattle.tk_handle.specs.declared.dot.Dot.{Dot}
use Rattle.tk_handle.specs.Moment.{moment}
use Rattle.tk_handle.specs.DotBytes.{dot_field}
use Rattle.tk_handle.specs.TokenId.{token}
use Rattle.tk_handle.specs.declared.token_id.TokenId.{TokenId}
use Rattle.tk_match.specs.Challenge.{ChallengeFields}
use Rattle.tk_fact.specs.Fields.{
  by_field,
  digest_field,
  client_kind_field,
  lives_field,
  scope_field,
  subject_field,
  uri_field,
}
use Rattle.tk_fact.specs.Fields.{redirects_field, flag_field, challenge_field, minted_field}
use Rattle.tk_fact.specs.Followed.{IfFits, bytes_behind, if_bare, if_followed}
use Rattle.tk_fact.specs.declared.by.By.{By}
use Rattle.tk_fact.specs.declared.client_kind.ClientKind.{ClientKind}
use Rattle.tk_fact.specs.declared.client_lives.ClientLives.{ClientLives}
use Rattle.tk_fact.specs.declared.client_added.ClientAdded.{ClientAdded}
use Rattle.tk_fact.specs.declared.client_retired.ClientRetired.{ClientRetired}
use Rattle.tk_fact.specs.declared.consent_given.ConsentGiven.{ConsentGiven}
use Rattle.tk_fact.specs.declared.consent_withdrawn.ConsentWithdrawn.{ConsentWithdrawn}
use Rattle.tk_fact.specs.declared.code_issued.CodeIssued.{CodeIssued}
use Rattle.tk_fact.specs.declared.code_redeemed.CodeRedeemed.{CodeRedeemed}
use Rattle.tk_fact.specs.declared.refresh_rotated.RefreshRotated.{RefreshRotated}
use Rattle.tk_fact.specs.declared.token_revoked.TokenRevoked.{TokenRevoked}
use Rattle.tk_fact.specs.declared.reuse_seen.ReuseSeen.{ReuseSeen}
use Rattle.tk_fact.specs.declared.subject_out.SubjectOut.{SubjectOut}
use Rattle.tk_fact.specs.declared.access_refreshed.AccessRefreshed.{AccessRefreshed}
use Rattle.tk_fact.specs.declared.secret_set.SecretSet.{SecretSet}

-- the terms of a client: its kind, its scope, its redirection URIs
abbrev pub Terms : Type 0
Terms = ClientKind × (List ℕ × List (List ℕ))

-- the terms of a client that was registered
abbrev pub terms_of : ClientAdded → Terms
terms_of f = (f.client_kind, (f.scope, f.redirects))

-- a client on these terms, without lives or with them, and by whom and when if that was named
abbrev pub client_on : Terms → Option ClientLives → Option By → ClientAdded
client_on (client_kind, (scope, redirects)) lives by = record {
  client_kind = client_kind;
  scope = scope;
  redirects = redirects;
  lives = lives;
  by = by;
}

-- ClientAdded without lives: the terms
abbrev pub client_terms : Format Terms
client_terms = client_kind_field ⊗ (scope_field ⊗ redirects_field)

-- ClientAdded with lives: the terms, the lives
abbrev pub limited_terms : Format (Terms × ClientLives)
limited_terms = client_terms ⊗ lives_field

-- a client without lives, on the terms
abbrev pub unlimited : Terms → Option By → ClientAdded
unlimited terms by = client_on terms None by

-- a client with lives, on the terms
abbrev pub limited : Terms × ClientLives → Option By → ClientAdded
limited (terms, lives) by = client_on terms (Some lives) by

-- the terms of a client, if it has no lives
abbrev pub if_unlimited : ClientAdded → Option Terms
if_unlimited f = if_bare (Some (terms_of f)) f.lives

-- the terms and the lives of a client, if it has lives
abbrev pub if_limited : ClientAdded → Option (Terms × ClientLives)
if_limited f = if_followed (Some (terms_of f)) f.lives

-- the fields of a client in bytes: the terms, the lives, by whom and when
abbrev pub client_bytes : ClientAdded → List ℕ
client_bytes f = client_terms.spell (terms_of f)
    ++ (bytes_behind lives_field f.lives ++ bytes_behind by_field f.by)

-- the fields of a client have a spelling
abbrev pub ClientFits : ClientAdded → Type 0
ClientFits f =
    client_terms.Fits (terms_of f) × (IfFits lives_field f.lives × IfFits by_field f.by)

-- ClientRetired: the dot of the client
abbrev pub retirement_on : Dot → Option By → ClientRetired
retirement_on client by = record { client = client; by = by }

-- ConsentGiven: the dot of the client, the subject, the scope
abbrev pub consent_terms : Format (Dot × (List ℕ × List ℕ))
consent_terms = dot_field ⊗ (subject_field ⊗ scope_field)

-- a consent with these fields
abbrev pub consent_on : Dot × (List ℕ × List ℕ) → Option By → ConsentGiven
consent_on (client, (subject, scope)) by =
    record { client = client; subject = subject; scope = scope; by = by }

-- the fields of a consent
abbrev pub consent_fields : ConsentGiven → Dot × (List ℕ × List ℕ)
consent_fields f = (f.client, (f.subject, f.scope))

-- ConsentWithdrawn: the dot of the consent
abbrev pub withdrawal_on : Dot → Option By → ConsentWithdrawn
withdrawal_on consent by = record { consent = consent; by = by }

-- the dots of an issued code: its client, and the consent on which it rests
abbrev pub code_parties : Format (Dot × Dot)
code_parties = dot_field ⊗ dot_field

-- the digest of an issued code's handle, its start, its expiry, and the end of its family
abbrev pub code_times : Format (List ℕ × (ℕ × (ℕ × ℕ)))
code_times = digest_field ⊗ (moment ⊗ (moment ⊗ moment))

-- the rights of an issued code: its subject and its scope
abbrev pub code_rights : Format (List ℕ × List ℕ)
code_rights = subject_field ⊗ scope_field

-- what the token request must match for an issued code: the URI, whether it was sent, and the
-- challenge
abbrev pub code_bindings : Format (List ℕ × (Bool × Option ChallengeFields))
code_bindings = uri_field ⊗ (flag_field ⊗ challenge_field)

-- CodeIssued: the two dots, the digest and times, the rights, and what the token request must match
abbrev pub code_issued : Format CodeIssued
code_issued = shaped
    (λ (
      (client, consent),
      (
        (digest, (start, (expiry, family_end))),
        ((subject, scope), (uri, (sent, challenge))),
      ),
    ). record {
      client = client;
      consent = consent;
      digest = digest;
      start = start;
      expiry = expiry;
      family_end = family_end;
      subject = subject;
      scope = scope;
      uri = uri;
      sent = sent;
      challenge = challenge;
    })
    (λ f. (
      (f.client, f.consent),
      (
        (f.digest, (f.start, (f.expiry, f.family_end))),
        ((f.subject, f.scope), (f.uri, (f.sent, f.challenge))),
      ),
    ))
    (code_parties ⊗ (code_times ⊗ (code_rights ⊗ code_bindings)))

-- CodeRedeemed: the dot of the code, the start, the access token, the refresh token
abbrev pub code_redeemed : Format CodeRedeemed
code_redeemed = shaped
    (λ (code, (start, (access, refresh))).
    record { code = code; start = start; access = access; refresh = refresh })
    (λ f. (f.code, (f.start, (f.access, f.refresh))))
    (dot_field ⊗ (moment ⊗ (minted_field ⊗ minted_field)))

-- RefreshRotated: the dot of the parent, the generation, the start, the access token, the refresh
-- token
abbrev pub refresh_rotated : Format RefreshRotated
refresh_rotated = shaped
    (λ (parent, (generation, (start, (access, refresh)))). record {
      parent = parent;
      generation = generation;
      start = start;
      access = access;
      refresh = refresh;
    })
    (λ f. (f.parent, (f.generation, (f.start, (f.access, f.refresh)))))
    (dot_field ⊗ (number w16 ⊗ (moment ⊗ (minted_field ⊗ minted_field))))

-- TokenRevoked: the name of the token, its digest, the dot of the client
abbrev pub revocation_terms : Format (TokenId × (List ℕ × Dot))
revocation_terms = token ⊗ (digest_field ⊗ dot_field)

-- a revocation with these fields
abbrev pub revocation_on : TokenId × (List ℕ × Dot) → Option By → TokenRevoked
revocation_on (token, (digest, client)) by =
    record { token = token; digest = digest; client = client; by = by }

-- the fields of a revocation
abbrev pub revocation_fields : TokenRevoked → TokenId × (List ℕ × Dot)
revocation_fields f = (f.token, (f.digest, f.client))

-- ReuseSeen: the name of the token that was used again
abbrev pub reuse_seen : Format ReuseSeen
reuse_seen = shaped (λ t. record { token = t }) (λ f. f.token) token

-- SubjectOut: the subject, and the moment of the sign-out
abbrev pub sign_out_terms : Format (List ℕ × ℕ)
sign_out_terms = subject_field ⊗ moment

-- a sign-out with these fields
abbrev pub sign_out_on : List ℕ × ℕ → Option By → SubjectOut
sign_out_on (subject, at) by = record { subject = subject; moment = at; by = by }

-- the fields of a sign-out
abbrev pub sign_out_fields : SubjectOut → List ℕ × ℕ
sign_out_fields f = (f.subject, f.moment)

-- AccessRefreshed: the dot of the parent, the start, the access token
abbrev pub access_refreshed : Format AccessRefreshed
access_refreshed = shaped
    (λ (parent, (start, access)). record { parent = parent; start = start; access = access })
    (λ f. (f.parent, (f.start, f.access)))
    (dot_field ⊗ (moment ⊗ minted_field))

-- SecretSet: the dot of the client, the turn, the digest, the moment
abbrev pub secret_terms : Format (Dot × (ℕ × (List ℕ × ℕ)))
secret_terms = dot_field ⊗ (number w64 ⊗ (digest_field ⊗ moment))

-- a secret that was set, with these fields
abbrev pub secret_on : Dot × (ℕ × (List ℕ × ℕ)) → Option By → SecretSet
secret_on (client, (turn, (digest, at))) by =
    record { client = client; turn = turn; digest = digest; moment = at; by = by }

-- the fields of a secret that was set
abbrev pub secret_fields : SecretSet → Dot × (ℕ × (List ℕ × ℕ))
secret_fields f = (f.client, (f.turn, (f.digest, f.moment)))
