-- The tables of a ledger beside its facts (own), which return what the set of facts determines.
-- `SubjectTables` has those of codes, logins and sign-outs, `SecretTables` that of secrets.
--   row_added, row_retired             a client's row is that of an added, or a retired, client
--   consent_cmp, consent_key, key_of   the keys of consents, and their order
--   is_live_from                       a live consent to a client, by the digest of its subject
--   is_key_at                          a key is that of the consent at a dot
--   consents_above                     the keys of the consents of one subject above a dot
--   revocation_cmp, revocation_key     the keys of revocations, and their order
--   revocation_keys, has_revocation    the keys of one token and client, and whether there is one
--   IsClients, IsConsents, IsWithdrawals, IsRevocations
--                                      each table has what the set has
--   reuse_cmp, reuse_key               the keys of reuses, and their order
--   reuse_keys, has_reuse              the keys of one token, and whether there is one
--   IsReuses                           the table of reuses has what the set has
--   IsTied                             a forest's links are those of the set, and its marks of all
--                                      grants in a family
--   grant_kind                         the kind of the grant at a dot
--   Wakes                              the marks at some dots are written anew
--   IsIndexed                          all tables, and the forest, are those of the set
use Rattle.std.specs.Prelude.{◌≡◌, ℕ, Bool, true, false, ◌&&◌, not, List, Option, Some, None}
use Rattle.std.specs.Prelude.{is_some}
use Rattle.std.specs.List.{list_any}
use Rattle.std.specs.Ordering.{nat_cmp, ordering_then, eq_by_cmp}
use Rattle.std.specs.declared.cmp.Ordering.{Ordering}
use Rattle.std.specs.declared.ops.Bound.{Bound}
use Rattle.std.specs.declared.ops.Bound.TheVariants.{Included, Excluded}
use Rattle.std.specs.Cmp.Lexicographic.{slice_cmp}
use Rattle.std.specs.Str.{bytes_eq}
use Rattle.std.specs.BTreeMap as rows
use Rattle.std.specs.BTreeMap.{BTreeMap}
use Rattle.std.specs.BTreeSet as keys
use Rattle.std.specs.BTreeSet.{BTreeSet}
use Rattle.std.specs.FinMap as map
use Rattle.std.specs.FinSet as set
use Rattle.sha2.specs.Sha256.{sha256}
use Rattle.tk_handle.specs.declared.dot.Dot.{Dot}
use Rattle.tk_handle.specs.declared.kind.Kind.{Kind}
use Rattle.tk_handle.specs.declared.kind.Kind.TheVariants as kind
use Rattle.tk_handle.specs.declared.token_id.TokenId.{TokenId}
use Rattle.tk_handle.specs.Dot.{IsDot, dot_cmp, least_dot, greatest_dot}
use Rattle.tk_handle.specs.Kind.{kind_number}
use Rattle.tk_family.specs.declared.link.Link.{Link}
use Rattle.tk_family.specs.Families.{IsUnder, grant_at}
use Rattle.tk_family.specs.ForestFacts.{ForestFacts}
use Rattle.tk_fact.specs.declared.body.Body.{Body}
use Rattle.tk_fact.specs.declared.code_issued.CodeIssued as issued
use Rattle.tk_fact.specs.declared.consent_given.ConsentGiven as given
use Rattle.tk_store.specs.FactSet.{FactSet}
use Rattle.tk_ledger.specs.Bodies.{is_same_dot}
use Rattle.tk_ledger.specs.Clients.{client_at, is_retired, consent_at, is_withdrawn}
use Rattle.tk_ledger.specs.SecretTables.{IsSecrets}
use Rattle.tk_ledger.specs.SubjectTables.{IsCodes, IsLogins, IsOuts}
use Rattle.tk_ledger.specs.Tokens.{links_in, revoked_by, reuse_of, is_marked}
use Rattle.tk_ledger.specs.declared.client_rows.ClientRow.{ClientRow}
use Rattle.tk_ledger.specs.declared.consent_keys.ConsentKey.{ConsentKey}
use Rattle.tk_ledger.specs.declared.reuses.ReuseKey.{ReuseKey}
use Rattle.tk_ledger.specs.declared.revocations.Revocation.{Revocation}
use Rattle.tk_ledger.specs.declared.index.Index.{Index}

-- ---- clients

-- the row is that of a client that was added
abbrev pub row_added : Option ClientRow → Bool
row_added None = false
row_added (Some row) = row.added

-- the row is that of a client that was retired
abbrev pub row_retired : Option ClientRow → Bool
row_retired None = false
row_retired (Some row) = row.retired

-- the row at a dot
abbrev pub row_at : BTreeMap Dot ClientRow → Dot → Option ClientRow
row_at t q = rows.get dot_cmp t q

-- two dots are equal, by their order
abbrev pub is_at : Dot → Dot → Bool
is_at d q = eq_by_cmp dot_cmp d q

-- the rows show which clients were added, and which were retired
pub record IsClients (F : FactSet) (t : BTreeMap Dot ClientRow) : Type 0 where
  pub added : (q : Dot) → row_added (row_at t q) ≡ is_some (client_at F q)
  pub retired : (q : Dot) → row_retired (row_at t q) ≡ is_retired F q

-- ---- consents

-- the order of consents: by the digest of the subject, then by dot, then by client
abbrev pub consent_cmp : ConsentKey → ConsentKey → Ordering
consent_cmp a b =
    ordering_then (slice_cmp nat_cmp a.subject b.subject)
    (ordering_then (dot_cmp a.consent b.consent) (dot_cmp a.client b.client))

-- the key of a consent
abbrev pub consent_key : Dot → List ℕ → Dot → ConsentKey
consent_key client subject d = record { subject = subject; consent = d; client = client }

-- the key of the consent that was given at the dot
abbrev pub key_of : Dot → given.ConsentGiven → ConsentKey
key_of d consent = consent_key consent.client (sha256 consent.subject) d

-- the consent was given to the client, by a subject with the digest
abbrev pub is_from : Dot → List ℕ → Option given.ConsentGiven → Bool
is_from client subject None = false
is_from client subject (Some consent) =
    is_same_dot consent.client client && bytes_eq (sha256 consent.subject) subject

-- a consent was given at the dot to the client, by a subject with the digest, and no withdrawal
-- names it
abbrev pub is_live_from : FactSet → Dot → List ℕ → Dot → Bool
is_live_from F client subject d =
    is_from client subject (consent_at F d) && not (is_withdrawn F d)

-- the key is that of the consent that was given at the dot
abbrev pub is_key_at : FactSet → Dot → ConsentKey → Bool
is_key_at F d k = is_at d k.consent && is_from k.client k.subject (consent_at F d)

-- the table has the consent under the client and the digest
abbrev pub is_listed : BTreeSet ConsentKey → Dot → List ℕ → Dot → Bool
is_listed t client subject d = keys.contains consent_cmp t (consent_key client subject d)

-- where the keys of the consents begin that a subject with the digest gave above a dot, or above
-- none
abbrev pub consent_start : List ℕ → Option Dot → Bound ConsentKey
consent_start subject None = Included (consent_key least_dot subject least_dot)
consent_start subject (Some d) = Excluded (consent_key greatest_dot subject d)

-- the keys that the table has of the consents that a subject with the digest gave above a dot, or
-- above none
abbrev pub consents_above : BTreeSet ConsentKey → List ℕ → Option Dot → List ConsentKey
consents_above t subject after =
    keys.keys_between consent_cmp (consent_start subject after)
    (Included (consent_key greatest_dot subject greatest_dot)) t

-- the table has each consent that was given and not withdrawn, and no other
pub record IsConsents (F : FactSet) (t : BTreeSet ConsentKey) : Type 0 where
  pub listed : (client : Dot) (subject : List ℕ) (d : Dot)
      → is_listed t client subject d ≡ is_live_from F client subject d
  pub ranged : (client : Dot) (subject : List ℕ) (d : Dot) → is_listed t client subject d ≡ true
      → IsDot d × IsDot client

-- the table has each consent that was withdrawn, and no other
abbrev pub IsWithdrawals : FactSet → BTreeSet Dot → Type 0
IsWithdrawals F t = (q : Dot) → keys.contains dot_cmp t q ≡ is_withdrawn F q

-- ---- revocations

-- the order of revocations: by token, then by its digest, then by the client, then by the dot of
-- the fact
abbrev pub revocation_cmp : Revocation → Revocation → Ordering
revocation_cmp a b =
    ordering_then (dot_cmp a.dot b.dot)
    (ordering_then (nat_cmp a.kind b.kind) (ordering_then (slice_cmp nat_cmp a.digest b.digest)
    (ordering_then (dot_cmp a.client b.client) (dot_cmp a.place b.place))))

-- the key of a revocation
abbrev pub revocation_key : TokenId → List ℕ → Dot → Dot → Revocation
revocation_key k digest client d =
    record { dot = k.dot; kind = kind_number k.kind; digest = digest; client = client; place = d }

-- the keys of the revocations, by the client, of the token with the digest
abbrev pub revocation_keys : BTreeSet Revocation → TokenId → List ℕ → Dot → List Revocation
revocation_keys t k digest client =
    keys.keys_between revocation_cmp (Included (revocation_key k digest client least_dot))
    (Included (revocation_key k digest client greatest_dot)) t

-- the table has that the client revoked the token with the digest
abbrev pub has_revocation : BTreeSet Revocation → TokenId → List ℕ → Dot → Bool
has_revocation t k digest client = list_any (λ e. true) (revocation_keys t k digest client)

-- there is a body, and it is that the client revoked the token with the digest
abbrev pub is_revocation_of : TokenId → List ℕ → Dot → Option Body → Bool
is_revocation_of k digest client None = false
is_revocation_of k digest client (Some b) = revoked_by k digest client b

-- the table has that by the fact at the dot the client revoked the token with the digest
abbrev pub is_listed_revocation : BTreeSet Revocation → TokenId → List ℕ → Dot → Dot → Bool
is_listed_revocation t k digest client d =
    keys.contains revocation_cmp t (revocation_key k digest client d)

-- the table has each revocation, under its token, digest and client and the dot of its fact, and no
-- other
pub record IsRevocations (F : FactSet) (t : BTreeSet Revocation) : Type 0 where
  pub listed : (k : TokenId) (digest : List ℕ) (client d : Dot)
      → is_listed_revocation t k digest client d ≡ is_revocation_of k digest client (map.get F d)
  pub ranged : (k : TokenId) (digest : List ℕ) (client d : Dot)
      → is_listed_revocation t k digest client d ≡ true → IsDot d

-- ---- reuses

-- the order of reuses: by token, then by the dot of the fact that saw the reuse
abbrev pub reuse_cmp : ReuseKey → ReuseKey → Ordering
reuse_cmp a b =
    ordering_then (dot_cmp a.dot b.dot)
    (ordering_then (nat_cmp a.kind b.kind) (dot_cmp a.place b.place))

-- the key of a reuse
abbrev pub reuse_key : TokenId → Dot → ReuseKey
reuse_key k d = record { dot = k.dot; kind = kind_number k.kind; place = d }

-- the keys of the reuses of a token
abbrev pub reuse_keys : BTreeSet ReuseKey → TokenId → List ReuseKey
reuse_keys t k =
    keys.keys_between reuse_cmp (Included (reuse_key k least_dot))
    (Included (reuse_key k greatest_dot)) t

-- the table has a reuse of the token
abbrev pub has_reuse : BTreeSet ReuseKey → TokenId → Bool
has_reuse t k = list_any (λ e. true) (reuse_keys t k)

-- there is a body, and it is that the token's reuse was seen
abbrev pub is_reuse_of : TokenId → Option Body → Bool
is_reuse_of k None = false
is_reuse_of k (Some b) = reuse_of k b

-- the table has that the fact at the dot saw a reuse of the token
abbrev pub is_listed_reuse : BTreeSet ReuseKey → TokenId → Dot → Bool
is_listed_reuse t k d = keys.contains reuse_cmp t (reuse_key k d)

-- the table has each reuse that was seen, under its token and the dot of its fact, and no other
pub record IsReuses (F : FactSet) (t : BTreeSet ReuseKey) : Type 0 where
  pub listed : (k : TokenId) (d : Dot) → is_listed_reuse t k d ≡ is_reuse_of k (map.get F d)
  pub ranged : (k : TokenId) (d : Dot) → is_listed_reuse t k d ≡ true → IsDot d

-- ---- the forest

-- a forest has the links of the set, and the marks of all grants in a family. Other marks count for
-- nothing: no family is dead by them
pub record IsTied (F : FactSet) (x : ForestFacts) : Type 0 where
  pub links : (q : Dot) → map.get x.links q ≡ links_in (map.get F) q
  pub marks : (q c : Dot) (l : Link) → links_in (map.get F) q ≡ Some l
      → IsUnder (links_in (map.get F)) q c
      → set.contains x.marks (grant_at q l) ≡ is_marked F (grant_at q l)

-- the kind of the grant at a dot in a family: a code, if one was issued there, or a refresh token
abbrev pub grant_kind : Option issued.CodeIssued → Kind
grant_kind None = kind.Refresh
grant_kind (Some code) = kind.Code

-- the grants at the dots of `at` that are in a family are marked as in the set. Links, and marks at
-- other dots, are as before
pub record Wakes (F : FactSet) (old : ForestFacts) (at : Dot → Bool) (new : ForestFacts) : Type 0
  where
    pub links : new.links ≡ old.links
    pub here : (q c : Dot) (l : Link) → at q ≡ true → links_in (map.get F) q ≡ Some l
        → IsUnder (links_in (map.get F)) q c
        → set.contains new.marks (grant_at q l) ≡ is_marked F (grant_at q l)
    pub there : (k : TokenId) → at k.dot ≡ false
        → set.contains new.marks k ≡ set.contains old.marks k

-- ---- all of it

-- each table, and the forest, are those of the set
pub record IsIndexed (F : FactSet) (x : Index) : Type 0 where
  pub clients_are : IsClients F x.clients
  pub consents_are : IsConsents F x.consents
  pub withdrawn_are : IsWithdrawals F x.withdrawn
  pub revocations_are : IsRevocations F x.revocations
  pub codes_are : IsCodes F x.codes
  pub logins_are : IsLogins F x.logins
  pub outs_are : IsOuts F x.outs
  pub reuses_are : IsReuses F x.reuses
  pub secrets_are : IsSecrets F x.secrets
  pub tied : IsTied F x.forest
