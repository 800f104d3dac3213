-- Clients and consents of a fact set (own; RFC 6749, 2 for clients, 4.1 for consents). Relations
-- are about the body at each dot. Tests are functions of the set, cited by the functions that
-- compute them.
--   client_at                          the client that was added at a dot
--   IsRetired, is_retired              a retirement of a client is held
--   IsLiveClient, is_live_client       a client was added, and no retirement names it
--   consent_at                         the consent that was given at a dot
--   IsWithdrawn, is_withdrawn          a withdrawal of a consent is held
--   IsConsentOf, is_consent_of         a subject gave a client a consent that no withdrawal names
--   IsLiveConsent, is_live_consent     the consent of a code is live
--   IsConsentFor                       a live consent covers a scope
--   IsLeastConsent, consent_for        the lowest dot of a live consent that covers a scope
use Rattle.std.specs.Prelude.{
  ◌≡◌,
  ◌≢◌,
  ℕ,
  Bool,
  false,
  ◌&&◌,
  not,
  List,
  Option,
  Some,
  None,
  is_some,
}
use Rattle.std.specs.Option.{option_and_then, option_map}
use Rattle.std.specs.List.{find}
use Rattle.std.specs.Str.{bytes_eq}
use Rattle.std.specs.declared.cmp.Ordering.TheVariants.{Less}
use Rattle.std.specs.FinMap as map
use Rattle.tk_scope.specs.Scope.{IsWithin, is_within}
use Rattle.tk_handle.specs.declared.dot.Dot.{Dot}
use Rattle.tk_handle.specs.Dot.{dot_cmp}
use Rattle.tk_fact.specs.declared.body.Body.{Body}
use Rattle.tk_fact.specs.declared.body.Body.TheVariants.{
  ClientAdded,
  ClientRetired,
  ConsentGiven,
  ConsentWithdrawn,
}
use Rattle.tk_fact.specs.declared.client_added.ClientAdded as added
use Rattle.tk_fact.specs.declared.client_retired.ClientRetired as retired
use Rattle.tk_fact.specs.declared.consent_given.ConsentGiven as given
use Rattle.tk_fact.specs.declared.consent_withdrawn.ConsentWithdrawn as withdrawn
use Rattle.tk_fact.specs.declared.code_issued.CodeIssued as issued
use Rattle.tk_store.specs.FactSet.{FactSet, any_fact, dot_of}
use Rattle.tk_ledger.specs.Bodies.{Bodies, is_same_dot}

-- ---- clients

-- the client that the body adds, if it adds one (RFC 6749, 2)
abbrev pub added_in : Body → Option added.ClientAdded
added_in (ClientAdded client) = Some client
added_in body = None

-- the client that was added at the dot (RFC 6749, 2)
abbrev pub client_at : FactSet → Dot → Option added.ClientAdded
client_at F d = option_and_then added_in (map.get F d)

-- a fact retires the client that was added at d (own)
pub record IsRetired (body_at : Bodies) (d : Dot) : Type 0 where
  pub place : Dot
  pub retirement : retired.ClientRetired
  pub held : body_at place ≡ Some (ClientRetired retirement)
  pub names : retirement.client ≡ d

-- the body retires the client (own)
abbrev pub retires_in : Dot → Body → Bool
retires_in d (ClientRetired retirement) = is_same_dot retirement.client d
retires_in d body = false

-- the fact retires the client (own)
abbrev pub retires : Dot → Dot × Body → Bool
retires d f = retires_in d f.1

-- a fact of the set retires the client (own)
abbrev pub is_retired : FactSet → Dot → Bool
is_retired F d = any_fact (retires d) F

-- a client was added at the dot, and no retirement names it (own)
pub record IsLiveClient (body_at : Bodies) (d : Dot) : Type 0 where
  pub client : added.ClientAdded
  pub added : body_at d ≡ Some (ClientAdded client)
  pub unretired : ¬ IsRetired body_at d

-- a client was added at the dot, and no retirement names it: the test (own)
abbrev pub is_live_client : FactSet → Dot → Bool
is_live_client F d = is_some (client_at F d) && not (is_retired F d)

-- ---- consents

-- the consent that the body gives, if it gives one (own)
abbrev pub given_in : Body → Option given.ConsentGiven
given_in (ConsentGiven consent) = Some consent
given_in body = None

-- the consent that was given at the dot (own)
abbrev pub consent_at : FactSet → Dot → Option given.ConsentGiven
consent_at F d = option_and_then given_in (map.get F d)

-- a fact withdraws the consent that was given at d (own)
pub record IsWithdrawn (body_at : Bodies) (d : Dot) : Type 0 where
  pub place : Dot
  pub withdrawal : withdrawn.ConsentWithdrawn
  pub held : body_at place ≡ Some (ConsentWithdrawn withdrawal)
  pub names : withdrawal.consent ≡ d

-- the body withdraws the consent (own)
abbrev pub withdraws_in : Dot → Body → Bool
withdraws_in d (ConsentWithdrawn withdrawal) = is_same_dot withdrawal.consent d
withdraws_in d body = false

-- the fact withdraws the consent (own)
abbrev pub withdraws : Dot → Dot × Body → Bool
withdraws d f = withdraws_in d f.1

-- a fact of the set withdraws the consent (own)
abbrev pub is_withdrawn : FactSet → Dot → Bool
is_withdrawn F d = any_fact (withdraws d) F

-- the subject gave the client a consent at the dot, and no withdrawal names it (own)
pub record IsConsentOf (body_at : Bodies) (client : Dot) (subject : List ℕ) (d : Dot) : Type 0 where
  pub consent : given.ConsentGiven
  pub given : body_at d ≡ Some (ConsentGiven consent)
  pub client_is : consent.client ≡ client
  pub subject_is : consent.subject ≡ subject
  pub unwithdrawn : ¬ IsWithdrawn body_at d

-- the subject gave the consent, if there is one, to the client (own)
abbrev pub gives : Dot → List ℕ → Option given.ConsentGiven → Bool
gives client subject None = false
gives client subject (Some consent) =
    is_same_dot consent.client client && bytes_eq consent.subject subject

-- the subject gave the client a consent at the dot, and no withdrawal names it: the test (own)
abbrev pub is_consent_of : FactSet → Dot → List ℕ → Dot → Bool
is_consent_of F client subject d = gives client subject (consent_at F d) && not (is_withdrawn F d)

-- the consent of a code is live: the one that its subject gave its client at its consent dot (own)
abbrev pub IsLiveConsent : Bodies → issued.CodeIssued → Type 0
IsLiveConsent body_at code = IsConsentOf body_at code.client code.subject code.consent

-- the consent of a code is live: the test (own)
abbrev pub is_live_consent : FactSet → issued.CodeIssued → Bool
is_live_consent F code = is_consent_of F code.client code.subject code.consent

-- ---- the consent for a scope

-- a live consent of this subject to this client, at the dot, covers the scope (own; RFC 6749, 3.3)
pub record IsConsentFor (body_at : Bodies) (client : Dot) (subject scope : List ℕ) (d : Dot)
    : Type 0 where
  pub live : IsConsentOf body_at client subject d
  pub includes : IsWithin scope live.consent.scope

-- the lowest dot of a live consent of this subject to this client that covers the scope, if there
-- is such a consent (own; RFC 6749, 3.3)
abbrev pub IsLeastConsent : Bodies → Dot → List ℕ → List ℕ → Option Dot → Type 0
IsLeastConsent body_at client subject scope None =
    (d : Dot) → ¬ IsConsentFor body_at client subject scope d
IsLeastConsent body_at client subject scope (Some d) =
    IsConsentFor body_at client subject scope d
    × ((q : Dot) → IsConsentFor body_at client subject scope q → dot_cmp q d ≢ Less)

-- the consent, if there is one, is by this subject to this client and covers the scope (own; RFC
-- 6749, 3.3)
abbrev pub grants : Dot → List ℕ → List ℕ → Option given.ConsentGiven → Bool
grants client subject scope None = false
grants client subject scope (Some consent) =
    gives client subject (Some consent) && is_within scope consent.scope

-- the fact is a live consent of this subject to this client that covers the scope (own; RFC 6749,
-- 3.3)
abbrev pub consents : FactSet → Dot → List ℕ → List ℕ → Dot × Body → Bool
consents F client subject scope f =
    grants client subject scope (given_in f.1) && not (is_withdrawn F f.0)

-- a consent of this subject to this client that covers the scope was given at the dot (own; RFC
-- 6749, 3.3)
abbrev pub covers : FactSet → Dot → List ℕ → List ℕ → Dot → Bool
covers F client subject scope d = grants client subject scope (consent_at F d)

-- the first live consent of this subject to this client that covers the scope, by dot (own; RFC
-- 6749, 3.3)
abbrev pub consent_for : FactSet → Dot → List ℕ → List ℕ → Option Dot
consent_for F client subject scope =
    option_map dot_of (find (consents F client subject scope) (map.entries F))
