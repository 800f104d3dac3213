-- The client that credentials prove (RFC 6749, 2.3 and 3.2.1).
--   accepts         a secret is good for a client
--   proves          a secret, or its absence, proves a client of some kind
--   authenticated   the live client that credentials prove
use Rattle.std.specs.Prelude.{ℕ, Bool, true, false, ◌&&◌, List, Option, Some, None, if◌then◌else◌}
use Rattle.std.specs.Option.{option_and_then}
use Rattle.sha2.specs.Sha256.{sha256}
use Rattle.tk_handle.specs.declared.dot.Dot.{Dot}
use Rattle.tk_handle.specs.ClientId.{client_in}
use Rattle.tk_fact.specs.declared.client_kind.ClientKind.{ClientKind}
use Rattle.tk_fact.specs.declared.client_kind.ClientKind.TheVariants.{
  Public,
  Confidential,
  Resource,
  Keeping,
}
use Rattle.tk_store.specs.FactSet.{FactSet}
use Rattle.tk_ledger.specs.Secrets.{is_good_secret}
use Rattle.tk_ledger.specs.Views.{client_view}
use Rattle.tk_ledger.specs.ViewFields.{ClientFields}
use Rattle.tk_params.specs.Credentials.{CredentialsFields}
use Rattle.tk_message.specs.declared.authentication.Authentication.{Authentication}
use Rattle.tk_message.specs.declared.authentication.Authentication.TheVariants.{Client, Invalid}

-- a secret is sent, and is good for the client, which was registered with the secret of the first
-- digest (RFC 6749, 2.3.1)
abbrev pub accepts : FactSet → Dot → List ℕ → Option (List ℕ) → Bool
accepts F d first None = false
accepts F d first (Some secret) = is_good_secret F d first (sha256 secret)

-- a public client proves itself without a secret, another client by a good one (RFC 6749, 2.3.1)
abbrev pub proves : FactSet → Dot → ClientKind → Option (List ℕ) → Bool
proves F d Public None = true
proves F d Public (Some secret) = false
proves F d (Confidential first) secret = accepts F d first secret
proves F d (Resource first) secret = accepts F d first secret
proves F d (Keeping first) secret = accepts F d first secret

-- the client at the dot, if it proved itself
abbrev pub if_proved : Dot → Bool → Authentication
if_proved d proved = if proved then Client d else Invalid

-- the client at the dot, if it is live and the secret proves it
abbrev pub authenticated_as : FactSet → Dot → Option (List ℕ) → Option ClientFields → Authentication
authenticated_as F d secret None = Invalid
authenticated_as F d secret (Some client) =
    if_proved d (client.live && proves F d client.client_kind secret)

-- the client at the dot, if there is one, it is live, and the secret proves it
abbrev pub authenticated_at : FactSet → Option (List ℕ) → Option Dot → Authentication
authenticated_at F secret None = Invalid
authenticated_at F secret (Some d) = authenticated_as F d secret (client_view F d)

-- the live client that the credentials prove
abbrev pub authenticated : FactSet → CredentialsFields → Authentication
authenticated F c = authenticated_at F c.secret (option_and_then client_in c.id)
