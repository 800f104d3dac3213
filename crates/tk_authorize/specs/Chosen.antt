-- The judgement of an administration request by the region's choices (own).
--   may_register      which redirection URIs the region registers
--   registered_among  a client is added, if the region registers its redirection URIs
--   consented_again   a consent is given, where one that is held may be good
--   chosen            the judgement by the choices
use Rattle.std.specs.Prelude.{ℕ, Bool, List, Option, Some, None, if◌then◌else◌}
use Rattle.std.specs.List.{list_all}
use Rattle.tk_handle.specs.declared.dot.Dot.{Dot}
use Rattle.tk_fact.specs.declared.client_added.ClientAdded as added
use Rattle.tk_fact.specs.declared.consent_given.ConsentGiven as given
use Rattle.tk_store.specs.FactSet.{FactSet}
use Rattle.tk_ledger.specs.Clients.{consent_for}
use Rattle.tk_match.specs.RedirectKinds.{is_listed}
use Rattle.tk_match.specs.Redirects.{is_absolute}
use Rattle.tk_match.specs.declared.redirect_kinds.RedirectKinds.{RedirectKinds}
use Rattle.tk_message.specs.declared.choices.Choices.{Choices}
use Rattle.tk_message.specs.declared.choices.ConsentReuse.{ConsentReuse}
use Rattle.tk_message.specs.declared.choices.ConsentReuse.TheVariants.{New, Held}
use Rattle.tk_authorize.specs.declared.administered.Administered.{Administered}
use Rattle.tk_authorize.specs.declared.administered.Administered.TheVariants.{
  Refused,
  Registers,
  Consents,
  HasConsent,
}
use Rattle.tk_authorize.specs.declared.admin_refusal.AdminRefusal.TheVariants.{WrongRedirects}

-- the region may register the URIs: by no choice of kinds, absolute URLs of any scheme, but none at
-- any port; by a choice, only URIs of the kinds chosen (own)
abbrev pub may_register : Option RedirectKinds → List (List ℕ) → Bool
may_register None uris = list_all is_absolute uris
may_register (Some kinds) uris = list_all (is_listed kinds) uris

-- a client is added if the region may register each of its URIs, and is otherwise refused for its
-- redirection URIs (own)
abbrev pub registered_among : Option RedirectKinds → added.ClientAdded → Administered
registered_among kinds client =
    if may_register kinds client.redirects then Registers client else Refused WrongRedirects

-- a held consent, if there is one, serves in place of the new one (own)
abbrev pub held_or_given : Option Dot → given.ConsentGiven → Administered
held_or_given None consent = Consents consent
held_or_given (Some held) consent = HasConsent held

-- a consent is given: by the choice `New` a new one each time; by `Held` the first live consent, by
-- dot, of the subject to the client that covers the scope serves, if there is one (own)
abbrev pub consented_again : FactSet → ConsentReuse → given.ConsentGiven → Administered
consented_again F New consent = Consents consent
consented_again F Held consent =
    held_or_given (consent_for F consent.client consent.subject consent.scope) consent

-- the judgement after the region's choices: a client passes the choice of URIs, a consent the
-- choice of reuse, and any other judgement stays (own)
abbrev pub chosen : FactSet → Choices → Administered → Administered
chosen F choices (Registers client) = registered_among choices.redirects client
chosen F choices (Consents consent) = consented_again F choices.consent consent
chosen F choices judged = judged
