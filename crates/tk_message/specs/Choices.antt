-- What a region does if the profile leaves a choice (own).
--   profile_rules     what the profile requires of challenges
--   profile_choices   what the profile does
--   coded_choices     the code of choices
use Rattle.std.specs.Prelude.{◌≡◌, Bool, true, false, Option, Some, None, refl}
use Rattle.std.specs.Coded.{Coded, code_by, coded×, coded_bool, coded_option}
use Rattle.tk_match.specs.declared.redirect_kinds.RedirectKinds.{RedirectKinds}
use Rattle.tk_message.specs.declared.choices.ChallengeRules.{ChallengeRules}
use Rattle.tk_message.specs.declared.choices.Choices.{Choices}
use Rattle.tk_message.specs.declared.choices.ConsentReuse.{ConsentReuse}
use Rattle.tk_message.specs.declared.choices.ConsentReuse.TheVariants.{New, Held}
use Rattle.tk_message.specs.declared.choices.RefreshSeen.{RefreshSeen}
use Rattle.tk_message.specs.declared.choices.RefreshSeen.TheVariants.{ByAll, ByClient}
use Rattle.tk_message.specs.declared.choices.UnseenRevocation.{UnseenRevocation}
use Rattle.tk_message.specs.declared.choices.UnseenRevocation.TheVariants.{
  Any,
  Authenticated,
  Nobody,
}

-- what the profile requires: a challenge of public clients alone, by either method (RFC 7636, 4.3
-- and 4.4.1)
abbrev pub profile_rules : ChallengeRules
profile_rules = record { of_all = false; only_s256 = false }

-- what the profile does: any client revokes a token that has not been seen, each consent is new,
-- each absolute URL may be registered, resource servers see refresh tokens, and challenges are
-- required by the profile's rules
abbrev pub profile_choices : Choices
profile_choices = record {
  unseen = Any;
  consent = New;
  redirects = None;
  refresh_seen = ByAll;
  challenge = profile_rules;
}

-- ---- codes

-- who may revoke an unseen token, as a value that has a code
abbrev pub unseen_code : UnseenRevocation → Option Bool
unseen_code Any = None
unseen_code Authenticated = Some true
unseen_code Nobody = Some false

-- the inverse of `unseen_code`
abbrev pub unseen_coded : Option Bool → UnseenRevocation
unseen_coded None = Any
unseen_coded (Some true) = Authenticated
unseen_coded (Some false) = Nobody

-- nothing is lost by `unseen_code`
pub unseen_again : (x : UnseenRevocation) → unseen_coded (unseen_code x) ≡ x
unseen_again Any = refl
unseen_again Authenticated = refl
unseen_again Nobody = refl

-- the code of who may revoke an unseen token
abbrev pub coded_unseen : Coded UnseenRevocation
coded_unseen =
    code_by (Option Bool) (coded_option coded_bool) unseen_code unseen_coded unseen_again

-- what is done with a consent that is given again, as a truth value: it is held
abbrev pub consent_code : ConsentReuse → Bool
consent_code New = false
consent_code Held = true

-- the inverse of `consent_code`
abbrev pub consent_coded : Bool → ConsentReuse
consent_coded false = New
consent_coded true = Held

-- nothing is lost by `consent_code`
pub consent_again : (x : ConsentReuse) → consent_coded (consent_code x) ≡ x
consent_again New = refl
consent_again Held = refl

-- the code of what is done with a consent that is given again
abbrev pub coded_consent : Coded ConsentReuse
coded_consent = code_by Bool coded_bool consent_code consent_coded consent_again

-- the code of kinds of redirection URIs
abbrev pub coded_kinds : Coded RedirectKinds
coded_kinds =
    code_by (Bool × (Bool × Bool)) (coded× coded_bool (coded× coded_bool coded_bool))
    (λ k. (k.https, (k.loopback, k.app)))
    (λ p. record { https = p.0; loopback = p.1.0; app = p.1.1 }) (λ _. refl)

-- who sees refresh tokens, as a truth value: their client alone
abbrev pub refresh_seen_code : RefreshSeen → Bool
refresh_seen_code ByAll = false
refresh_seen_code ByClient = true

-- the inverse of `refresh_seen_code`
abbrev pub refresh_seen_coded : Bool → RefreshSeen
refresh_seen_coded false = ByAll
refresh_seen_coded true = ByClient

-- nothing is lost by `refresh_seen_code`
pub refresh_seen_again : (x : RefreshSeen) → refresh_seen_coded (refresh_seen_code x) ≡ x
refresh_seen_again ByAll = refl
refresh_seen_again ByClient = refl

-- the code of who sees refresh tokens
abbrev pub coded_refresh_seen : Coded RefreshSeen
coded_refresh_seen =
    code_by Bool coded_bool refresh_seen_code refresh_seen_coded refresh_seen_again

-- the code of what is required of challenges
abbrev pub coded_rules : Coded ChallengeRules
coded_rules =
    code_by (Bool × Bool) (coded× coded_bool coded_bool) (λ r. (r.of_all, r.only_s256))
    (λ p. record { of_all = p.0; only_s256 = p.1 }) (λ _. refl)

-- the code of choices
abbrev pub coded_choices : Coded Choices
coded_choices =
    code_by
    (UnseenRevocation
    × (ConsentReuse × (Option RedirectKinds × (RefreshSeen × ChallengeRules))))
    (coded× coded_unseen
    (coded× coded_consent
    (coded× (coded_option coded_kinds) (coded× coded_refresh_seen coded_rules))))
    (λ c. (c.unseen, (c.consent, (c.redirects, (c.refresh_seen, c.challenge)))))
    (λ p. record {
      unseen = p.0;
      consent = p.1.0;
      redirects = p.1.1.0;
      refresh_seen = p.1.1.1.0;
      challenge = p.1.1.1.1;
    }) (λ _. refl)
