-- What a service does if the profile leaves a choice, by the words of its options (own).
--   unseen_named         who may revoke a token that is not seen, by the value of `--revoke-unseen`
--   is_unseen_misnamed   `--revoke-unseen` has none of its three values
--   consent_named        what is done if a consent is given again, by the value of `--consent`
--   is_consent_misnamed  `--consent` has neither of its two values
--   refresh_seen_named   who sees refresh tokens, by the value of `--refresh-seen`
--   is_refresh_seen_misnamed
--                        `--refresh-seen` has neither of its two values
--   IsNoChoice           an option has none of its words, or no value
--   HasChoices           clap's matches have these choices
use Rattle.std.specs.Prelude.{
  ◌≡◌,
  ◌⊎◌,
  Bool,
  false,
  List,
  Option,
  Some,
  None,
  codes,
  is_some,
  not,
  if◌then◌else◌,
}
use Rattle.std.specs.Str.{bytes_eq}
use Rattle.clap.specs.Words.{Row, Text, first_of}
use Rattle.tk_message.specs.declared.choices.Choices.{Choices}
use Rattle.tokend.specs.Challenges.{rules_named}
use Rattle.tokend.specs.Kinds.{kinds_named}
use Rattle.tk_message.specs.declared.choices.ConsentReuse.{ConsentReuse}
use Rattle.tk_message.specs.declared.choices.ConsentReuse.TheVariants.{New, Held}
use Rattle.tk_message.specs.declared.choices.RefreshSeen.{RefreshSeen}
use Rattle.tk_message.specs.declared.choices.RefreshSeen.TheVariants.{ByAll, ByClient}
use Rattle.tk_message.specs.declared.choices.UnseenRevocation.{UnseenRevocation}
use Rattle.tk_message.specs.declared.choices.UnseenRevocation.TheVariants.{
  Any,
  Authenticated,
  Nobody,
}

-- who may revoke a token that the region has not seen: `any`, `authenticated` or `none`
abbrev pub unseen_named : Option Text → Option UnseenRevocation
unseen_named None = None
unseen_named (Some text) =
    if bytes_eq text (codes "any") then Some Any
    else (if bytes_eq text (codes "authenticated") then Some Authenticated
    else (if bytes_eq text (codes "none") then Some Nobody else None))

-- `--revoke-unseen` was given, and its value is none of the three
abbrev pub is_unseen_misnamed : Option Text → Bool
is_unseen_misnamed None = false
is_unseen_misnamed (Some text) = not (is_some (unseen_named (Some text)))

-- what is done if a consent is given again: `new` or `held`
abbrev pub consent_named : Option Text → Option ConsentReuse
consent_named None = None
consent_named (Some text) =
    if bytes_eq text (codes "new") then Some New
    else (if bytes_eq text (codes "held") then Some Held else None)

-- `--consent` was given, and its value is neither of the two
abbrev pub is_consent_misnamed : Option Text → Bool
is_consent_misnamed None = false
is_consent_misnamed (Some text) = not (is_some (consent_named (Some text)))

-- who sees refresh tokens: `all` or `client`
abbrev pub refresh_seen_named : Option Text → Option RefreshSeen
refresh_seen_named None = None
refresh_seen_named (Some text) =
    if bytes_eq text (codes "all") then Some ByAll
    else (if bytes_eq text (codes "client") then Some ByClient else None)

-- `--refresh-seen` was given, and its value is neither of the two
abbrev pub is_refresh_seen_misnamed : Option Text → Bool
is_refresh_seen_misnamed None = false
is_refresh_seen_misnamed (Some text) = not (is_some (refresh_seen_named (Some text)))

-- one of the options has no value, or none of its words
abbrev pub IsNoChoice : List Row → Type 0
IsNoChoice rows = (unseen_named (first_of (codes "revoke-unseen") rows) ≡ None)
    ⊎ ((consent_named (first_of (codes "consent") rows) ≡ None)
    ⊎ ((kinds_named (first_of (codes "redirects") rows) ≡ None)
    ⊎ ((refresh_seen_named (first_of (codes "refresh-seen") rows) ≡ None)
    ⊎ (rules_named (first_of (codes "challenge") rows) ≡ None))))

-- the rows have these choices
pub record HasChoices (rows : List Row) (c : Choices) : Type 0 where
  pub unseen : unseen_named (first_of (codes "revoke-unseen") rows) ≡ Some c.unseen
  pub consent : consent_named (first_of (codes "consent") rows) ≡ Some c.consent
  pub redirects : kinds_named (first_of (codes "redirects") rows) ≡ Some c.redirects
  pub refresh_seen : refresh_seen_named (first_of (codes "refresh-seen") rows)
      ≡ Some c.refresh_seen
  pub challenge : rules_named (first_of (codes "challenge") rows) ≡ Some c.challenge
