-- The command line, as clap's contracts see it (own).
--   tokend_app      the whole program for clap
--   IsDecimal       a text that stands for a number
--   HasFlag         whether an option without a value was given
--   refusal_named   whether bundles that are ahead are refused, by the value of `--ahead`
--   is_misnamed     `--ahead` has neither of its two values
--   HasAddresses    clap's matches have these sockets
--   HasNumbers      clap's matches have these five settings
--   HasPushes       clap's matches have these options of pushes
--   HasNotices      clap's matches have these options of what a service says of itself
--   HasFiles        clap's matches have these files of a service
--   HasLimits       clap's matches have these limits of a service
--   HasService      clap's matches have this service
--   HasSources      clap's matches have these sources of facts
--   HasCheck        clap's matches have this check
use Rattle.std.specs.Prelude.{
  ◌≡◌,
  ℕ,
  ◌≤◌,
  List,
  [],
  ◌∷◌,
  Option,
  Some,
  None,
  IfSome,
  IfNone,
  IsSome,
  if◌then◌else◌,
  is_some,
  not,
  String,
  codes,
  map,
  option_map,
  unwrap_or,
  string_bytes,
  Bool,
  true,
  false,
}
use Rattle.std.specs.Str.{bytes_eq}
use Rattle.std.specs.Str.Parse.{IsNumeral, digits_value, without_leading_plus}
use Rattle.clap.specs.Words.{
  App,
  Row,
  Text,
  all_of,
  first_of,
  new_app,
  one_of,
  with_subcommand,
}
use Rattle.clap.specs.Simple.{on_top}
use Rattle.tk_region.specs.SettingsFields.{
  SettingsFields,
  max_code,
  max_access,
  max_refresh,
  max_family,
  max_cap,
}
use Rattle.tk_handle.specs.Ranges.{max_moment, max_region}
use Rattle.tk_message.specs.Choices.{profile_choices}
use Rattle.tokend.specs.Choices.{HasChoices}
use Rattle.tokend.specs.Notices.{issuer_named}
use Rattle.tokend.specs.Ranges.{accepted_named, range_named}
use Rattle.tokend.specs.Rules.{
  check_rules,
  max_connections,
  max_keep,
  max_margin,
  max_part,
  max_port,
  max_repeat,
  max_requests,
  min_margin,
  min_part,
  names_rule,
  service_rules,
  setting_rules,
  with_rules,
}
use Rattle.tokend.specs.declared.address.Address.{Address}
use Rattle.tokend.specs.declared.address.Address.TheVariants.{Port, Socket}
use Rattle.tokend.specs.declared.address.Addresses.{Addresses}
use Rattle.tokend.specs.declared.files.FileOptions.{FileOptions}
use Rattle.tokend.specs.declared.limits.LimitOptions.{LimitOptions}
use Rattle.tokend.specs.declared.notices.NoticeOptions.{NoticeOptions}
use Rattle.tokend.specs.declared.options.Check.{Check}
use Rattle.tokend.specs.declared.options.Numbers.{Numbers}
use Rattle.tokend.specs.declared.options.Service.{Service}
use Rattle.tokend.specs.declared.options.Sources.{Sources}
use Rattle.tokend.specs.declared.pushes.PushOptions.{PushOptions}

-- the subcommand `script`
abbrev pub script_app : App
script_app = with_rules (new_app (codes "script")) setting_rules

-- the subcommand `loopback`
abbrev pub loopback_app : App
loopback_app = with_rules (new_app (codes "loopback")) setting_rules

-- the subcommand `serve`
abbrev pub serve_app : App
serve_app = with_rules (with_rules (new_app (codes "serve")) service_rules) setting_rules

-- the program with a version, a required subcommand, and the two subcommands that run events
abbrev pub events_app : App
events_app =
    with_subcommand
    (with_subcommand
    (on_top (λ s. record s { has_version = true; subcommand_required = true })
    (new_app (codes "tokend")))
    script_app.top) loopback_app.top

-- the subcommand `facts`
abbrev pub facts_app : App
facts_app = with_rules (with_rules (new_app (codes "facts")) check_rules) (names_rule ∷ [])

-- the program without the subcommand `facts`
abbrev pub served_app : App
served_app = with_subcommand events_app serve_app.top

-- the program with its four subcommands
abbrev pub tokend_app : App
tokend_app = with_subcommand served_app facts_app.top

-- the text is decimal digits, perhaps after a `+`, that stand for this number
abbrev pub IsDecimal : Text → ℕ → Type 0
IsDecimal text n =
    IsNumeral 10 (without_leading_plus text) × (digits_value 10 (without_leading_plus text) ≡ n)

-- the text under the id stands for this number
abbrev pub ReadsNumber : List Row → Text → ℕ → Type 0
ReadsNumber rows id n = (text : Text) × (one_of id rows ≡ Some text) × IsDecimal text n

-- the rows have this number under the id, and the number is from the least to the greatest
abbrev pub HasNumber : List Row → Text → ℕ → ℕ → ℕ → Type 0
HasNumber rows id least greatest n = ReadsNumber rows id n × (least ≤ n) × (n ≤ greatest)

-- the text under the id, or no text if the option wasn't given
abbrev pub HasText : {A : Type 0} → List Row → Text → Option (String A) → Type 0
HasText rows id text = first_of id rows ≡ option_map string_bytes text

-- the text of an option without a value is that of an option that was given
abbrev pub is_given : Option Text → Bool
is_given None = false
is_given (Some text) = bytes_eq text (codes "true")

-- the flag is whether the option under the id, which has no value, was given
abbrev pub HasFlag : List Row → Text → Bool → Type 0
HasFlag rows id flag = flag ≡ is_given (first_of id rows)

-- whether bundles that are ahead are refused, by the value of `--ahead`: `refused` or `taken`
abbrev pub refusal_named : Option Text → Option Bool
refusal_named None = None
refusal_named (Some text) =
    if bytes_eq text (codes "refused") then Some true
    else (if bytes_eq text (codes "taken") then Some false else None)

-- `--ahead` was given, and its value is neither of the two
abbrev pub is_misnamed : Option Text → Bool
is_misnamed None = false
is_misnamed (Some text) = not (is_some (refusal_named (Some text)))

-- the rows have these five settings, each in its range
pub record HasNumbers (rows : List Row) (n : Numbers) : Type 0 where
  pub code : HasNumber rows (codes "code") 1 max_code n.code
  pub access : HasNumber rows (codes "access") 1 max_access n.access
  pub refresh : HasNumber rows (codes "refresh") 1 max_refresh n.refresh
  pub family : HasNumber rows (codes "family") 1 max_family n.family
  pub cap : HasNumber rows (codes "cap") 1 max_cap n.cap

-- the rows have this socket for clients: a port or a path, and not both
abbrev pub HasAddress : List Row → Address → Type 0
HasAddress rows (Port port) =
    HasNumber rows (codes "port") 0 max_port port × (first_of (codes "socket") rows ≡ None)
HasAddress rows (Socket path) =
    (first_of (codes "socket") rows ≡ Some (string_bytes path))
    × (first_of (codes "port") rows ≡ None)

-- the rows have no socket for clients, or two
abbrev pub IsNoAddress : List Row → Type 0
IsNoAddress rows = (address : Address) → ¬ (HasAddress rows address)

-- the rows have these sockets
pub record HasAddresses (rows : List Row) (at : Addresses) : Type 0 where
  pub outer : HasAddress rows at.outer
  pub inner : HasText rows (codes "inner") at.inner

-- the rows have these options of pushes: whether bundles that are ahead are refused, and the
-- numbers of the site and of all sites
pub record HasPushes (rows : List Row) (p : PushOptions) : Type 0 where
  pub ahead : refusal_named (first_of (codes "ahead") rows) ≡ Some p.refuses_ahead
  pub range : range_named (first_of (codes "region") rows) (first_of (codes "range") rows)
      ≡ Some p.range
  pub accepted : accepted_named (first_of (codes "accept") rows) ≡ Some p.accepted.items

-- one of these options has none of its values
abbrev pub IsNoPushes : List Row → Type 0
IsNoPushes rows = (pushes : PushOptions) → ¬ (HasPushes rows pushes)

-- the rows have these options of what a service says of itself: the issuer, and whether health and
-- metrics are given
pub record HasNotices (rows : List Row) (n : NoticeOptions) : Type 0 where
  pub issuer : issuer_named (first_of (codes "issuer") rows) ≡ Some n.issuer
  pub health : HasFlag rows (codes "health") n.health
  pub metrics : HasFlag rows (codes "metrics") n.metrics

-- the value of `--issuer` is no issuer
abbrev pub IsNoNotices : List Row → Type 0
IsNoNotices rows = (notices : NoticeOptions) → ¬ (HasNotices rows notices)

-- the rows have these files of a service: the seed, the log, whether it gets bundles taken in and
-- the bytes of its parts, for which there is a log, the old log, and the moment of its prune
pub record HasFiles (rows : List Row) (f : FileOptions) : Type 0 where
  pub seed : HasText rows (codes "seed") (Some f.seed)
  pub log : HasText rows (codes "log") f.log
  pub load : HasText rows (codes "load") f.load
  pub prune : IfSome f.prune (HasNumber rows (codes "prune") 0 max_moment)
  pub unpruned : IfNone f.prune ((n : ℕ)
      → ¬ (HasNumber rows (codes "prune") 0 max_moment n))
  pub log_taken : HasFlag rows (codes "log-taken") f.log_taken
  pub logged : f.log_taken ≡ true → IsSome f.log
  pub log_part : IfSome f.log_part (HasNumber rows (codes "log-part") min_part max_part)
  pub unparted : IfNone f.log_part ((n : ℕ)
      → ¬ (HasNumber rows (codes "log-part") min_part max_part n))
  pub parted : IsSome f.log_part → IsSome f.log

-- the seed is missing, or the log for bundles taken in or for parts
abbrev pub IsNoFiles : List Row → Type 0
IsNoFiles rows = (files : FileOptions) → ¬ (HasFiles rows files)

-- the rows have these limits of a service, each in its range, or without a limit
pub record HasLimits (rows : List Row) (l : LimitOptions) : Type 0 where
  pub requests : IfSome l.requests (HasNumber rows (codes "requests") 0 max_requests)
  pub endless : IfNone l.requests ((n : ℕ)
      → ¬ (HasNumber rows (codes "requests") 0 max_requests n))
  pub keep : IfSome l.keep (HasNumber rows (codes "keep") 0 max_keep)
  pub unkept : IfNone l.keep ((n : ℕ) → ¬ (HasNumber rows (codes "keep") 0 max_keep n))
  pub repeat : IfSome l.repeat (HasNumber rows (codes "repeat") 0 max_repeat)
  pub unrepeated : IfNone l.repeat ((n : ℕ)
      → ¬ (HasNumber rows (codes "repeat") 0 max_repeat n))
  pub prune_margin : IfSome l.prune_margin
      (HasNumber rows (codes "prune-margin") min_margin max_margin)
  pub unpruned : IfNone l.prune_margin ((n : ℕ)
      → ¬ (HasNumber rows (codes "prune-margin") min_margin max_margin n))

-- the rows have this service: the settings, each number in its range, the sockets, the limits, the
-- files, what is taken of a push, the choices, and what the service says of itself
pub record HasService (rows : List Row) (s : Service) : Type 0 where
  pub numbers : HasNumbers rows s.numbers
  pub region : HasNumber rows (codes "region") 1 max_region s.region
  pub at : HasAddresses rows s.at
  pub connections : HasNumber rows (codes "connections") 1 max_connections s.connections
  pub limits : HasLimits rows s.limits
  pub files : HasFiles rows s.files
  pub pushes : HasPushes rows s.pushes
  pub choices : HasChoices rows s.choices
  pub notices : HasNotices rows s.notices

-- the rows have these names of sources
abbrev pub HasSources : List Row → Sources → Type 0
HasSources rows s = map string_bytes s.names.items ≡ unwrap_or (all_of (codes "file") rows) []

-- the rows have this check: it is requested, and has these sources and this number of a region
pub record HasCheck (rows : List Row) (c : Check) : Type 0 where
  pub given : HasFlag rows (codes "check") true
  pub sources : HasSources rows c.sources
  pub region : HasNumber rows (codes "region") 1 max_region c.region

-- the settings of these numbers, with the profile's choices
abbrev pub settings_of : Numbers → SettingsFields
settings_of n =
    record {
      code = n.code;
      access = n.access;
      refresh = n.refresh;
      family = n.family;
      cap = n.cap;
      choices = profile_choices;
    }

-- the settings of a service, with its choices
abbrev pub chosen_settings : Service → SettingsFields
chosen_settings service = record (settings_of service.numbers) { choices = service.choices }
