-- The task that the arguments request (own).
--   script_task     a script with these settings
--   loopback_task   a script by sockets with these settings
--   IsTask          the subcommand and its values are those of this task
--   IsNoTask        the subcommand and its values are no task's
--   IsNoService     the values are no service's
--   IsFactsTask     the values of `facts` are those of this task
--   IsNoCheck       a check is requested, and the values are no check's
--   lacks_log       bundles taken in are to be logged, or parts are wanted, without a log
--   is_unplaced     not exactly one of a port and a socket is given
--   misnames_word   an option has none of its words
--   missing_kind    the kind of the fault of arguments that name no task
--   Asks            the arguments request this task
--   AsksToShow      the arguments request help or the version
--   IsRefusalOf     the kind of a fault in the arguments
--   IsNoText        the fault of arguments that aren't UTF-8
use Rattle.std.specs.Prelude.{◌≡◌, ◌≢◌, ◌⊎◌, ⊤, Bool, false, true, ◌&&◌, ◌||◌, not, List, []}
use Rattle.std.specs.Prelude.{Option, Some, None, codes, is_some, if◌then◌else◌}
use Rattle.clap.specs.Words.{Row, Text, IsAmong, fault_of, first_of, kind_of, subcommand_of}
use Rattle.clap.specs.declared.error.kind.ErrorKind.{ErrorKind}
use Rattle.clap.specs.declared.error.kind.ErrorKind.TheVariants.{
  DisplayHelp,
  DisplayVersion,
  InvalidValue,
  MissingRequiredArgument,
  MissingSubcommand,
}
use Rattle.tk_region.specs.SettingsFields.{SettingsFields}
use Rattle.tokend.specs.CommandLine.{HasCheck, HasFlag, HasNumbers, HasService, HasSources}
use Rattle.tokend.specs.CommandLine.{is_given, is_misnamed, tokend_app}
use Rattle.tokend.specs.Challenges.{are_rules_misnamed}
use Rattle.tokend.specs.Choices.{is_consent_misnamed, is_refresh_seen_misnamed, is_unseen_misnamed}
use Rattle.tokend.specs.Kinds.{are_misnamed}
use Rattle.tokend.specs.Notices.{is_issuer_misnamed}
use Rattle.tokend.specs.Ranges.{is_accept_misnamed, is_range_misnamed}
use Rattle.tokend.specs.declared.fault.Fault.{Fault}
use Rattle.tokend.specs.declared.fault.Fault.TheVariants.{Memory, Arguments}
use Rattle.tokend.specs.declared.options.Check.{Check as CheckValue}
use Rattle.tokend.specs.declared.options.Service.{Service}
use Rattle.tokend.specs.declared.options.Task.{Task}
use Rattle.tokend.specs.declared.options.Task.TheVariants.{Script, Loopback, Serve, Facts, Check}

-- a script with these settings
abbrev pub script_task : SettingsFields → Task
script_task s =
    Script (record {
      code = s.code;
      access = s.access;
      refresh = s.refresh;
      family = s.family;
      cap = s.cap;
    })

-- a script by sockets with these settings
abbrev pub loopback_task : SettingsFields → Task
loopback_task s =
    Loopback (record {
      code = s.code;
      access = s.access;
      refresh = s.refresh;
      family = s.family;
      cap = s.cap;
    })

-- the values are no service's: a required number, the socket, the seed or the log is missing, or an
-- option has none of its words
abbrev pub IsNoService : List Row → Type 0
IsNoService rows = (service : Service) → ¬ (HasService rows service)

-- the values of `facts` are those of this task: the sources are printed, or a check is requested
abbrev pub IsFactsTask : List Row → Task → Type 0
IsFactsTask rows (Facts sources) =
    HasFlag rows (codes "check") false × HasSources rows sources
IsFactsTask rows (Check check) = HasCheck rows check
IsFactsTask rows task = ⊥

-- a check is requested, and the values are no check's: the number is missing
abbrev pub IsNoCheck : List Row → Type 0
IsNoCheck rows =
    HasFlag rows (codes "check") true × ((check : CheckValue) → ¬ (HasCheck rows check))

-- the subcommand and its values are those of this task
abbrev pub IsTask : Option (Text × List Row) → Task → Type 0
IsTask found (Script numbers) =
    (rows : List Row) × (found ≡ Some (codes "script", rows)) × HasNumbers rows numbers
IsTask found (Loopback numbers) =
    (rows : List Row) × (found ≡ Some (codes "loopback", rows)) × HasNumbers rows numbers
IsTask found (Serve service) =
    (rows : List Row) × (found ≡ Some (codes "serve", rows)) × HasService rows service
IsTask found (Facts sources) =
    (rows : List Row) × (found ≡ Some (codes "facts", rows)) × IsFactsTask rows (Facts sources)
IsTask found (Check check) =
    (rows : List Row) × (found ≡ Some (codes "facts", rows)) × IsFactsTask rows (Check check)

-- the subcommand and its values are no task's
abbrev pub IsNoTask : Option (Text × List Row) → Type 0
IsNoTask found = (task : Task) → ¬ (IsTask found task)

-- `--log-taken` or `--log-part` is among the rows
abbrev pub wants_log : List Row → Bool
wants_log rows =
    is_given (first_of (codes "log-taken") rows) || is_some (first_of (codes "log-part") rows)

-- the subcommand has `--log-taken` or `--log-part` without `--log`
abbrev pub lacks_log : Option (Text × List Row) → Bool
lacks_log None = false
lacks_log (Some found) =
    wants_log found.1 && not (is_some (first_of (codes "log") found.1))

-- not exactly one of `--port` and `--socket` is among the rows
abbrev pub is_unplaced_in : List Row → Bool
is_unplaced_in rows =
    if is_some (first_of (codes "port") rows) then is_some (first_of (codes "socket") rows)
    else not (is_some (first_of (codes "socket") rows))

-- the subcommand has not exactly one of `--port` and `--socket`
abbrev pub is_unplaced : Option (Text × List Row) → Bool
is_unplaced None = false
is_unplaced (Some found) = is_unplaced_in found.1

-- the subcommand lacks an option that another one requires, or that every service has
abbrev pub lacks_option : Option (Text × List Row) → Bool
lacks_option found = lacks_log found || is_unplaced found

-- the value of `--ahead`, `--revoke-unseen`, `--consent` or `--refresh-seen` is none of its words,
-- or `--redirects` or `--challenge` has another word, or `--range` or `--accept` another number, or
-- `--issuer` is no issuer
abbrev pub has_misnamed : List Row → Bool
has_misnamed rows =
    is_misnamed (first_of (codes "ahead") rows)
    || is_range_misnamed (first_of (codes "region") rows) (first_of (codes "range") rows)
    || is_accept_misnamed (first_of (codes "accept") rows)
    || is_unseen_misnamed (first_of (codes "revoke-unseen") rows)
    || is_consent_misnamed (first_of (codes "consent") rows)
    || are_misnamed (first_of (codes "redirects") rows)
    || is_refresh_seen_misnamed (first_of (codes "refresh-seen") rows)
    || are_rules_misnamed (first_of (codes "challenge") rows)
    || is_issuer_misnamed (first_of (codes "issuer") rows)

-- the subcommand has an option whose value is none of its words
abbrev pub misnames_word : Option (Text × List Row) → Bool
misnames_word None = false
misnames_word (Some found) = has_misnamed found.1

-- the kind of the fault by whether an option is missing and one has another value
abbrev pub kind_missing : Bool → Bool → ErrorKind
kind_missing lacks misnames =
    if lacks then MissingRequiredArgument
    else (if misnames then InvalidValue else MissingSubcommand)

-- the kind of the fault of arguments in which clap finds no fault, and which name no task
abbrev pub missing_kind : Option (Text × List Row) → ErrorKind
missing_kind found = kind_missing (lacks_option found) (misnames_word found)

-- the arguments request this task: clap finds no fault in them, and they name the task
abbrev pub Asks : List Text → Task → Type 0
Asks words task = (fault_of tokend_app words ≡ []) × IsTask (subcommand_of tokend_app words) task

-- the arguments request help or the version, so that clap has a text in place of a task
abbrev pub AsksToShow : List Text → Type 0
AsksToShow words =
    IsAmong DisplayHelp (fault_of tokend_app words)
    ⊎ IsAmong DisplayVersion (fault_of tokend_app words)

-- the kind is neither help nor the version
abbrev pub IsNoShow : ErrorKind → Type 0
IsNoShow kind = (kind ≢ DisplayHelp) × (kind ≢ DisplayVersion)

-- the kind of a fault in the arguments: clap finds it, or finds no fault although the arguments
-- name no task
abbrev pub IsRefusalOf : List Text → ErrorKind → Type 0
IsRefusalOf words kind = IsAmong kind (fault_of tokend_app words)
    ⊎ ((kind ≡ missing_kind (subcommand_of tokend_app words)) × (fault_of tokend_app words ≡ [])
    × IsNoTask (subcommand_of tokend_app words))

-- the fault of arguments that aren't UTF-8: memory ran out, or clap reports an invalid value
abbrev pub IsNoText : Fault → Type 0
IsNoText Memory = ⊤
IsNoText (Arguments error) = kind_of error ≡ InvalidValue
IsNoText fault = ⊥
