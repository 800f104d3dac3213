-- The options of the subcommands, as clap's contracts see them (own).
--   number_rule     an option with a number and a default
--   range_rule      an option with a number in a range
--   file_rule       an option with the name of a file
--   word_rule       an option with a word and a default
--   flag_rule       an option without a value
--   choice_rule     an option with one of these values
--   with_rules      a command with these options
--   setting_rules   the five settings of a region
--   service_rules   the options of a service alone
--   check_rules     the options of a check
use Rattle.std.specs.Prelude.{ℕ, List, [], ◌∷◌, ◌++◌, Some, codes, Bool, true, false}
use Rattle.clap.specs.Words.{App, Rule, Text, new_rule}
use Rattle.clap.specs.Simple.{on_top}
use Rattle.tk_region.specs.SettingsFields.{
  max_code,
  max_access,
  max_refresh,
  max_family,
  max_cap,
}
use Rattle.tk_handle.specs.Ranges.{max_moment, max_region}
use Rattle.clap.specs.declared.builder.action.ArgAction.TheVariants as action
use Rattle.clap.specs.declared.builder.value_parser.ValueParser.TheVariants as parser
use Rattle.tokend.specs.declared.command_line.Takes.{Takes}
use Rattle.tokend.specs.declared.command_line.Takes.TheVariants as takes

-- the greatest port
abbrev pub max_port : ℕ
max_port = 65535

-- the greatest number of connections that are open at once
abbrev pub max_connections : ℕ
max_connections = 65536

-- the greatest number of connections to serve
abbrev pub max_requests : ℕ
max_requests = 4294967295

-- the greatest number of seconds for which a connection stays open between its requests
abbrev pub max_keep : ℕ
max_keep = 3600

-- the greatest number of seconds for which a refresh that is repeated gets its reply again
abbrev pub max_repeat : ℕ
max_repeat = 60

-- the least number of seconds for which a family must be over before the server skips its facts: a
-- day
abbrev pub min_margin : ℕ
min_margin = 86400

-- the greatest such number
abbrev pub max_margin : ℕ
max_margin = 999999999

-- the least number of bytes of a log's part
abbrev pub min_part : ℕ
min_part = 65536

-- the greatest such number
abbrev pub max_part : ℕ
max_part = 1099511627776

-- the option `--id N`, with a number from 1 to the greatest and a default
abbrev pub number_rule : Text → Text → ℕ → Rule
number_rule id default greatest =
    record (new_rule id) {
      long = Some id;
      value_names = 1;
      defaults = default ∷ [];
      parser = Some (parser.Unsigned 1 greatest);
    }

-- the option `--id N`, with a number from the least to the greatest; the flag is whether it is
-- required
abbrev pub range_rule : Text → ℕ → ℕ → Bool → Rule
range_rule id least greatest is_wanted =
    record (new_rule id) {
      long = Some id;
      value_names = 1;
      required = is_wanted;
      parser = Some (parser.Unsigned least greatest);
    }

-- the option `--id FILE`; the flag is whether it is required
abbrev pub file_rule : Text → Bool → Rule
file_rule id is_wanted =
    record (new_rule id) { long = Some id; value_names = 1; required = is_wanted }

-- the option `--id WORD`, with a default
abbrev pub word_rule : Text → Text → Rule
word_rule id default =
    record (new_rule id) { long = Some id; value_names = 1; defaults = default ∷ [] }

-- the option `--id`, without a value
abbrev pub flag_rule : Text → Rule
flag_rule id = record (new_rule id) { long = Some id; action = Some action.SetTrue }

-- the option of this name with this value
abbrev pub choice_rule : Text → Takes → Rule
choice_rule id takes.Nothing = flag_rule id
choice_rule id (takes.File is_wanted) = file_rule id is_wanted
choice_rule id takes.List = file_rule id false
choice_rule id takes.Url = file_rule id false
choice_rule id (takes.Word default) = word_rule id default.now
choice_rule id (takes.Range least greatest is_wanted) = range_rule id least greatest is_wanted
choice_rule id (takes.Number greatest default) = number_rule id default.now greatest

-- a command with these options behind its own
abbrev pub with_rules : App → List Rule → App
with_rules app rules = on_top (λ s. record s { rules = s.rules ++ rules }) app

-- the settings: the lives of a code (a minute), an access token (an hour), a refresh token (a day)
-- and a family (thirty days), all in seconds, and the cap (the greatest)
abbrev pub setting_rules : List Rule
setting_rules =
    number_rule (codes "code") (codes "60") max_code
    ∷ number_rule (codes "access") (codes "3600") max_access
    ∷ number_rule (codes "refresh") (codes "86400") max_refresh
    ∷ number_rule (codes "family") (codes "2592000") max_family
    ∷ number_rule (codes "cap") (codes "9223372036854775806") max_cap
    ∷ []

-- the options of where a service is: the region's number, which is required, the port, the socket,
-- and the inner socket
abbrev pub place_rules : List Rule
place_rules =
    range_rule (codes "region") 1 max_region true
    ∷ range_rule (codes "port") 0 max_port false
    ∷ file_rule (codes "socket") false
    ∷ file_rule (codes "inner") false
    ∷ []

-- the options of a service's files: the seed, which is required, the log, whether it gets bundles
-- taken in, the bytes of its parts, the old log, and the moment of a prune
abbrev pub file_rules : List Rule
file_rules =
    file_rule (codes "seed") true
    ∷ file_rule (codes "log") false
    ∷ flag_rule (codes "log-taken")
    ∷ range_rule (codes "log-part") min_part max_part false
    ∷ file_rule (codes "load") false
    ∷ range_rule (codes "prune") 0 max_moment false
    ∷ []

-- the options of what a service does if it has a choice: with bundles that are ahead, the numbers
-- of the site and of all sites, who may revoke tokens that are not seen, if a consent is given
-- again, the kinds of redirection URIs, who sees refresh tokens, what is required of challenges
abbrev pub choice_rules : List Rule
choice_rules =
    word_rule (codes "ahead") (codes "taken")
    ∷ file_rule (codes "range") false
    ∷ file_rule (codes "accept") false
    ∷ word_rule (codes "revoke-unseen") (codes "any")
    ∷ word_rule (codes "consent") (codes "new")
    ∷ file_rule (codes "redirects") false
    ∷ word_rule (codes "refresh-seen") (codes "all")
    ∷ file_rule (codes "challenge") false
    ∷ []

-- the limits of a service: how many connections are open at once, how many are served, how long
-- they are kept, for how long a refresh may be repeated, and for how long a family must be over
-- before its facts are skipped
abbrev pub limit_rules : List Rule
limit_rules =
    number_rule (codes "connections") (codes "1024") max_connections
    ∷ range_rule (codes "requests") 0 max_requests false
    ∷ range_rule (codes "keep") 0 max_keep false
    ∷ range_rule (codes "repeat") 0 max_repeat false
    ∷ range_rule (codes "prune-margin") min_margin max_margin false
    ∷ []

-- the options of what a service says of itself: the issuer, and whether health and metrics are
-- given
abbrev pub notice_rules : List Rule
notice_rules =
    file_rule (codes "issuer") false
    ∷ flag_rule (codes "health")
    ∷ flag_rule (codes "metrics")
    ∷ []

-- the options of a service
abbrev pub service_rules : List Rule
service_rules = place_rules ++ file_rules ++ choice_rules ++ limit_rules ++ notice_rules

-- the names of files, as many as are given
abbrev pub names_rule : Rule
names_rule =
    record (new_rule (codes "file")) { value_names = 1; action = Some action.Append }

-- the options of a check: whether there is one, and the number of the region that loads
abbrev pub check_rules : List Rule
check_rules =
    flag_rule (codes "check")
    ∷ number_rule (codes "region") (codes "65535") max_region
    ∷ []
