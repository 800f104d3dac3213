-- What is required of the challenge of a code, by the words of `--challenge` (own).
--   rules_named          the rules of challenges
--   are_rules_misnamed   `--challenge` has another word
use Rattle.std.specs.Prelude.{
  Bool,
  false,
  ◌||◌,
  Option,
  Some,
  None,
  codes,
  not,
  if◌then◌else◌,
}
use Rattle.std.specs.List.{list_all}
use Rattle.std.specs.Str.{bytes_eq}
use Rattle.clap.specs.Words.{Text}
use Rattle.tk_message.specs.Choices.{profile_rules}
use Rattle.tk_message.specs.declared.choices.ChallengeRules.{ChallengeRules}
use Rattle.tokend.specs.Kinds.{lists, words_of}

-- the word is that of a rule
abbrev pub is_rule : Text → Bool
is_rule word = bytes_eq word (codes "all") || bytes_eq word (codes "S256")

-- the rules: those that are listed, if each word is that of a rule; without the option, those of
-- the profile
abbrev pub rules_named : Option Text → Option ChallengeRules
rules_named None = Some profile_rules
rules_named (Some text) =
    if list_all is_rule (words_of text) then Some (record {
      of_all = lists text (codes "all");
      only_s256 = lists text (codes "S256");
    })
    else None

-- `--challenge` was given, and one of its words is not that of a rule
abbrev pub are_rules_misnamed : Option Text → Bool
are_rules_misnamed None = false
are_rules_misnamed (Some text) = not (list_all is_rule (words_of text))
