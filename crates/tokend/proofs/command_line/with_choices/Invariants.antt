use Rattle.std.proofs.Common.{◌≡◌, false, take, map}
use Rattle.clap.specs.Words.{app_of}
use Rattle.clap.specs.declared.builder.command.Command.TheViews.{out-Command}
use Rattle.tokend.specs.Rules.{choice_rule, with_rules}
use Rattle.tokend.proofs.command_line.with_choices.Given as goal

abbrev pub invariant-loop-choice : goal.invariant-loop-choice
invariant-loop-choice l = record {
  rules : app_of l.command
      ≡ with_rules (app_of l.fn.command)
      (map (λ c. choice_rule c.0.now c.1) (take l.choice-index l.choices));
  local : (out-Command l.command).has_globals ≡ false;
}
