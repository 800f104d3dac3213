use Rattle.std.proofs.Common.{rules}
use Rattle.clap.specs.Words.{app_of}
use Rattle.tokend.specs.Rules.{choice_rule}
use Rattle.tokend.proofs.Commands.{choice_more}
use Rattle.tokend.proofs.command_line.with_choices.Goals as goal

pub loop-choice-preserved : goal.loop-choice-preserved
loop-choice-preserved c =
    let at = c.loop-choice in
    let added = c.in_ok-command.ensures in
    record {
      rules = choice_more (λ choice. choice_rule choice.0.now choice.1) (app_of c.args.command)
          (app_of at.command) (app_of c.in_ok-command.command) c.args.choices.now
          at.choice-index _ _ c.loop-choice-test.true at.invariant.rules
          (added.shape c.arg_of.ensures.local) c.arg_of.ensures.rule;
      local = search rules;
    }
