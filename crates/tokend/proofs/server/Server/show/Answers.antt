use Rattle.std.proofs.Common.{ap, sym, ◌∙◌}
use Rattle.tokend.specs.Exposition.{exposition}
use Rattle.tokend.proofs.BehindTurns.{due_shown, goes_shown}
use Rattle.tokend.proofs.server.Server.show.Goals as goal

pub returns-clause-shown : goal.returns-clause-shown
returns-clause-shown c =
    due_shown c.args.self.now c.args.millis c.args.still_open c.set_metrics.new.self
    c.in_ok-text.text.items
    (sym c.is_due.ensures ∙ c.if-not-is_due.false) c.set_metrics.ensures
    (c.in_ok-text.ensures ∙ ap exposition c.figures.ensures)

pub returns-clause-goes : goal.returns-clause-goes
returns-clause-goes c = λ log faults.
    goes_shown c.args.self.now c.args.millis c.args.still_open _ (returns-clause-shown c) log faults
