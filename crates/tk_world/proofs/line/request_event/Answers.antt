use Rattle.std.proofs.Common.{sym, ◌∙◌}
use Rattle.tk_world.proofs.NumberTexts.{no_region, no_moment}
use Rattle.tk_world.proofs.line.request_event.Goals as goal

pub returns-in_default-clause-malformed : goal.returns-in_default-clause-malformed
returns-in_default-clause-malformed c _ =
    λ number time request at is then late form.
    no_region c.args.at.now number (sym c.region.ensures ∙ c.in_default.is) is at

pub returns-in_default-moment-clause-malformed : goal.returns-in_default-moment-clause-malformed
returns-in_default-moment-clause-malformed c _ =
    λ number time request at is then late form.
    no_moment c.args.now.now time (sym c.moment.ensures ∙ c.in_default-moment.is) late then
