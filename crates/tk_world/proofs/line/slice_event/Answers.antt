use Rattle.std.proofs.Common.{sym, ◌∙◌}
use Rattle.tk_world.proofs.EventForms.{slice_bad_region, slice_bad_moment}
use Rattle.tk_world.proofs.line.slice_event.Goals as goal

pub returns-in_default-clause-malformed : goal.returns-in_default-clause-malformed
returns-in_default-clause-malformed c _ =
    slice_bad_region c.args.at.now c.args.horizon.now c.args.after.now c.args.count.now
    (sym c.region.ensures ∙ c.in_default.is)

pub returns-in_default-moment-clause-malformed : goal.returns-in_default-moment-clause-malformed
returns-in_default-moment-clause-malformed c _ =
    slice_bad_moment c.args.at.now c.args.horizon.now c.args.after.now c.args.count.now
    (sym c.moment.ensures ∙ c.in_default-moment.is)
