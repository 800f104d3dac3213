use Rattle.std.proofs.Common.{rules}
use Rattle.tk_bundle.proofs.PageLaws.{single_fits}
use Rattle.tk_bundle.proofs.page.single.Goals as goal

pub returns-clause-spelled : goal.returns-clause-spelled
returns-clause-spelled c = search rules

pub returns-in_err-writer-clause-fits : goal.returns-in_err-writer-clause-fits
returns-in_err-writer-clause-fits c = single_fits c.args.fact.now c.known.ensures

pub returns-in_err-write_framed-clause-fits : goal.returns-in_err-write_framed-clause-fits
returns-in_err-write_framed-clause-fits c = single_fits c.args.fact.now c.known.ensures

pub returns-clause-fits : goal.returns-clause-fits
returns-clause-fits c = single_fits c.args.fact.now c.known.ensures
