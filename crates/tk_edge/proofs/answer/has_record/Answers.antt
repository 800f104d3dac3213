use Rattle.tk_bundle.proofs.PageLaws.{single_fits}
use Rattle.tk_edge.proofs.answer.has_record.Goals as goal

pub returns : goal.returns
returns c = single_fits c.args.fact.now c.known.ensures
