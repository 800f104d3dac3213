use Rattle.tk_handle.proofs.DotTextLaws.{dot_found, dot_none}
use Rattle.tk_handle.proofs.dot.Dot.read_text.Goals as goal

pub returns-clause-found : goal.returns-clause-found
returns-clause-found c = dot_found c.args.text.now c.read_parted.result c.read_parted.ensures

pub returns-clause-none : goal.returns-clause-none
returns-clause-none c = dot_none c.args.text.now c.read_parted.result c.read_parted.ensures
