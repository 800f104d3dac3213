use Rattle.tk_handle.proofs.HandleLaws.{text_none}
use Rattle.tk_handle.proofs.handle.Handle.read.Goals as goal

pub returns-clause-none : goal.returns-clause-none
returns-clause-none c = text_none c.args.text.now c.of_text.result c.of_text.ensures.value
