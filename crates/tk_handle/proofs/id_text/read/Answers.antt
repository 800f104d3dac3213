use Rattle.std.proofs.Common.{subst, sym}
use Rattle.tk_handle.specs.DotText.{ReadsId}
use Rattle.tk_handle.proofs.DotTextLaws.{reads_id}
use Rattle.tk_handle.proofs.id_text.read.Goals as goal

pub returns-clause-exact : goal.returns-clause-exact
returns-clause-exact c = subst (ReadsId c.args.letter c.args.text.now) (sym c.spelled.ensures)
    (reads_id c.args.letter c.args.text.now)
