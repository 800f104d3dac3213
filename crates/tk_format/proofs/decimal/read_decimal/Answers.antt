use Rattle.tk_format.proofs.DecimalLaws.{none_in}
use Rattle.tk_format.proofs.decimal.read_decimal.Goals as goal

pub returns-clause-none : goal.returns-clause-none
returns-clause-none c = none_in c.args.text.now c.digits.result c.digits.ensures
