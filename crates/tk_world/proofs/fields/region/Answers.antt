use Rattle.std.proofs.Common.{rules}
use Rattle.tk_world.proofs.fields.region.Goals as goal

pub returns-in_err-read_decimal : goal.returns-in_err-read_decimal
returns-in_err-read_decimal c = search rules

pub returns-in_err-ok : goal.returns-in_err-ok
returns-in_err-ok c = search rules

pub returns : goal.returns
returns c = search rules
