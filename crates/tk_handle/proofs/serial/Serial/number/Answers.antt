use Rattle.std.proofs.Common.{rules}
use Rattle.tk_handle.proofs.serial.Serial.number.Goals as goal

pub returns-clause-value : goal.returns-clause-value
returns-clause-value c = search rules
