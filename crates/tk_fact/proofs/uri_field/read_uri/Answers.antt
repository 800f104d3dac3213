use Rattle.std.proofs.Common.{rules}
use Rattle.tk_fact.proofs.uri_field.read_uri.Goals as goal

pub returns-in-Ok : goal.returns-in-Ok
returns-in-Ok c = search rules

pub returns-in-Err : goal.returns-in-Err
returns-in-Err c = search rules
