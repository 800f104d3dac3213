use Rattle.tokend.proofs.Loads.{unread_log}
use Rattle.tokend.proofs.load.load.Goals as goal

pub returns-in-Err : goal.returns-in-Err
returns-in-Err g c = unread_log _ _ c.in-Err.fault c.in-Err.ensures.fault
