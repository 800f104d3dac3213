use Rattle.tokend.proofs.KeptLogs.{keeps_all}
use Rattle.tokend.proofs.promises.a_log_of_bundles_keeps_all.Goals as goal

pub returns : goal.returns
returns c = keeps_all
