use Rattle.tokend.proofs.KeptLogs.{loads_all}
use Rattle.tokend.proofs.promises.a_log_of_bundles_is_loaded_again.Goals as goal

pub returns : goal.returns
returns c = loads_all
