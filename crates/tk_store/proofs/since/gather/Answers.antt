use Rattle.std.proofs.Common.{rules}
use Rattle.tk_store.proofs.since.gather.Goals as goal

pub pages-init : goal.pages-init
pages-init c = search rules
