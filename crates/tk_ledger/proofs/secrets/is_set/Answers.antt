use Rattle.tk_ledger.proofs.SecretKeyLaws.{secret_forward}
use Rattle.tk_ledger.specs.SecretTables.{turns_left}
use Rattle.tk_ledger.proofs.secrets.is_set.Goals as goal

pub range-requires : goal.range-requires
range-requires c = secret_forward c.args.client (turns_left c.args.turn) c.args.digest.now
    c.secret_span-first.result.0 c.secret_span-first.result.1 c.secret_span-first.ensures.first
    c.secret_span-first.ensures.last
