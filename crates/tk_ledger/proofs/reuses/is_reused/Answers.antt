use Rattle.tk_ledger.proofs.ReuseLaws.{reuses_forward}
use Rattle.tk_ledger.proofs.reuses.is_reused.Goals as goal

pub range-requires : goal.range-requires
range-requires c = reuses_forward c.args.token.now c.reuse_span-first.result.0
    c.reuse_span-first.result.1 c.reuse_span-first.ensures.first c.reuse_span-first.ensures.last
