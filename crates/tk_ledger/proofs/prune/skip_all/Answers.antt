use Rattle.tk_ledger.proofs.SkipLaws.{skips_more}
use Rattle.tk_ledger.proofs.prune.skip_all.Goals as goal

pub loop-dot-preserved : goal.loop-dot-preserved
loop-dot-preserved c = record {
  skips = skips_more c.args.store.now c.loop-dot.store c.skip_at.new.store c.args.dots.now
      c.loop-dot.dot-index _ c.dot-item.result c.in-Ok.field-0 c.loop-dot-test.true c.dot-item.is
      c.loop-dot.invariant.skips c.in-Ok.ensures.skips;
  indexed = c.in-Ok.ensures.indexed;
}
