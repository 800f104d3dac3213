use Rattle.tk_bundle.proofs.PageLaws.{more_newest}
use Rattle.tk_bundle.proofs.page.newest_at.Goals as goal

pub loop-dot-preserved : goal.loop-dot-preserved
loop-dot-preserved c =
    more_newest c.args.store.now.slots c.args.dots.now c.loop-dot.dot-index c.dot-item.result
    c.loop-dot.newest c.newest_with-newest.result c.loop-dot-test.true c.dot-item.is
    c.loop-dot.invariant c.newest_with-newest.ensures
