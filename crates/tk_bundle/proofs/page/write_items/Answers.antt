use Rattle.tk_bundle.proofs.PageLaws.{more_written, more_fits}
use Rattle.tk_bundle.proofs.page.write_items.Goals as goal

pub loop-dot-preserved : goal.loop-dot-preserved
loop-dot-preserved c =
    let i = c.loop-dot.invariant in
    let w = c.in_ok-write_item.ensures in
    record {
      written = more_written c.args.store.now.slots c.args.dots.now c.loop-dot.dot-index
          c.dot-item.result c.args.writer.now c.loop-dot.writer c.write_item.new.writer
          c.loop-dot-test.true c.dot-item.is i.written w.written;
      fits = more_fits c.args.store.now.slots c.args.dots.now c.loop-dot.dot-index c.dot-item.result
          c.loop-dot-test.true c.dot-item.is i.fits w.fits;
    }
