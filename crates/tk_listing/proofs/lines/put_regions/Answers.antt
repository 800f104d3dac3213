use Rattle.std.proofs.Common.{arith}
use Rattle.tk_listing.proofs.Writing.{next_written, none_written}
use Rattle.tk_listing.proofs.lines.put_regions.Goals as goal

pub loop-before-init : goal.loop-before-init
loop-before-init c = (omega arith, none_written c.args.vector.now c.args.writer.now)

pub loop-before-preserved : goal.loop-before-preserved
loop-before-preserved c = (
  omega (arith, c.loop-before-test.true),
  next_written c.args.vector.now c.loop-before.before c.args.writer.now c.loop-before.writer
      c.put_region.new.writer c.loop-before.invariant.1 c.in_ok-put_region.ensures,
)
