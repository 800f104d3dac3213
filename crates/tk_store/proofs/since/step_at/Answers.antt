use Rattle.std.proofs.Common.{arith}
use Rattle.tk_store.proofs.since.step_at.Goals as goal

pub unreachable-requires : goal.unreachable-requires
unreachable-requires c = c.in-None.ensures (
  omega (arith, c.if-serial-entry.false, c.serial.ensures.range.0, c.get-entry.ensures.value),
  omega (arith, c.get-entry.ensures.high),
)
