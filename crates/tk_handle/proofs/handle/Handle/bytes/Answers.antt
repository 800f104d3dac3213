use Rattle.std.proofs.Common.{refl, arith}
use Rattle.tk_handle.proofs.HandleLaws.{spelled}
use Rattle.tk_handle.proofs.handle.Handle.bytes.Goals as goal

pub returns : goal.returns
returns c =
    rw (
      c.to_be_bytes-region.ensures,
      c.to_be_bytes-serial.ensures,
      c.to_be_bytes-first.ensures,
      c.to_be_bytes-second.ensures,
      c.to_be_bytes-third.ensures,
      c.number.ensures.value,
      c.region.ensures.value,
      c.serial.ensures.value,
      c.number-kind.ensures,
    )
    (spelled c.args.self.now _ _ _ _ _ _ (omega arith) refl refl refl refl refl refl)
