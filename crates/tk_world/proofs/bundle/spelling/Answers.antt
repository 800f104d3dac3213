use Rattle.std.proofs.Common.{arith}
use Rattle.tk_world.proofs.BundleLaws.{readable_bytes}
use Rattle.tk_world.proofs.bundle.spelling.Goals as goal

pub returns-clause-spelled : goal.returns-clause-spelled
returns-clause-spelled c =
    readable_bytes c.args.bytes.now (λ i. omega (arith, c.type_inv.bytes i)) c.requires
