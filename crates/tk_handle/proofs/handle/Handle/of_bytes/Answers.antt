use Rattle.std.proofs.Common.{arith, rules}
use Rattle.tk_handle.proofs.HandleLaws.{bytes_found}
use Rattle.tk_handle.proofs.handle.Handle.of_bytes.Goals as goal

pub returns-then-is_empty-clause-found : goal.returns-then-is_empty-clause-found
returns-then-is_empty-clause-found c = bytes_found c.args.bytes.now c.in_ok-handle.handle
    (λ i. omega (arith, c.type_inv.bytes i)) (search rules)
