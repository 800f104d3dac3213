use Rattle.std.proofs.Common.{arith, take}
use Rattle.tk_handle.proofs.HandleLaws.{text_found}
use Rattle.tk_handle.proofs.handle.Handle.of_text.Goals as goal

pub returns-clause-found : goal.returns-clause-found
returns-clause-found c =
    text_found c.args.text.now (take c.in-Ok.count c.decode_slice_unchecked.new.output)
    c.of_bytes.result (λ i. omega (arith, c.type_inv.text i)) c.in-Ok.ensures.ok.0
    c.of_bytes.ensures.found
