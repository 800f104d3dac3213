use Rattle.std.proofs.Common.{subst, sym}
use Rattle.tk_put.specs.Put.{Prints}
use Rattle.tokend.specs.Serving.{inner_line}
use Rattle.tokend.proofs.listen.put_inner.Goals as goal

pub returns-in-Some : goal.returns-in-Some
returns-in-Some g c =
    subst (λ p. Prints c.put_all.result (g.O.Write.contents c.args.output.now)
    (g.O.Write.contents c.put_all.new.output) (inner_line p)) (sym c.in-Some.is)
    (rw c.as_bytes.ensures.value at c.put_all.ensures)
