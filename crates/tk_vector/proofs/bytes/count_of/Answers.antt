use Rattle.std.proofs.Common.{sym, arith}
use Rattle.tk_vector.proofs.EntriesLaws.{few}
use Rattle.tk_vector.proofs.bytes.count_of.Goals as goal

pub overflow_cast-result : goal.overflow_cast-result
overflow_cast-result c =
    omega (
      arith,
      few c.args.entries.now c.in-Some-Some.first.now c.in-Some-Some.last.now c.requires
          (sym (rw c.in-Some-Some.is-0 at c.first.ensures.value))
          (sym (rw c.in-Some-Some.is-1 at c.last.ensures.value))
          c.number-lowest.ensures.range c.number-highest.ensures.range.1,
    )
