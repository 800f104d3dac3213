use Rattle.std.proofs.Common.{◌≡◌, ◌-◌}
use Rattle.tk_format.specs.Format.{read_many}
use Rattle.tk_format.proofs.Several.{with_front}
use Rattle.tk_format.proofs.many.read_many.Given as goal

abbrev pub invariant-loop : goal.invariant-loop
invariant-loop g l = with_front l.items.items
    (read_many g.T.FromBytes.value_at (l.count - l.counter) l.reader)
    ≡ read_many g.T.FromBytes.value_at l.count l.fn.reader
