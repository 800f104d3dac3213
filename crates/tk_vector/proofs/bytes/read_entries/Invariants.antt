use Rattle.std.proofs.Common.{◌≡◌, ◌-◌}
use Rattle.tk_format.specs.Format.{read_many}
use Rattle.tk_format.proofs.Several.{with_front}
use Rattle.tk_vector.specs.VectorBytes.{entry_field}
use Rattle.tk_vector.proofs.bytes.read_entries.Given as goal

abbrev pub invariant-loop : goal.invariant-loop
invariant-loop l = with_front l.entries.items
    (read_many entry_field.read (l.count - l.counter) l.reader)
    ≡ read_many entry_field.read l.count l.fn.reader
