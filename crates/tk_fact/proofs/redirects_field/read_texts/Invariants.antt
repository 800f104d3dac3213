use Rattle.std.proofs.Common.{◌≡◌, ◌-◌, map}
use Rattle.tk_format.specs.Format.{text, read_many}
use Rattle.tk_format.proofs.Several.{with_front}
use Rattle.tk_fact.proofs.redirects_field.read_texts.Given as goal

abbrev pub invariant-loop : goal.invariant-loop
invariant-loop l = with_front (map (λ x. x.now) l.texts.items)
    (read_many text.read (l.count - l.counter) l.reader)
    ≡ read_many text.read l.count l.fn.reader
