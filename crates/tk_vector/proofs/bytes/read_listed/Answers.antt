use Rattle.tk_vector.proofs.ListedLaws.{gets_listed}
use Rattle.tk_vector.proofs.bytes.read_listed.Goals as goal

pub returns : goal.returns
returns c =
    gets_listed c.in_ok-count.count c.read_entries.result c.args.reader.now c.take_magic.new.self
    c.take_u16.new.self c.read_entries.new.reader
    (rw c.in_ok-ok_or.ensures.ok_part at c.take_magic.ensures.read)
    (rw c.in_ok-count.ensures.ok_part at c.take_u16.ensures.read) c.read_entries.ensures
