use Rattle.std.proofs.Common.{◌≡◌, rules}
use Rattle.std.proofs.lemmas.Result.{err_from_is_err_and}
use Rattle.tk_format.specs.declared.error.ReadError.TheVariants.{Malformed}
use Rattle.tk_format.specs.Format.{read_many}
use Rattle.tk_format.proofs.Several.{many_done, many_fail, many_more}
use Rattle.tk_vector.specs.VectorBytes.{entry_field}
use Rattle.tk_vector.proofs.bytes.read_entries.Goals as goal

pub returns-in_err-entry : goal.returns-in_err-entry
returns-in_err-entry c =
    let p = err_from_is_err_and c.from_residual.result c.from_residual.ensures.1 in
    let malformed : c.in_err-entry.field-0.0 ≡ Malformed = search rules in
    rw (p.1, p.2, malformed)
    (many_fail entry_field.read c.loop.entries.items c.args.count c.loop.counter c.loop.reader
    (read_many entry_field.read c.args.count c.args.reader.now) c.loop-test.true
    (rw c.in_err-entry.ensures.ok_part at c.read_entry.ensures) c.loop.invariant)

pub loop-preserved : goal.loop-preserved
loop-preserved c =
    rw c.in_ok-push.ensures.items
    (many_more entry_field.read c.loop.entries.items c.args.count c.loop.counter c.loop.reader
    c.in_ok-entry.entry c.read_entry.new.reader
    (read_many entry_field.read c.args.count c.args.reader.now) c.loop-test.true
    (rw c.in_ok-entry.ensures.ok_part at c.read_entry.ensures) c.loop.invariant)

pub returns : goal.returns
returns c = many_done entry_field.read c.loop.entries.items c.args.count c.loop.counter
    c.loop.reader (read_many entry_field.read c.args.count c.args.reader.now) c.loop-test.false
    c.loop.invariant
