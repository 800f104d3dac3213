use Rattle.tk_vector.proofs.EntriesLaws.{more_written, more_fits}
use Rattle.tk_vector.proofs.bytes.write_entries.Goals as goal

pub loop-entry-preserved : goal.loop-entry-preserved
loop-entry-preserved c =
    let i = c.loop-entry.invariant in
    let es = c.args.entries.now in
    let at = c.loop-entry.entry-index in
    let e = c.entry-item.result in
    record {
      written = more_written es at e c.args.writer.now c.loop-entry.writer c.write_entry.new.writer
          c.loop-entry-test.true c.entry-item.is i.written c.in_ok-write_entry.ensures.written;
      fits = more_fits es at e c.loop-entry-test.true c.entry-item.is i.fits
          c.write_entry.ensures.fits;
    }
