use Rattle.std.specs.FinMap as map
use Rattle.tk_vector.proofs.EntriesLaws.{rising_entries}
use Rattle.tk_vector.proofs.vector.VersionVector.write.Goals as goal

pub count_of-requires : goal.count_of-requires
count_of-requires c = rw c.entries-entries.ensures (map.entries_sorted c.args.self.now)

pub returns-clause-fits : goal.returns-clause-fits
returns-clause-fits c = (
  (
    rw (← c.entries-entries.ensures, ← c.count_of.ensures) c.count_of.type_inv,
    rw c.entries-entries.ensures at c.in_ok-write_entries.ensures.fits,
  ),
  rising_entries c.args.self.now,
)
