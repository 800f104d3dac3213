use Rattle.std.proofs.Common.{◌≡◌, ◌++◌, take}
use Rattle.std.specs.List.{AllByRecursion, flat_map}
use Rattle.tk_vector.specs.VectorBytes.{entry_field}
use Rattle.tk_vector.proofs.bytes.write_entries.Given as goal

abbrev pub invariant-loop-entry : goal.invariant-loop-entry
invariant-loop-entry l = record {
  written : l.writer ≡ l.fn.writer ++ flat_map entry_field.spell (take l.entry-index l.entries);
  fits : AllByRecursion entry_field.Fits (take l.entry-index l.entries);
}
