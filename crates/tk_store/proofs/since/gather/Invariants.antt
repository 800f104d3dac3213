use Rattle.std.proofs.Common.{map, length}
use Rattle.tk_store.specs.FactSet.{dot_of}
use Rattle.tk_store.specs.Beyond.{beyond}
use Rattle.tk_store.specs.Walk.{above}
use Rattle.tk_store.proofs.SeekingLaws.{Found}
use Rattle.tk_store.proofs.since.gather.Given as goal

abbrev pub invariant-pages : goal.invariant-pages
invariant-pages l = Found l.table l.vector l.limit l.dots.items l.place
    (map dot_of (beyond l.table l.vector l.fn.after))

abbrev pub decreases-pages : goal.decreases-pages
decreases-pages l = length (above l.table l.place)
