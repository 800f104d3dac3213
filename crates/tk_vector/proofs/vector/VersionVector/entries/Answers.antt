use Rattle.std.proofs.Common.{ap, sym, ◌∙◌}
use Rattle.std.specs.Ordering.{nat_cmp}
use Rattle.std.specs.FinMap as map
use Rattle.tk_vector.proofs.vector.VersionVector.entries.Goals as goal

pub returns : goal.returns
returns c = c.as_slice.ensures.value
    ∙ sym (map.entries-from_sorted nat_cmp c.self.inside.entries.items c.self.invariant)
    ∙ ap map.entries c.self.view_is
