use Rattle.std.proofs.Common.{Err, inl, refl}
use Rattle.tk_region.specs.declared.take.TakeError.TheVariants.{Memory}
use Rattle.tk_edge.proofs.push.take_read.Goals as goal

-- if there is no memory for the record, nothing is taken in
pub returns-in_default-clause-takes : goal.returns-in_default-clause-takes
returns-in_default-clause-takes c = (Err Memory, refl, inl refl)
