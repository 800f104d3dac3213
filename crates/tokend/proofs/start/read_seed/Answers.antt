use Rattle.std.proofs.Common.{rules}
use Rattle.tokend.proofs.start.read_seed.Goals as goal

pub returns-in_default : goal.returns-in_default
returns-in_default g c = search rules

pub slice_bounds-read_exact-end : goal.slice_bounds-read_exact-end
slice_bounds-read_exact-end g c = search rules

pub returns-in-Err : goal.returns-in-Err
returns-in-Err g c = search rules

pub slice_bounds-read-end : goal.slice_bounds-read-end
slice_bounds-read-end g c = search rules

pub returns : goal.returns
returns g c = search rules
