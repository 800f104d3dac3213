use Rattle.tk_retention.proofs.SliceStands.{goes_soundly, slice_stands, progresses}
use Rattle.tk_retention.proofs.laws.slices_stand.Goals as goal

pub returns-clause-goes : goal.returns-clause-goes
returns-clause-goes c = λ P U F S sound d go. goes_soundly P U F S sound d go

pub returns-clause-slice : goal.returns-clause-slice
returns-clause-slice c = slice_stands

pub returns-clause-progress : goal.returns-clause-progress
returns-clause-progress c = λ P U F S d may off. progresses P U F S d may off
