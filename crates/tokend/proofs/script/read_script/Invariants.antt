use Rattle.std.proofs.Common.{◌-◌, ◌+◌, vec_len}
use Rattle.std.specs.Io.KnownBytes.{Consumes}
use Rattle.tokend.specs.declared.script.TheConstants.{MAX_SCRIPT}
use Rattle.tokend.proofs.script.read_script.Given as goal

-- the input's bytes are the script so far, then what is left
abbrev pub invariant-loop-piece : goal.invariant-loop-piece
invariant-loop-piece g l =
    Consumes (g.I.Read.remaining l.fn.input) (g.I.Read.remaining l.input) l.script.items

abbrev pub decreases-loop-piece : goal.decreases-loop-piece
decreases-loop-piece g l = MAX_SCRIPT + 1 - vec_len l.script
