use Rattle.std.proofs.Common.{◌-◌, ◌^◌, vec_len}
use Rattle.std.specs.Io.KnownBytes.{Consumes}
use Rattle.tokend.proofs.load.read_log.Given as goal

-- the reader's bytes are the log so far, then what is left
abbrev pub invariant-loop-piece : goal.invariant-loop-piece
invariant-loop-piece g l =
    Consumes (g.I.Read.remaining l.fn.reader) (g.I.Read.remaining l.reader) l.log.items

abbrev pub decreases-loop-piece : goal.decreases-loop-piece
decreases-loop-piece g l = 2 ^ 64 - vec_len l.log
