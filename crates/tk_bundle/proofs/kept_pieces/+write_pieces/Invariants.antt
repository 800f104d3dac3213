use Rattle.std.proofs.Common.{length}
use Rattle.tk_bundle.proofs.kept_pieces.+write_pieces.Given as goal

abbrev pub decreases-write_pieces : goal.decreases-write_pieces
decreases-write_pieces l = length l.items.now
