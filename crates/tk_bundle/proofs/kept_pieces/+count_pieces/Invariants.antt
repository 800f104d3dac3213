use Rattle.std.proofs.Common.{length}
use Rattle.tk_bundle.proofs.kept_pieces.+count_pieces.Given as goal

abbrev pub decreases-count_pieces : goal.decreases-count_pieces
decreases-count_pieces l = length l.items.now
