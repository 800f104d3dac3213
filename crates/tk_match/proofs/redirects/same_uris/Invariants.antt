use Rattle.std.proofs.Common.{◌≡◌, take, length}
use Rattle.tk_match.proofs.redirects.same_uris.Given as goal

abbrev pub invariant-loop-i : goal.invariant-loop-i
invariant-loop-i l =
    record { as_long : length l.left ≡ length l.right; so_far : take l.i l.left ≡ take l.i l.right }
