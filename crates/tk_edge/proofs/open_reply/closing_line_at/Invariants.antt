use Rattle.std.proofs.Common.{◌≡◌, ℕ, ◌<◌, false}
use Rattle.tk_edge.specs.OpenReply.{says_at}
use Rattle.tk_edge.proofs.open_reply.closing_line_at.Given as goal

-- no place so far has a closing line
abbrev pub invariant-loop-at : goal.invariant-loop-at
invariant-loop-at l = (k : ℕ) → k < l.at → says_at l.fn.reply k ≡ false
