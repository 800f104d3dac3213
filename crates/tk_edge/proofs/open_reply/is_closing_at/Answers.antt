use Rattle.std.proofs.Common.{sym}
use Rattle.tk_edge.proofs.OpenReplyLaws.{here_is, not_here}
use Rattle.tk_edge.proofs.open_reply.is_closing_at.Goals as goal

pub returns-then-reply-at-ne67-clause-value : goal.returns-then-reply-at-ne67-clause-value
returns-then-reply-at-ne67-clause-value c =
    sym (not_here c.args.reply.now c.args.at c.requires c.if-reply-at-ne67.true)

pub returns-clause-value : goal.returns-clause-value
returns-clause-value c =
    sym (here_is c.args.reply.now c.args.at c.starts_with.result c.starts_with.ensures.value)
