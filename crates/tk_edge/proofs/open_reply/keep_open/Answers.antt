use Rattle.tk_edge.proofs.OpenReplyLaws.{opened, stays_as}
use Rattle.tk_edge.proofs.open_reply.keep_open.Goals as goal

pub returns-in-Some : goal.returns-in-Some
returns-in-Some c =
    opened c.args.replies.now.items c.deref.result.now c.cut.new.replies.items c.args.start
    c.in-Some.at c.deref.ensures.value c.in-Some.ensures.some c.cut.ensures

pub returns-in_default : goal.returns-in_default
returns-in_default c =
    stays_as c.args.replies.now.items c.deref.result.now c.args.start c.deref.ensures.value
    c.in_default.ensures.none
