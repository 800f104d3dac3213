use Rattle.tokend.proofs.ServerDeciding.{replied_over, replied_same}
use Rattle.tokend.proofs.server.reply_over.Goals as goal

pub returns-then-stays : goal.returns-then-stays
returns-then-stays c = λ front reply is at.
    let h = c.keep_open.ensures in
    replied_over front reply c.args.replies.now.items c.keep_open.new.replies.items h.0 c.args.mark
    c.args.stays c.if-stays.true is at h.1 h.2

pub returns-else-stays : goal.returns-else-stays
returns-else-stays c = λ front reply is at.
    replied_same front reply c.args.replies.now.items c.args.stays c.if-stays.false is
