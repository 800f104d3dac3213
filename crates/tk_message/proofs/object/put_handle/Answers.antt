use Rattle.std.proofs.Common.{sym, subst}
use Rattle.std.specs.Str.{IsUtf8}
use Rattle.tk_message.proofs.ReplyLaws.{handle_utf8}
use Rattle.tk_message.proofs.object.put_handle.Goals as goal

pub unreachable-requires : goal.unreachable-requires
unreachable-requires c = c.in_default.ensures.cases.0
    (subst IsUtf8 (sym c.text-text.ensures) (handle_utf8 c.args.handle.now))
