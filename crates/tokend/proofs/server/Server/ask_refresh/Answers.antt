use Rattle.std.proofs.Common.{◌≡◌, Some, rules}
use Rattle.std.specs.Prelude.{find}
use Rattle.tokend.specs.Repeats.{is_repeat}
use Rattle.tk_edge.specs.Again.{repeat_at}
use Rattle.tokend.proofs.RepeatLaws.{again_by, found_parts}
use Rattle.tokend.proofs.server.Server.ask_refresh.Goals as goal

pub returns-in-Ok-Some : goal.returns-in-Ok-Some
returns-in-Ok-Some c reach bytes over came =
    let server = c.args.self.now in
    let it = c.in-Some.found.now in
    let refresh = c.args.refresh in
    let test = is_repeat server.repeats.seconds server.now refresh.parent refresh.request in
    let found : find test server.repeats.kept ≡ Some it = search rules in
    let replied : repeat_at server.edge server.now it.dot it.words ≡ Some c.in-Ok-Some.reply.items =
    search rules in
    record {
      on = c.requires;
      it = it;
      repeated = record {
        refresh = refresh;
        came = came;
        again = again_by server.repeats.seconds server.now refresh.parent refresh.request it
            (found_parts test server.repeats.kept it found).1;
        replied = replied;
      };
      found = found;
    }
