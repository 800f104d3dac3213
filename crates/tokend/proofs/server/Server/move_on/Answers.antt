use Rattle.std.proofs.Common.{◌-◌, ap, ◌∙◌, arith}
use Rattle.tokend.specs.Counting.{with_end}
use Rattle.tokend.proofs.server.Server.move_on.Goals as goal

pub returns : goal.returns
returns c =
    let server = c.args.self.now in
    let counts = c.count.ensures
    ∙ ap (λ p. with_end c.args.end p c.args.path server.now server.tally.counts)
    c.paths-paths.ensures in (
      server.left - c.ended_if.result,
      omega (arith, c.ended_if.ensures.value, c.ended_if.ensures.most, c.requires),
      λ i. record server {
        words = c.args.next;
        left = server.left - c.ended_if.result;
        fault = c.fault_of-fault.ensures i;
        tally = record server.tally { counts = counts i };
      },
    )
