use Rattle.tokend.proofs.Turning.{goes_both}
use Rattle.tokend.proofs.BehindTurns.{goes_untaken}
use Rattle.tokend.proofs.turns.tell_losses.Goals as goal

pub returns : goal.returns
returns g c =
    let log = g.L.Sink.holds c.args.log.now.log in
    record {
      goes = goes_both _ _ _
          (goes_both _ _ _
          (goes_both _ _ _
          (goes_both _ _ _ (c.miss_each.ensures.goes log) (c.miss_each-2.ensures.goes log))
          (c.part_each.ensures.goes log _)) (goes_untaken _ c.saturating_add-server.result))
          (c.tell_each_unsent.ensures _ log);
    }
