use Rattle.std.proofs.Common.{refl, subst, sym}
use Rattle.tokend.specs.Telling.{writer_of}
use Rattle.tokend.specs.Turns.{Goes}
use Rattle.tokend.specs.declared.server.Server.{Server}
use Rattle.tokend.proofs.Turning.{goes_both, goes_over}
use Rattle.tokend.proofs.TurnLaws.{goes_kept, goes_lost}
use Rattle.tokend.proofs.turns.decide_at.Goals as goal

pub returns-in-Ok : goal.returns-in-Ok
returns-in-Ok g c =
    let t = c.in-Ok.ensures.turn in
    record {
      goes = goes_both _ _ _ (goes_over _ c.args.is_inner) (subst (λ (s : Server). Goes
          (record {
            server = record c.args.server.now { is_inner = c.args.is_inner };
            log = g.L.Sink.holds c.args.log.now.log;
            faults = writer_of g.F.Sink.holds g.F.Sink.failed c.args.faults.now;
          })
          (record {
            server = s;
            log = g.L.Sink.holds c.take_turn.new.log.log;
            faults = writer_of g.F.Sink.holds g.F.Sink.failed c.tell.new.faults;
          }))
          (sym c.tell.ensures.fault)
          (goes_kept _ _ _ _ _ _ _ t.mid t.logged t.decided t.end c.requires c.tell.ensures.told
          refl));
    }

pub returns-in-Err : goal.returns-in-Err
returns-in-Err g c =
    let t = c.in-Err.ensures.turn in
    record {
      goes = goes_both _ _ _ (goes_over _ c.args.is_inner) (subst (λ (s : Server). Goes
          (record {
            server = record c.args.server.now { is_inner = c.args.is_inner };
            log = g.L.Sink.holds c.args.log.now.log;
            faults = writer_of g.F.Sink.holds g.F.Sink.failed c.args.faults.now;
          })
          (record {
            server = s;
            log = g.L.Sink.holds c.take_turn.new.log.log;
            faults = writer_of g.F.Sink.holds g.F.Sink.failed c.tell_fault.new.faults;
          }))
          (sym c.tell-is_stopped.ensures.fault)
          (goes_lost _ _ _ _ _ _ _ t.mid t.logged t.decided t.end c.requires
          c.tell-is_stopped.ensures.told c.tell_fault.ensures));
    }
