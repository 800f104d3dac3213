use Rattle.std.proofs.Common.{sym, ap, subst}
use Rattle.tokend.specs.Repeats.{RepeatsFields}
use Rattle.tokend.specs.Turns.{AreAmong}
use Rattle.tokend.proofs.RepeatLaws.{forgets}
use Rattle.tokend.proofs.Turning.{goes_at, goes_both, goes_forgotten}
use Rattle.tokend.proofs.turns.turn.Goals as goal

pub returns : goal.returns
returns g c =
    let old = c.args.server.now.repeats in
    let forgot = c.forget.ensures in
    let among = subst (λ k. AreAmong k old.kept) (sym (ap (λ (r : RepeatsFields). r.kept) forgot))
    (forgets old.seconds c.unwrap_or-server.result old.kept) in
    record {
      goes = goes_both _ _ _ (goes_at _ c.unwrap_or-server.result)
          (goes_both _ _ _
          (goes_forgotten _ c.forget.new.self (ap (λ (r : RepeatsFields). r.seconds) forgot) among)
          (goes_both _ _ _ (c.show.ensures.goes _ _)
          (goes_both _ _ _ c.decide-is_stopped.ensures.goes
          (goes_both _ _ _ c.tell_losses.ensures.goes (c.prune.ensures.goes _ _)))));
    }
