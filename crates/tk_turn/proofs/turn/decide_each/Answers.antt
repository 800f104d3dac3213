use Rattle.std.proofs.Common.{rules}
use Rattle.tk_turn.proofs.Places.{all_turned}
use Rattle.tk_turn.proofs.turn.decide_each.Goals as goal

pub returns-clause-decided : goal.returns-clause-decided
returns-clause-decided g c =
    let so_far = c.places.invariant.decided in (
      so_far.0,
      so_far.1,
      all_turned g.S.Service.decides c.args.places.now c.args.service.now c.args.links.now.items
          c.places.at c.places.service c.places.links.items so_far.0 (search rules) so_far.2,
    )
