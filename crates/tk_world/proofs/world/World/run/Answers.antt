use Rattle.tk_world.specs.WorldFields.{store_in}
use Rattle.tk_world.proofs.PromiseLaws.{tells_of_sets, introspect_alike, revoked_inactive}
use Rattle.tk_world.proofs.PromiseLaws.{families_inactive}
use Rattle.tk_world.proofs.world.World.run.Goals as goal

pub returns-in-Ok-clause-run : goal.returns-in-Ok-clause-run
returns-in-Ok-clause-run c = λ made state stands.
    let ran = c.in-Ok.ensures.run made state stands in (
      ran,
      tells_of_sets state c.args.events.now c.in-Ok.outcomes.items ran.shown ran.after ran.run,
      introspect_alike state c.args.events.now c.in-Ok.outcomes.items ran.shown ran.after ran.run,
    )

pub returns-in-Ok-clause-revoked : goal.returns-in-Ok-clause-revoked
returns-in-Ok-clause-revoked c = revoked_inactive (store_in c.run_by-2.new.self)

pub returns-in-Ok-clause-families : goal.returns-in-Ok-clause-families
returns-in-Ok-clause-families c = families_inactive (store_in c.run_by-2.new.self)

pub returns-in-Err-Memory-clause-revoked : goal.returns-in-Err-Memory-clause-revoked
returns-in-Err-Memory-clause-revoked c = revoked_inactive (store_in c.run_by-2.new.self)

pub returns-in-Err-Memory-clause-families : goal.returns-in-Err-Memory-clause-families
returns-in-Err-Memory-clause-families c = families_inactive (store_in c.run_by-2.new.self)
