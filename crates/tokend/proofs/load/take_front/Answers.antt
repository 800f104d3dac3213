use Rattle.std.proofs.Common.{Ok, Err, subst, sym}
use Rattle.tokend.specs.Loading.{TakesOne}
use Rattle.tokend.proofs.Loads.{take_one, unread_front}
use Rattle.tokend.proofs.load.take_front.Goals as goal

pub returns-in-Err : goal.returns-in-Err
returns-in-Err c =
    subst (λ r. TakesOne c.args.offset c.args.region.now c.args.rest.now r c.args.region.now)
    (sym c.front_end.ensures)
    (unread_front c.args.offset c.args.region.now c.args.rest.now c.in-Err.error
    c.in-Err.ensures.walked c.in-Err.ensures.only c.in-Err.ensures.cut)

pub returns-in-Ok-take_bundle : goal.returns-in-Ok-take_bundle
returns-in-Ok-take_bundle c =
    take_one c.args.offset c.args.region.now c.take_bundle.new.self c.args.rest.now c.in-Ok.front
    (Ok c.in-Ok-take_bundle.field-0)
    c.in-Ok-take_bundle.ensures.number c.in-Ok-take_bundle.ensures.settings
    c.in-Ok.ensures.found.0 c.in-Ok.ensures.found.1 c.in-Ok.ensures.found.2
    c.in-Ok-take_bundle.ensures.takes

pub returns-in-Err-take_bundle : goal.returns-in-Err-take_bundle
returns-in-Err-take_bundle c =
    subst (λ f. TakesOne c.args.offset c.args.region.now c.args.rest.now
    (Err f) c.take_bundle.new.self) (sym c.take_fault.ensures)
    (take_one c.args.offset c.args.region.now c.take_bundle.new.self c.args.rest.now c.in-Ok.front
    (Err c.in-Err-take_bundle.error)
    c.in-Err-take_bundle.ensures.number c.in-Err-take_bundle.ensures.settings
    c.in-Ok.ensures.found.0 c.in-Ok.ensures.found.1 c.in-Ok.ensures.found.2
    c.in-Err-take_bundle.ensures.takes)
