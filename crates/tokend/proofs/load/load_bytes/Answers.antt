use Rattle.std.proofs.Common.{ℕ, Some, None, Ok, Err, inr, refl, subst}
use Rattle.tokend.specs.Loading.{TakesOne}
use Rattle.tokend.proofs.Loads.{front_kept, front_more, front_none, load_fault, parts_taken}
use Rattle.tokend.proofs.load.load_bytes.Goals as goal

pub loop-rest-init : goal.loop-rest-init
loop-rest-init c = front_none c.args.region.now c.args.log.now

pub loop-rest-preserved : goal.loop-rest-preserved
loop-rest-preserved c =
    let one : TakesOne c.saturating_sub-offset.result c.loop-rest.region c.loop-rest.rest.now
    (Ok (Some c.in-Ok-Some.count)) c.take_front.new.region =
    subst (λ o. TakesOne c.saturating_sub-offset.result c.loop-rest.region c.loop-rest.rest.now
    (Ok o) c.take_front.new.region) c.in-Ok-Some.field-0-is c.in-Ok-Some.ensures in
    front_more c.args.region.now c.loop-rest.region c.take_front.new.region c.args.log.now
    c.loop-rest.rest.now c.split_at.result.1.now one.1.0
    c.loop-rest.invariant one.1.1
    (parts_taken c.loop-rest.rest.now c.in-Ok-Some.count c.split_at.result.1.now one.1.0 one.1.3
    c.split_at.ensures.back) one.1.4

pub returns-in-Ok-None : goal.returns-in-Ok-None
returns-in-Ok-None c =
    let one : TakesOne c.saturating_sub-offset.result c.loop-rest.region c.loop-rest.rest.now
    (Ok None) c.take_front.new.region =
    subst (λ o. TakesOne c.saturating_sub-offset.result c.loop-rest.region c.loop-rest.rest.now
    (Ok o) c.take_front.new.region) c.in-Ok-None.field-0-is c.in-Ok-None.ensures in (
      c.loop-rest.rest.now,
      front_kept c.args.region.now c.loop-rest.region c.take_front.new.region c.args.log.now
          c.loop-rest.rest.now c.loop-rest.invariant one.1,
      inr one.0,
      refl,
    )

pub returns-in-Err : goal.returns-in-Err
returns-in-Err c =
    load_fault c.args.region.now c.loop-rest.region c.take_front.new.region c.args.log.now
    c.loop-rest.rest.now c.in-Err.fault c.loop-rest.invariant
    (subst (λ (n : ℕ).
    TakesOne n c.loop-rest.region c.loop-rest.rest.now (Err c.in-Err.fault) c.take_front.new.region)
    c.saturating_sub-offset.ensures c.in-Err.ensures)
