use Rattle.std.proofs.Common.{Some, Ok, subst}
use Rattle.tk_edge.specs.Arrivals.{Answers, IsShort}
use Rattle.tk_edge.specs.Heard.{IsArrival}
use Rattle.tk_edge.specs.declared.hear.Arrival.{Arrival}
use Rattle.tk_edge.specs.declared.reach.Reach.{Reach}
use Rattle.tk_world.proofs.PartLaws.{answered_part, untouched}
use Rattle.tk_world.proofs.carrier.InPlaceCarrier.carry.Goals as goal

pub returns-in-Ok : goal.returns-in-Ok
returns-in-Ok c =
    let told = subst (λ (r : Reach).
    (x : Arrival) × IsArrival r c.args.bytes.now x
    × Answers c.args.edge.now.terms c.args.edge.now.region c.args.now c.args.words.now x
    (Ok c.in-Ok.answer) c.answer.new.self.region) c.plain.ensures
    (c.in-Ok.ensures.answers c.requires.sealed) in
    answered_part c.args.edge.now c.answer.new.self
    (record { now = c.args.now; words = c.args.words.now; bytes = c.args.bytes.now }) _ _
    c.answer-in-Ok.view_is
    c.in-Ok.ensures.sealed c.in-Ok.ensures.terms told

pub returns-in-Err : goal.returns-in-Err
returns-in-Err c =
    let short = subst (λ (r : Reach).
    IsShort r c.args.edge.now.terms c.args.now (Some c.args.bytes.now) c.args.edge.now.region
    c.answer.new.self.region) c.plain.ensures c.in-Err.ensures.err in
    untouched c.args.edge.now c.answer.new.self c.args.now _ c.in-Err.ensures.sealed
    c.in-Err.ensures.terms short
