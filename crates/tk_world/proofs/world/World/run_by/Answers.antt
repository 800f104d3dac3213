use Rattle.std.proofs.Common.{◌≡◌, ◌+◌, [], ◌∷◌, ◌++◌, take, length, ap, sym, ◌∙◌, refl, arith}
use Rattle.std.proofs.lemmas.Grind.{take_at_read}
use Rattle.std.proofs.lemmas.List.{take_all}
use Rattle.std.proofs.lemmas.Option.{slice_get_read}
use Rattle.tk_world.proofs.HeadlineLaws.{runs_for}
use Rattle.tk_world.proofs.RunLaws.{acts_more, acts_count}
use Rattle.tk_world.proofs.world.World.run_by.Goals as goal

pub loop-event-preserved : goal.loop-event-preserved
loop-event-preserved g c =
    let i = c.loop-event.invariant in
    let more = acts_more g.C.Carrier.way c.args.self.now
    (take c.loop-event.event-index c.args.events.now) c.loop-event.outcomes.items c.loop-event.self
    c.event-item.result c.in-Ok-step.outcome c.step.new.self i.acts c.in-Ok-step.ensures in
    let events : take (c.loop-event.event-index + 1) c.args.events.now
    ≡ take c.loop-event.event-index c.args.events.now ++ c.event-item.result ∷ [] =
    (take_at_read c.args.events.now c.loop-event.event-index c.event-item.result
    c.loop-event-test.true).1
    ∙ ap (λ e. take c.loop-event.event-index c.args.events.now ++ e ∷ []) (sym c.event-item.is) in
    record {
      acts = rw (events, c.push_within.ensures.items) more;
      so_many = omega (arith, c.push_within.ensures.len, i.so_many);
      room = omega (arith, c.push_within.ensures.room, i.room);
    }

pub returns-in-Err-clause-err : goal.returns-in-Err-clause-err
returns-in-Err-clause-err g c = record {
  done = c.loop-event.event-index;
  event = c.event-item.result;
  outcomes = c.loop-event.outcomes.items;
  mid = c.loop-event.self;
  next = slice_get_read c.args.events.now (length c.args.events.now) c.loop-event.event-index
      c.event-item.result refl c.loop-event-test.true c.event-item.is;
  run = c.loop-event.invariant.acts;
  lost = c.in-Err.ensures;
}

pub returns-clause-acts : goal.returns-clause-acts
returns-clause-acts g c = rw (take_all c.loop-event.event-index c.args.events.now
    c.loop-event-test.false) at c.loop-event.invariant.acts

pub returns-clause-run : goal.returns-clause-run
returns-clause-run g c = λ made state stands.
    runs_for g.C.Carrier.way c.args.self.now c.args.events.now c.loop-event.outcomes.items
    c.loop-event.self
    (rw (take_all c.loop-event.event-index c.args.events.now c.loop-event-test.false) at
    c.loop-event.invariant.acts) made state stands

pub returns-clause-count : goal.returns-clause-count
returns-clause-count g c =
    acts_count g.C.Carrier.way c.args.self.now c.args.events.now c.loop-event.outcomes.items
    c.loop-event.self
    (rw (take_all c.loop-event.event-index c.args.events.now c.loop-event-test.false) at
    c.loop-event.invariant.acts)
