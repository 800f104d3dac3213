use Rattle.std.proofs.Common.{◌≡◌, None, subst}
use Rattle.tk_edge.specs.EdgeFields.{EdgeFields}
use Rattle.tk_edge.specs.FrontServed.{IsFrontServed}
use Rattle.tk_edge.specs.Told.{Change}
use Rattle.tk_edge.proofs.edge.Edge.serve_front.Goals as goal

pub returns-clause-served : goal.returns-clause-served
returns-clause-served g c = λ unsealed.
    let log : Change = record {
      before = g.L.Sink.holds c.args.log.now;
      after = g.L.Sink.holds c.serve_front_open.new.log;
    } in
    let writer : Change = record {
      before = g.W.Sink.holds c.args.writer.now;
      after = g.W.Sink.holds c.serve_front_open.new.writer;
    } in
    subst (λ (e : EdgeFields). IsFrontServed
    (record {
      reach = c.args.reach;
      terms = e.terms;
      log_taken = c.args.log_taken;
      known = None;
      now = c.args.now;
      words = c.args.words.now;
    })
    c.args.bytes.now c.args.is_over
    (record { before = e.region; after = c.serve_front_open.new.region }) log
    (c.serve_front_open.new.log ≡ c.args.log.now) writer c.serve_front_open.new.sealed
    c.serve_front_open.result) c.self.view_is c.serve_front_open.ensures.served
