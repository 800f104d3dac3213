use Rattle.std.proofs.Common.{◌≡◌, [], ◌++◌, append-nil, ap, sym, ◌∙◌, rules}
use Rattle.tokend.specs.Decisions.{reach_by}
use Rattle.tokend.proofs.Deciding.{short}
use Rattle.tokend.proofs.FrontDeciding.{front_decides}
use Rattle.tokend.proofs.server.Server.serve_front.Goals as goal

pub returns-then-not-make_room-clause-decides : goal.returns-then-not-make_room-clause-decides
returns-then-not-make_room-clause-decides c = (
  [],
  [],
  c.make_room.ensures.replies ∙ sym (append-nil _),
  c.make_room.ensures.records ∙ sym (append-nil _),
  short _ _,
)

pub returns-clause-decides : goal.returns-clause-decides
returns-clause-decides c =
    let edge = c.args.self.now.edge in
    let served = c.serve_front-served in
    let records : c.new-record.result.inner.items ≡ c.args.records.now.items = search rules in
    let replies : c.new-reply.result.inner.items ≡ c.args.replies.now.items = search rules in
    let d = front_decides
    (record {
      words = c.args.words.now;
      log_taken = c.args.self.now.log_taken;
      reach =
          reach_by c.args.self.now.edge.terms c.args.self.now.has_inner c.args.self.now.is_inner;
      now = c.args.self.now.now;
      bytes = c.args.input.now;
      over = c.args.is_over;
    })
    edge served.new.self c.new-record.result.inner.items served.new.log.inner.items
    c.new-reply.result.inner.items served.new.writer.inner.items
    (served.new.log ≡ c.new-record.result) (ap (λ r. r.inner.items)) served.ensures.terms
    served.result (rw c.reached-reach.ensures at served.ensures.served) served.ensures.turned_away
    served.ensures.untouched in
    (d.0, d.1, d.2 ∙ ap (λ l. l ++ d.0) replies, d.3 ∙ ap (λ l. l ++ d.1) records, d.4)
