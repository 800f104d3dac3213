use Rattle.std.proofs.Common.{Some, subst, sym}
use Rattle.tokend.specs.Connection.{IsConnection}
use Rattle.tokend.proofs.SocketLaws.{front_connection}
use Rattle.tokend.proofs.loopback.serve_bytes.Goals as goal

pub returns-clause-connection : goal.returns-clause-connection
returns-clause-connection c =
    let s = c.serve_front-served in
    let served = rw (c.plain.ensures) at s.ensures.served in
    subst (IsConnection c.args.now c.args.words.now c.args.bytes.now c.args.edge.now s.new.self)
    (sym c.end_of.ensures)
    (front_connection c.args.now c.args.words.now c.args.bytes.now c.args.edge.now s.new.self _
    (record {
      before = Some c.new-writer.result.inner.items;
      after = Some s.new.writer.inner.items;
    }) s.result
    served (λ e. (s.ensures.untouched e).0) s.ensures.terms)
