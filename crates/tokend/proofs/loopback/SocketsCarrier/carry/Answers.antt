use Rattle.tokend.proofs.SocketLaws.{connection_answers}
use Rattle.tokend.proofs.loopback.SocketsCarrier.carry.Goals as goal

pub returns-in_ok-bytes-in-Ok-Done : goal.returns-in_ok-bytes-in-Ok-Done
returns-in_ok-bytes-in-Ok-Done g c =
    connection_answers
    (record { now = c.args.now; words = c.args.words.now; bytes = c.args.bytes.now })
    c.args.edge.now c.serve_bytes.new.edge c.requires.sealed c.as_slice.result.now
    c.in-Ok-Done.status
    (rw c.in-Ok-Done.field-0-is at c.in-Ok-Done.ensures.connection)
