use Rattle.tk_put.specs.Put.{joined_text}
use Rattle.tokend.specs.Telling.{writer_of}
use Rattle.tokend.proofs.Tellings.{say_writes}
use Rattle.tokend.proofs.telling.say.Goals as goal

pub returns : goal.returns
returns g c =
    say_writes c.put_pieces.result (writer_of g.F.Sink.holds g.F.Sink.failed c.args.faults.now)
    (writer_of g.F.Sink.holds g.F.Sink.failed c.put_pieces.new.faults)
    (joined_text c.args.pieces.now)
    c.put_pieces.ensures.bytes c.put_pieces.ensures.failures
