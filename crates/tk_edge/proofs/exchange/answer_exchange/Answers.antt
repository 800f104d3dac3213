use Rattle.tk_edge.proofs.AnswerLaws.{pulls}
use Rattle.tk_edge.proofs.exchange.answer_exchange.Goals as goal

pub returns-in-Pull : goal.returns-in-Pull
returns-in-Pull c = rw c.in-Pull.is
    (pulls c.args.terms.now c.args.now c.args.region.now c.in-Pull.pages c.in-Pull.sent
    c.send_page.result (rw c.bytes.ensures at c.send_page.ensures))
