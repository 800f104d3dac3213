use Rattle.std.proofs.Common.{subst, sym}
use Rattle.tokend.specs.Status.{facts_text}
use Rattle.tokend.specs.Telling.{Writes, writer_of}
use Rattle.tokend.proofs.fault.tell_facts.Goals as goal

pub returns-in-Refused : goal.returns-in-Refused
returns-in-Refused g c =
    let place = c.tell_place-in-Refused in
    subst (λ f. Writes (writer_of g.F.Sink.holds g.F.Sink.failed c.args.faults.now)
    (writer_of g.F.Sink.holds g.F.Sink.failed place.new.faults) (facts_text f))
    (sym c.in-Refused.is) place.ensures
