use Rattle.tokend.proofs.Services.{bind_fault, bind_left}
use Rattle.tokend.proofs.listen.listen.Goals as goal

pub returns-in-Err-clause-fault : goal.returns-in-Err-clause-fault
returns-in-Err-clause-fault g c = bind_fault c.in-Err.fault c.in-Err.ensures.fault

pub returns-in-Err-clause-left : goal.returns-in-Err-clause-left
returns-in-Err-clause-left g c = bind_left c.args.opening c.args.service.now.at c.in-Err.fault
    (g.O.Write.contents c.args.output.now) c.in-Err.ensures.fault
