use Rattle.tokend.proofs.ServiceLogs.{service_logs}
use Rattle.tokend.proofs.promises.a_service_writes_such_a_log.Goals as goal

pub returns : goal.returns
returns g c = λ part. service_logs (g.D.Folder.kept c.args.folder.now) g.L.Sink.holds
    (g.D.Folder.opens c.args.folder.now part)
