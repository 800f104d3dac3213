use Rattle.tokend.specs.Serving.{inner_line, outer_line}
use Rattle.tokend.proofs.Announcements.{prints_less, prints_then}
use Rattle.tokend.proofs.listen.announce_sockets.Goals as goal

pub returns-in-Ok : goal.returns-in-Ok
returns-in-Ok g c = prints_then _ _ _ (inner_line c.args.at.now.inner)
    (outer_line c.args.at.now.outer c.args.port) c.put_outer.result c.in-Ok.ensures
    c.put_outer.ensures

pub returns-in-Err : goal.returns-in-Err
returns-in-Err g c = prints_less _ _ (inner_line c.args.at.now.inner)
    (outer_line c.args.at.now.outer c.args.port) c.in-Err.ensures
