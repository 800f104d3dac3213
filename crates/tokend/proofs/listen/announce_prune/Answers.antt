use Rattle.tokend.specs.Serving.{inner_line, outer_line, pruned_line}
use Rattle.std.proofs.Common.{◌++◌}
use Rattle.tokend.proofs.Announcements.{prints_less, prints_then}
use Rattle.tokend.proofs.listen.announce_prune.Goals as goal

pub returns-in-Ok : goal.returns-in-Ok
returns-in-Ok g c = prints_then _ _ _ (pruned_line c.args.pruned)
    (inner_line c.args.at.now.inner ++ outer_line c.args.at.now.outer c.args.port)
    c.announce_sockets.result c.in-Ok.ensures c.announce_sockets.ensures

pub returns-in-Err : goal.returns-in-Err
returns-in-Err g c = prints_less _ _ (pruned_line c.args.pruned)
    (inner_line c.args.at.now.inner ++ outer_line c.args.at.now.outer c.args.port) c.in-Err.ensures
