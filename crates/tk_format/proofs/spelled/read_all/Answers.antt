use Rattle.std.proofs.Common.{arith}
use Rattle.tk_format.specs.Exact.{all_found, all_malformed}
use Rattle.tk_format.proofs.spelled.read_all.Goals as goal

pub returns-clause-found : goal.returns-clause-found
returns-clause-found g c = all_found g.T.Spelled.format g.met.T.Spelled.exact c.args.bytes.now
    c.read_whole.result (λ i. omega (arith, c.type_inv.bytes i)) c.read_whole.ensures

pub returns-clause-malformed : goal.returns-clause-malformed
returns-clause-malformed g c = all_malformed g.T.Spelled.format g.met.T.Spelled.exact
    c.args.bytes.now c.read_whole.result c.read_whole.ensures
