use Rattle.tk_listing.proofs.Showing.{ended_bad, ended_cut, next_failed, next_printed}
use Rattle.tk_listing.proofs.print.print_pieces.Goals as goal

pub loop-used-preserved : goal.loop-used-preserved
loop-used-preserved g c = next_printed c.args.bytes.now c.rest_of.result.now c.loop-used.used
    c.in-Printed.count _ _ _ c.loop-used.invariant c.rest_of.ensures c.in-Printed.ensures

pub returns-in-Failed : goal.returns-in-Failed
returns-in-Failed g c = next_failed c.args.bytes.now c.rest_of.result.now c.loop-used.used
    c.in-Failed.count _ _ _ c.loop-used.invariant c.rest_of.ensures c.in-Failed.ensures

pub returns-in-Malformed : goal.returns-in-Malformed
returns-in-Malformed g c = ended_bad c.args.bytes.now c.rest_of.result.now c.loop-used.used _ _ _
    c.loop-used.invariant c.rest_of.ensures c.in-Malformed.ensures

pub returns-in-Cut : goal.returns-in-Cut
returns-in-Cut g c = ended_cut c.args.bytes.now c.rest_of.result.now c.loop-used.used _ _ _
    c.loop-used.invariant c.rest_of.ensures c.in-Cut.ensures
