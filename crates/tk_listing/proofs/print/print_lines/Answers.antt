use Rattle.std.proofs.Common.{List, ℕ, sym, subst}
use Rattle.tk_listing.proofs.Inputs.{Going, going_first, more_goes, more_stops, read_stops, stopped}
use Rattle.tk_listing.specs.declared.print.PrintFault.TheVariants.{CannotRead}
use Rattle.tk_listing.proofs.print.print_lines.Goals as goal

pub loop-init : goal.loop-init
loop-init g c =
    let known = g.I.Read.remaining c.args.input.now in
    let old = g.O.Write.contents c.args.output.now in
    subst (λ (l : List ℕ). Going known known l 0 old old) (sym c.new-buffer.ensures.items)
    (going_first known old)

pub loop-preserved : goal.loop-preserved
loop-preserved g c =
    more_goes _ _ _ c.loop.buffer.items c.read_more.new.buffer.items c.in-Ok.left.0.items
    c.loop.offset c.in-Ok.left.1 _ _ _ _ c.loop.invariant c.in-Ok-true.ensures.grown c.in-Ok.ensures

pub returns-in-Err : goal.returns-in-Err
returns-in-Err g c = read_stops _ _ c.loop.buffer.items c.loop.offset c.in-Err.fault _ _
    c.loop.invariant c.in-Err.ensures.fault

pub returns-in-Err-print_more : goal.returns-in-Err-print_more
returns-in-Err-print_more g c =
    more_stops _ _ _ c.loop.buffer.items c.read_more.new.buffer.items c.loop.offset
    c.in-Err-print_more.fault _ _ _ _ c.loop.invariant c.in-Ok-true.ensures.grown
    c.in-Err-print_more.ensures

pub returns : goal.returns
returns g c =
    stopped _ _ c.loop.buffer.items c.loop.offset _ _ CannotRead c.loop.invariant (λ s r l h. h)
