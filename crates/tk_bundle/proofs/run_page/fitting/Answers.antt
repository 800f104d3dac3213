use Rattle.std.proofs.Common.{map, sym, ap, ◌∙◌, None, arith}
use Rattle.std.proofs.lemmas.List.{length-take, take_all}
use Rattle.tk_bundle.specs.PieceBytes.{max_pieces, max_run_items}
use Rattle.tk_bundle.specs.PieceCounts.{fitting, marked_in}
use Rattle.tk_bundle.proofs.run_page.fitting.Goals as goal

pub slice_bounds-fitting_of-end : goal.slice_bounds-fitting_of-end
slice_bounds-fitting_of-end c = omega (arith, length-take max_run_items c.args.dots.now)

pub returns-else-dots-gt-MAX_RUN_ITEMS : goal.returns-else-dots-gt-MAX_RUN_ITEMS
returns-else-dots-gt-MAX_RUN_ITEMS c =
    let all = take_all max_run_items c.args.dots.now c.if-dots-gt-MAX_RUN_ITEMS.false in
    c.fitting_of-else-dots-gt-MAX_RUN_ITEMS.ensures
    ∙ ap (λ dots. fitting max_pieces None (map (marked_in c.args.store.now.slots) dots)) (sym all)
