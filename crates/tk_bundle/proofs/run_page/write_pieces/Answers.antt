use Rattle.std.proofs.Common.{◌+◌, ◌∷◌, ◌++◌, ap, sym, ◌∙◌, drop}
use Rattle.std.proofs.lemmas.List.{drop_more}
use Rattle.tk_bundle.proofs.PageLaws.{more_fits}
use Rattle.tk_bundle.proofs.RunPageLaws.{items_at-next}
use Rattle.tk_bundle.specs.Page.{items_at}
use Rattle.tk_bundle.specs.RunPage.{pieces_behind, pieces_bytes}
use Rattle.tk_bundle.proofs.run_page.write_pieces.Goals as goal

pub loop-dot-preserved : goal.loop-dot-preserved
loop-dot-preserved c =
    let S = c.args.store.now.slots in
    let i = c.loop-dot.dot-index in
    let dots = c.args.dots.now in
    let dot = c.dot-item.result in
    let w = c.in_ok-pending.ensures in
    let before = c.loop-dot.writer in
    record {
      written = w.written (items_at S (drop (i + 1) dots))
          ∙ ap (λ items. before ++ pieces_bytes (pieces_behind c.loop-dot.pending items))
          (sym (items_at-next S dot (drop (i + 1) dots))
          ∙ ap (λ d. items_at S (d ∷ drop (i + 1) dots)) c.dot-item.is
          ∙ ap (items_at S) (sym (drop_more dots i dot c.loop-dot-test.true)))
          ∙ c.loop-dot.invariant.written;
      fits = more_fits S dots i dot c.loop-dot-test.true c.dot-item.is c.loop-dot.invariant.fits
          w.fits;
    }
