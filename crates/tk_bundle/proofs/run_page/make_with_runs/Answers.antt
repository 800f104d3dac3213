use Rattle.std.proofs.Common.{◌≡◌, ◌+◌, nat_lt, length, map, take, None, sym, ap, subst, ◌∙◌, arith}
use Rattle.std.specs.List.{AllByRecursion}
use Rattle.std.proofs.lemmas.Result.{IfOk-weaker, on_ok_weaker}
use Rattle.std.proofs.lemmas.List.{length-map}
use Rattle.tk_store.specs.Beyond.{beyond}
use Rattle.tk_store.specs.FactSet.{dot_of}
use Rattle.tk_bundle.specs.Items.{item}
use Rattle.tk_bundle.specs.Pieces.{grouped}
use Rattle.tk_bundle.specs.PieceBytes.{max_pieces, max_run_items}
use Rattle.tk_bundle.specs.PieceCounts.{fitting, marked_in}
use Rattle.tk_bundle.specs.RunPage.{run_items}
use Rattle.tk_bundle.proofs.PieceCountLaws.{first_few}
use Rattle.tk_bundle.proofs.RunPageLaws.{found, run_at, run_count, run_dots, run_short}
use Rattle.tk_bundle.proofs.RunPageLaws.{run_more}
use Rattle.tk_bundle.proofs.RunPageLaws.{page_of_dots, run_page_fits}
use Rattle.tk_bundle.proofs.run_page.make_with_runs.Goals as goal

pub pieced_page-requires-clause-known : goal.pieced_page-requires-clause-known
pieced_page-requires-clause-known c =
    let P = c.args.store.now in
    let v = c.args.vector.now in
    let after = c.args.after in
    let known = map dot_of (beyond P.slots v after) in
    let count : c.fitting-count.result ≡ fitting max_pieces None (map (marked_in P.slots)
    (take max_run_items (take (max_run_items + 1) known))) =
    c.fitting-count.ensures
    ∙ ap (λ dots. fitting max_pieces None (map (marked_in P.slots) (take max_run_items dots)))
    (c.deref.ensures.value ∙ c.in_ok-dots.ensures) in
    let dots : c.deref-2.result.now ≡ map dot_of (run_items P v after) =
    c.deref-2.ensures.value ∙ c.truncate.ensures.items
    ∙ ap (take c.fitting-count.result) c.in_ok-dots.ensures
    ∙ run_dots P v after c.fitting-count.result count in
    ap (map dot_of) (run_at P v after c.deref-2.result.now dots) ∙ sym dots

pub pieced_page-requires-clause-short : goal.pieced_page-requires-clause-short
pieced_page-requires-clause-short c =
    let P = c.args.store.now in
    let v = c.args.vector.now in
    let after = c.args.after in
    let known = map dot_of (beyond P.slots v after) in
    let count : c.fitting-count.result ≡ fitting max_pieces None (map (marked_in P.slots)
    (take max_run_items (take (max_run_items + 1) known))) =
    c.fitting-count.ensures
    ∙ ap (λ dots. fitting max_pieces None (map (marked_in P.slots) (take max_run_items dots)))
    (c.deref.ensures.value ∙ c.in_ok-dots.ensures) in
    let dots : c.deref-2.result.now ≡ map dot_of (run_items P v after) =
    c.deref-2.ensures.value ∙ c.truncate.ensures.items
    ∙ ap (take c.fitting-count.result) c.in_ok-dots.ensures
    ∙ run_dots P v after c.fitting-count.result count in
    omega (
      arith,
      ap (λ ds. length ds) dots,
      length-map (run_items P v after) dot_of,
      run_short P v after,
    )

pub pieced_page-requires-clause-few : goal.pieced_page-requires-clause-few
pieced_page-requires-clause-few c =
    let P = c.args.store.now in
    let v = c.args.vector.now in
    let after = c.args.after in
    let known = map dot_of (beyond P.slots v after) in
    let count : c.fitting-count.result ≡ fitting max_pieces None (map (marked_in P.slots)
    (take max_run_items (take (max_run_items + 1) known))) =
    c.fitting-count.ensures
    ∙ ap (λ dots. fitting max_pieces None (map (marked_in P.slots) (take max_run_items dots)))
    (c.deref.ensures.value ∙ c.in_ok-dots.ensures) in
    let dots : c.deref-2.result.now ≡ map dot_of (run_items P v after) =
    c.deref-2.ensures.value ∙ c.truncate.ensures.items
    ∙ ap (take c.fitting-count.result) c.in_ok-dots.ensures
    ∙ run_dots P v after c.fitting-count.result count in
    omega (
      arith,
      ap (λ items. length (grouped items)) (run_at P v after c.deref-2.result.now dots),
      first_few max_pieces (found P v after),
    )

pub returns-clause-page : goal.returns-clause-page
returns-clause-page c =
    let P = c.args.store.now in
    let v = c.args.vector.now in
    let after = c.args.after in
    let known = map dot_of (beyond P.slots v after) in
    let count : c.fitting-count.result ≡ fitting max_pieces None (map (marked_in P.slots)
    (take max_run_items (take (max_run_items + 1) known))) =
    c.fitting-count.ensures
    ∙ ap (λ dots. fitting max_pieces None (map (marked_in P.slots) (take max_run_items dots)))
    (c.deref.ensures.value ∙ c.in_ok-dots.ensures) in
    let dots : c.deref-2.result.now ≡ map dot_of (run_items P v after) =
    c.deref-2.ensures.value ∙ c.truncate.ensures.items
    ∙ ap (take c.fitting-count.result) c.in_ok-dots.ensures
    ∙ run_dots P v after c.fitting-count.result count in
    let size : c.fitting-count.result ≡ length (run_items P v after) =
    count ∙ run_count P v after in
    let more : nat_lt c.fitting-count.result (length c.as_slice.result.now)
    ≡ nat_lt (length (run_items P v after)) (length (beyond P.slots v after)) =
    ap (λ xs. nat_lt c.fitting-count.result (length xs))
    (c.as_slice.ensures.value ∙ c.in_ok-dots.ensures)
    ∙ ap (λ n. nat_lt n (length (take (max_run_items + 1) known))) size
    ∙ run_more (beyond P.slots v after) (length (run_items P v after)) (run_short P v after) in
    IfOk-weaker c.pieced_page.result _ _
    (λ page at. page_of_dots page P v after c.deref-2.result.now _ dots more at)
    c.pieced_page.ensures.page

pub returns-clause-fits : goal.returns-clause-fits
returns-clause-fits c =
    let P = c.args.store.now in
    let v = c.args.vector.now in
    let after = c.args.after in
    let known = map dot_of (beyond P.slots v after) in
    let count : c.fitting-count.result ≡ fitting max_pieces None (map (marked_in P.slots)
    (take max_run_items (take (max_run_items + 1) known))) =
    c.fitting-count.ensures
    ∙ ap (λ dots. fitting max_pieces None (map (marked_in P.slots) (take max_run_items dots)))
    (c.deref.ensures.value ∙ c.in_ok-dots.ensures) in
    let dots : c.deref-2.result.now ≡ map dot_of (run_items P v after) =
    c.deref-2.ensures.value ∙ c.truncate.ensures.items
    ∙ ap (take c.fitting-count.result) c.in_ok-dots.ensures
    ∙ run_dots P v after c.fitting-count.result count in
    on_ok_weaker c.pieced_page.result
    (λ fits. run_page_fits P v after c.pieced_page.ensures.horizon
    (subst (AllByRecursion item.Fits) (run_at P v after c.deref-2.result.now dots) fits))
    c.pieced_page.ensures.fits
