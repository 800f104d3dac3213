use Rattle.std.proofs.Common.{◌≡◌, nat_lt, length, map, ap, ◌∙◌, take}
use Rattle.std.proofs.lemmas.Result.{IfOk-weaker, on_ok_weaker}
use Rattle.tk_store.specs.Beyond.{beyond}
use Rattle.tk_store.specs.FactSet.{dot_of}
use Rattle.tk_bundle.proofs.PageLaws.{dots_are, page_is, page_fits, page_more}
use Rattle.tk_bundle.proofs.page.page_within.Goals as goal

pub returns-clause-page : goal.returns-clause-page
returns-clause-page c =
    let S = c.args.store.now.slots in
    let v = c.args.vector.now in
    let after = c.args.after in
    let dots : c.deref.result.now ≡ map dot_of (take c.args.limit (beyond S v after)) =
    c.deref.ensures.value ∙ c.truncate.ensures.items ∙ ap (take c.args.limit) c.in_ok-dots.ensures
    ∙ dots_are S v after c.args.limit in
    let more : nat_lt c.args.limit (length c.as_slice.result.now)
    ≡ nat_lt c.args.limit (length (beyond S v after)) =
    ap (λ xs. nat_lt c.args.limit (length xs)) (c.as_slice.ensures.value ∙ c.in_ok-dots.ensures)
    ∙ page_more (beyond S v after) c.args.limit in
    IfOk-weaker c.page_at.result _ _
    (λ page at. page_is page c.args.store.now v after c.args.limit c.deref.result.now _ dots more
    at) c.page_at.ensures.page

pub returns-clause-fits : goal.returns-clause-fits
returns-clause-fits c =
    let S = c.args.store.now.slots in
    let v = c.args.vector.now in
    let after = c.args.after in
    let dots : c.deref.result.now ≡ map dot_of (take c.args.limit (beyond S v after)) =
    c.deref.ensures.value ∙ c.truncate.ensures.items ∙ ap (take c.args.limit) c.in_ok-dots.ensures
    ∙ dots_are S v after c.args.limit in
    on_ok_weaker c.page_at.result
    (λ fits. page_fits c.args.store.now v after c.args.limit c.deref.result.now c.requires dots
    c.page_at.ensures.horizon fits) c.page_at.ensures.fits
