use Rattle.std.proofs.Common.{IfOk, ap, subst, ◌∙◌}
use Rattle.tk_bundle.specs.Page as pages
use Rattle.tk_bundle.specs.RunPage.{run_page_of}
use Rattle.tk_store.specs.StoreFields.{StoreFields}
use Rattle.tk_region.specs.RegionFields.{RegionFields}
use Rattle.tk_region.proofs.region.Region.page_with_runs.Goals as goal

pub returns-clause-page : goal.returns-clause-page
returns-clause-page c =
    subst (λ (P : StoreFields).
    IfOk c.make_with_runs.result
    (λ page. pages.IsPageOf page (run_page_of P c.args.vector.now c.args.after)))
    (c.store.ensures ∙ ap (λ (r : RegionFields). r.facts) c.self.view_is)
    c.make_with_runs.ensures.page
