use Rattle.std.proofs.Common.{◌≡◌, Ok, Err, rules, subst}
use Rattle.tk_region.specs.RegionFields.{RegionFields}
use Rattle.tk_store.specs.StoreFields.{empty_store}
use Rattle.tokend.specs.CheckRun.{LoadsSources, max_settings}
use Rattle.tokend.proofs.CheckLaws.{check_fault}
use Rattle.tokend.proofs.check.load_all.Goals as goal

pub returns-in-Ok-clause-loaded : goal.returns-in-Ok-clause-loaded
returns-in-Ok-clause-loaded g c =
    let first : RegionFields = record {
      number = c.args.check.now.region;
      settings = max_settings;
      facts = empty_store;
    } in
    let same : c.new-region.result ≡ first = search rules in (
      c.load_sources-loaded.new.region,
      subst (λ r. LoadsSources c.args.check.now.sources (g.I.Read.remaining c.args.input.now) r
          (Ok c.in-Ok.cut) c.load_sources-loaded.new.region) same c.in-Ok.ensures,
      c.len-facts.ensures,
    )

pub returns-in-Err-clause-fault : goal.returns-in-Err-clause-fault
returns-in-Err-clause-fault g c =
    let first : RegionFields = record {
      number = c.args.check.now.region;
      settings = max_settings;
      facts = empty_store;
    } in
    let same : c.new-region.result ≡ first = search rules in
    check_fault c.args.check.now (g.I.Read.remaining c.args.input.now) c.in-Err.fault
    c.load_sources-loaded.new.region
    (subst (λ r.
    LoadsSources c.args.check.now.sources (g.I.Read.remaining c.args.input.now) r
    (Err c.in-Err.fault) c.load_sources-loaded.new.region) same c.in-Err.ensures)
