use Rattle.std.proofs.Common.{◌∷◌, ◌++◌, filter, length, sym, ap, ◌∙◌}
use Rattle.std.specs.Int.{w16}
use Rattle.std.specs.List.{flat_map}
use Rattle.std.proofs.lemmas.Result.{IfOk-weaker}
use Rattle.tk_format.specs.Format.{number}
use Rattle.tk_bundle.specs.Bundle.{magic, horizon_bytes}
use Rattle.tk_bundle.specs.Items.{item}
use Rattle.tk_bundle.specs.News.{counts}
use Rattle.tk_bundle.specs.Pieces.{grouped}
use Rattle.tk_bundle.specs.RunPage.{pieces_bytes}
use Rattle.tk_bundle.proofs.FitLaws.{items_fit}
use Rattle.tk_bundle.proofs.NewsLaws.{record_bytes, runs_record_bytes}
use Rattle.tk_bundle.proofs.changes.record_of.Goals as goal

pub runs_record-requires-clause-fits : goal.runs_record-requires-clause-fits
runs_record-requires-clause-fits c = items_fit c.args.sent.now c.requires

pub returns-then-has_runs : goal.returns-then-has_runs
returns-then-has_runs c =
    let S = c.args.store.now.slots in
    let b = c.args.sent.now in
    let kept = grouped (filter (counts S) b.items) in
    IfOk-weaker c.runs_record.result _ _
    (λ bytes is. is
    ∙ ap (λ v. magic ++ (v ∷ horizon_bytes b.horizon
    ++ ((number w16).spell (length kept) ++ pieces_bytes kept))) c.version_kept-version.ensures
    ∙ sym (runs_record_bytes S b (sym c.has_runs.ensures ∙ c.if-has_runs.true)))
    c.runs_record.ensures

pub returns : goal.returns
returns c =
    let S = c.args.store.now.slots in
    let b = c.args.sent.now in
    let kept = filter (counts S) b.items in
    IfOk-weaker c.record.result _ _
    (λ bytes is. is
    ∙ ap (λ v. magic ++ (v ∷ horizon_bytes b.horizon
    ++ ((number w16).spell (length kept) ++ flat_map item.spell kept)))
    c.version_kept-version.ensures
    ∙ sym (record_bytes S b (sym c.has_runs.ensures ∙ c.if-has_runs.false)))
    c.record.ensures
