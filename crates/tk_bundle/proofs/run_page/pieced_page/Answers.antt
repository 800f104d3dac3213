use Rattle.std.proofs.Common.{sym, ◌∙◌, arith}
use Rattle.std.proofs.lemmas.Result.{IfOk-weaker}
use Rattle.tk_bundle.proofs.RunPageLaws.{counted_at, lone_page, runs_page}
use Rattle.tk_bundle.proofs.run_page.pieced_page.Goals as goal

pub page_at-requires : goal.page_at-requires
page_at-requires c =
    let same = counted_at c.args.store.now.slots c.args.dots.now c.requires.known in
    omega (arith, same, c.requires.few, c.count_pieces-pieces.ensures, c.if-pieces-dots.true)

pub returns-then-pieces-dots-clause-page : goal.returns-then-pieces-dots-clause-page
returns-then-pieces-dots-clause-page c =
    let same = counted_at c.args.store.now.slots c.args.dots.now c.requires.known in
    IfOk-weaker c.page_at.result _ _
    (λ page at. lone_page page c.args.store.now c.args.dots.now c.args.more c.requires.known
    (sym (c.count_pieces-pieces.ensures ∙ same) ∙ c.if-pieces-dots.true) at) c.page_at.ensures.page

pub returns-clause-page : goal.returns-clause-page
returns-clause-page c =
    let same = counted_at c.args.store.now.slots c.args.dots.now c.requires.known in
    IfOk-weaker c.run_page_at.result _ _
    (λ page at. runs_page page c.args.store.now c.args.dots.now c.count_pieces-pieces.result
    c.args.more c.requires.known (c.count_pieces-pieces.ensures ∙ same) c.if-pieces-dots.false at)
    c.run_page_at.ensures.page
