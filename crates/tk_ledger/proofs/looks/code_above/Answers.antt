use Rattle.std.proofs.Common.{◌∙◌}
use Rattle.tk_family.specs.ForestFacts.{links_at, marks_at}
use Rattle.tk_ledger.proofs.ForestLaws.{top_code}
use Rattle.tk_ledger.proofs.looks.code_above.Goals as goal

pub returns : goal.returns
returns c = c.code_of_top.ensures
    ∙ top_code (links_at c.args.forest.now) (marks_at c.args.forest.now) c.args.dot c.top.result
    c.top.ensures.top
