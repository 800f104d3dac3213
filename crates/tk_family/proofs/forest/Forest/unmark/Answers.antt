use Rattle.std.proofs.Common.{ap, ◌∙◌}
use Rattle.std.specs.FinSet as set
use Rattle.tk_family.specs.ForestFacts.{ForestFacts}
use Rattle.tk_family.proofs.Modelling.{links_kept, mark_gone}
use Rattle.tk_family.proofs.forest.Forest.unmark.Goals as goal

pub returns-clause-links : goal.returns-clause-links
returns-clause-links c = links_kept c.self.inside.rows c.unmark_token.new.rows
    c.unmark_token.ensures.unmarks.links
    ∙ ap (λ (f : ForestFacts). f.links) c.self.view_is

pub returns-clause-marks : goal.returns-clause-marks
returns-clause-marks c = mark_gone c.self.inside.rows c.unmark_token.new.rows c.args.token
    c.unmark_token.ensures.unmarks
    ∙ ap (λ (f : ForestFacts). set.remove f.marks c.args.token) c.self.view_is
