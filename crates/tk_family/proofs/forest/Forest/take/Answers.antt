use Rattle.std.proofs.Common.{ap, sym, ◌∙◌, subst, IsSome, cond, false}
use Rattle.std.specs.FinMap as map
use Rattle.std.specs.FinSet as set
use Rattle.tk_family.specs.Dots.{dot_eq}
use Rattle.tk_family.specs.ForestFacts.{ForestFacts}
use Rattle.tk_family.proofs.Viewing.{get-links, contains-marks, links_taken}
use Rattle.tk_family.proofs.forest.Forest.take.Goals as goal

pub take_at-requires-clause-here : goal.take_at-requires-clause-here
take_at-requires-clause-here c = subst IsSome
    (sym (sym (get-links c.self.inside.rows c.args.dot)
    ∙ ap (λ (v : ForestFacts). map.get v.links c.args.dot) c.self.view_is)) c.requires

pub returns-clause-links : goal.returns-clause-links
returns-clause-links c =
    let m = c.self.inside.rows in
    let n = c.take_at.new.rows in
    links_taken m n c.args.dot c.take_at.ensures.takes.links
    ∙ ap (λ (f : ForestFacts). map.remove f.links c.args.dot) c.self.view_is

pub returns-clause-marks : goal.returns-clause-marks
returns-clause-marks c = λ k.
    let m = c.self.inside.rows in
    let n = c.take_at.new.rows in
    contains-marks n k
    ∙ (c.take_at.ensures.takes.marks k
    ∙ ap (λ b. cond (dot_eq c.args.dot k.dot) false b)
    (sym (contains-marks m k) ∙ ap (λ (f : ForestFacts). set.contains f.marks k) c.self.view_is))
