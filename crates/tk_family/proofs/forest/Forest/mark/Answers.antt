use Rattle.std.proofs.Common.{◌≡◌, ap, sym, ◌∙◌, subst, IsSome}
use Rattle.std.specs.FinMap as map
use Rattle.std.specs.FinSet as set
use Rattle.tk_family.specs.Rows.{table}
use Rattle.tk_family.specs.Puts.{MarksOne, NothingSeen}
use Rattle.tk_family.specs.ForestFacts.{ForestFacts}
use Rattle.tk_family.specs.View.{seen, seen_marks}
use Rattle.tk_family.proofs.Viewing.{get-links, seen_same}
use Rattle.tk_family.proofs.Modelling.{marks_one, links_kept}
use Rattle.tk_handle.proofs.TestLaws.{either_way, err_then, ok_then}
use Rattle.tk_family.proofs.forest.Forest.mark.Goals as goal

pub returns-clause-links : goal.returns-clause-links
returns-clause-links c =
    let m = c.self.inside.rows in
    let n = c.mark_within.new.rows in
    either_way c.mark_within.result c.mark_within.ensures.ok c.mark_within.ensures.err
    (λ p. links_kept m n p.links ∙ ap (λ (f : ForestFacts). f.links) c.self.view_is)
    (λ s. links_kept m n s.links ∙ ap (λ (f : ForestFacts). f.links) c.self.view_is)

pub returns-clause-marks : goal.returns-clause-marks
returns-clause-marks c =
    let m = c.self.inside.rows in
    let n = c.mark_within.new.rows in
    ok_then c.mark_within.result (MarksOne (table m) (table n) c.args.token)
    (seen_marks (map.entries n) ≡ set.insert c.args.self.now.marks c.args.token)
    c.mark_within.ensures.ok
    (λ p. marks_one m n c.args.token p
    ∙ ap (λ (f : ForestFacts). set.insert f.marks c.args.token) c.self.view_is)

pub returns-clause-present : goal.returns-clause-present
returns-clause-present c = λ some. c.mark_within.ensures.present
    (subst IsSome
    (sym (ap (λ (f : ForestFacts). map.get f.links c.args.token.dot) c.self.view_is)
    ∙ get-links c.self.inside.rows c.args.token.dot) some)

pub returns-clause-err : goal.returns-clause-err
returns-clause-err c =
    let m = c.self.inside.rows in
    let n = c.mark_within.new.rows in
    err_then c.mark_within.result (NothingSeen (table m) (table n)) (seen n ≡ c.args.self.now)
    c.mark_within.ensures.err (λ s. seen_same m n s.links s.marks ∙ c.self.view_is)
