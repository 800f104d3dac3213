use Rattle.std.proofs.Common.{◌≡◌, ap, sym, ◌∙◌, true}
use Rattle.std.specs.FinMap as map
use Rattle.tk_handle.specs.declared.dot.Dot.{Dot}
use Rattle.tk_family.specs.Dots.{dot_eq, has}
use Rattle.std.specs.List.{IsDistinct}
use Rattle.tk_family.specs.Rows.{table}
use Rattle.tk_family.specs.Puts.{Puts, NothingSeen}
use Rattle.tk_family.specs.Tops.{IsRaised}
use Rattle.tk_family.specs.ForestFacts.{ForestFacts, links_at}
use Rattle.tk_family.specs.View.{seen, seen_links, seen_marks}
use Rattle.tk_family.proofs.Viewing.{get-links, seen_same, links_put, marks_same}
use Rattle.tk_family.proofs.Modelling.{raised_seen, raised_back, raised_all, if_ok}
use Rattle.tk_handle.proofs.TestLaws.{err_then}
use Rattle.tk_family.proofs.forest.Forest.put.Goals as goal

pub put_within-requires-clause-free : goal.put_within-requires-clause-free
put_within-requires-clause-free c = sym (get-links c.self.inside.rows c.args.dot)
    ∙ (ap (λ (v : ForestFacts). map.get v.links c.args.dot) c.self.view_is ∙ c.requires)

pub returns-clause-links : goal.returns-clause-links
returns-clause-links c =
    let m = c.self.inside.rows in
    let n = c.put_within.new.rows in
    if_ok c.put_within.result (λ v. Puts (table m) (table n) c.args.dot c.args.link v.items)
    (λ v. seen_links (map.entries n) ≡ map.insert c.args.self.now.links c.args.dot c.args.link)
    c.put_within.ensures.ok
    (λ v p. links_put m n c.args.dot c.args.link p.links
    ∙ ap (λ (f : ForestFacts). map.insert f.links c.args.dot c.args.link) c.self.view_is)

pub returns-clause-marks : goal.returns-clause-marks
returns-clause-marks c =
    let m = c.self.inside.rows in
    let n = c.put_within.new.rows in
    if_ok c.put_within.result (λ v. Puts (table m) (table n) c.args.dot c.args.link v.items)
    (λ v. seen_marks (map.entries n) ≡ c.args.self.now.marks) c.put_within.ensures.ok
    (λ v p. marks_same m n p.marks ∙ ap (λ (f : ForestFacts). f.marks) c.self.view_is)

pub returns-clause-raised : goal.returns-clause-raised
returns-clause-raised c =
    let m = c.self.inside.rows in
    let n = c.put_within.new.rows in
    if_ok c.put_within.result (λ v. Puts (table m) (table n) c.args.dot c.args.link v.items)
    (λ v. (q : Dot) → has v.items q ≡ true
    → IsRaised (links_at c.args.self.now) (links_at (seen n)) q) c.put_within.ensures.ok
    (λ v p q h. raised_seen m n c.args.self.now c.self.view_is q (p.raised_now q h))

pub returns-clause-all_raised : goal.returns-clause-all_raised
returns-clause-all_raised c =
    let m = c.self.inside.rows in
    let n = c.put_within.new.rows in
    if_ok c.put_within.result (λ v. Puts (table m) (table n) c.args.dot c.args.link v.items)
    (λ v. (q : Dot) → IsRaised (links_at c.args.self.now) (links_at (seen n)) q
    → has v.items q ≡ true) c.put_within.ensures.ok
    (λ v p q r. raised_all (table m) (table n) c.args.dot c.args.link v.items p q
    (raised_back m n c.args.self.now c.self.view_is q r))

pub returns-clause-err : goal.returns-clause-err
returns-clause-err c =
    let m = c.self.inside.rows in
    let n = c.put_within.new.rows in
    err_then c.put_within.result (NothingSeen (table m) (table n)) (seen n ≡ c.args.self.now)
    c.put_within.ensures.err (λ s. seen_same m n s.links s.marks ∙ c.self.view_is)

pub returns-clause-distinct : goal.returns-clause-distinct
returns-clause-distinct c = if_ok c.put_within.result
    (λ v. Puts (table c.self.inside.rows) (table c.put_within.new.rows) c.args.dot c.args.link
    v.items) (λ v. IsDistinct dot_eq v.items) c.put_within.ensures.ok (λ v p. p.distinct)
