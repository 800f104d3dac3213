use Rattle.std.proofs.Common.{sym, subst, Some}
use Rattle.tk_dots.specs.Marks.{MarkedMap, AreApart}
use Rattle.tk_dots.proofs.MarkLaws.{put_marked, put_apart}
use Rattle.tk_dots.proofs.marks.MarkMap.put.Goals as goal
use Rattle.tk_handle.proofs.TestLaws.{either_way, on_ok}

pub invariant_of-self : goal.invariant_of-self
invariant_of-self g c = either_way {R = AreApart c.put.new.self c.self.inside.runs} c.put.result
    c.put.ensures.ok c.put.ensures.err
    (λ is. put_apart c.self.inside.pages c.self.inside.runs c.args.self.now c.self.view_is
    c.put.new.self c.args.dot (Some c.args.value) c.requires is c.self.invariant)
    (λ same. subst (λ (m : MarkedMap g.row.V.Denot). AreApart m c.self.inside.runs)
    (sym same) c.self.invariant)

pub returns-clause-ok : goal.returns-clause-ok
returns-clause-ok g c = on_ok c.put.result c.put.ensures.ok (λ is.
    put_marked c.self.inside.pages c.self.inside.runs c.args.self.now c.self.view_is c.put.new.self
    c.args.dot (Some c.args.value) c.requires is)
