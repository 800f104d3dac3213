use Rattle.std.proofs.Common.{sym, subst, Option, Some, None}
use Rattle.tk_handle.specs.declared.dot.Dot.{Dot}
use Rattle.tk_dots.specs.Runs.{DotSet, IsNextIn, IsRightAbove, run_set}
use Rattle.tk_dots.proofs.RunWalkLaws.{next_first, next_right}
use Rattle.tk_dots.proofs.runs.DotRuns.next_after.Goals as goal
use Rattle.std.proofs.lemmas.Option.{none-some as none_is, same_Some as some_same}

pub returns-in-Some-right_above : goal.returns-in-Some-right_above
returns-in-Some-right_above c =
    subst (λ (o : Option Dot). IsNextIn c.args.self.now o (Some c.in-Some-right_above.next))
    (sym c.in-Some.is)
    (subst (λ (s : DotSet). IsNextIn s (Some c.in-Some.dot) (Some c.in-Some-right_above.next))
    c.self.view_is
    (next_right c.self.inside.runs c.self.invariant c.in-Some.dot c.in-Some-right_above.next
    (subst (λ (s : DotSet). IsRightAbove s c.in-Some.dot (Some c.in-Some-right_above.next))
    (sym c.self.view_is) c.in-Some-right_above.ensures)))

pub returns-in-None-right_above : goal.returns-in-None-right_above
returns-in-None-right_above c =
    subst (λ (o : Option Dot). IsNextIn c.args.self.now o c.first_above.result) (sym c.in-Some.is)
    (subst (λ (s : DotSet). IsNextIn s (Some c.in-Some.dot) c.first_above.result) c.self.view_is
    (next_first c.self.inside.runs c.self.invariant (Some c.in-Some.dot)
    (λ d is. subst (λ (q : Dot). IsRightAbove (run_set c.self.inside.runs.entries) q None)
    (some_same c.in-Some.dot d is)
    (subst (λ (s : DotSet). IsRightAbove s c.in-Some.dot None)
    (sym c.self.view_is) c.in-None-right_above.ensures))
    c.first_above.result c.first_above.ensures))

pub returns-in-None : goal.returns-in-None
returns-in-None c =
    subst (λ (o : Option Dot). IsNextIn c.args.self.now o c.first_above-in-None.result)
    (sym c.in-None.is)
    (subst (λ (s : DotSet). IsNextIn s None c.first_above-in-None.result) c.self.view_is
    (next_first c.self.inside.runs c.self.invariant None (λ d is. absurd (none_is d is))
    c.first_above-in-None.result c.first_above-in-None.ensures))
