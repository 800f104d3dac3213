use Rattle.std.proofs.Common.{◌∙◌, ap, sym, ◌⊎◌, inl, inr, Result, Ok, Err, OnOk, OnErr}
use Rattle.std.specs.FinSet as set
use Rattle.tk_dots.specs.Runs.{DotSet}
use Rattle.tk_dots.proofs.RunLaws.{same_runs, has_dot, insert_held}
use Rattle.tk_dots.proofs.RunAddLaws.{added_runs, added}
use Rattle.tk_dots.proofs.runs.DotRuns.add.Goals as goal
use Rattle.tk_handle.proofs.TestLaws.{on_ok}

-- a result has what holds of a success, or what holds of an error
either : {A E P Q : Type 0} (r : Result A E) → OnOk r P → OnErr r Q → P ⊎ Q
either (Ok a) p q = inl p
either (Err e) p q = inr q

pub invariant_of-self : goal.invariant_of-self
invariant_of-self c = elim (either c.put_run.result c.put_run.ensures.ok c.put_run.ensures.err) [
  | inl joined ↦ added_runs c.self.inside.runs c.put_run.new.runs c.self.invariant c.args.dot
      c.in-Some.first.serial c.end_above-end.result
      c.in-Some.ensures.0 c.in-Some.ensures.2 c.end_above-end.ensures.end joined
      c.put_run.ensures.ordered c.in-Some.ensures.3 c.end_above-end.ensures.high
  | inr same ↦ same_runs c.self.inside.runs c.put_run.new.runs c.self.invariant same
]

pub returns-in-Some-clause-ok : goal.returns-in-Some-clause-ok
returns-in-Some-clause-ok c = on_ok c.put_run.result c.put_run.ensures.ok (λ joined.
    added c.self.inside.runs c.put_run.new.runs c.self.invariant c.args.dot c.in-Some.first.serial
    c.end_above-end.result
    c.in-Some.ensures.0 c.in-Some.ensures.2 c.end_above-end.ensures.end joined
    c.put_run.ensures.ordered
    ∙ ap (λ (s : DotSet). set.insert s c.args.dot) c.self.view_is)

pub returns-in-None-clause-ok : goal.returns-in-None-clause-ok
returns-in-None-clause-ok c = insert_held c.args.self.now c.args.dot
    (ap (λ (s : DotSet). set.contains s c.args.dot) (sym c.self.view_is)
    ∙ has_dot c.self.inside.runs c.args.dot c.in-None.ensures)
