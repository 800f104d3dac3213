use Rattle.std.proofs.Common.{ℕ, List, [], append-nil, refl, subst}
use Rattle.tk_edge.specs.Heard.{IsArrival}
use Rattle.tk_edge.proofs.edge.hear_whole.Goals as goal

pub returns-in-Ok-Came-clause-came : goal.returns-in-Ok-Came-clause-came
returns-in-Ok-Came-clause-came c =
    let front = rw c.in-Ok-Came.field-0-is at c.in-Ok-Came.ensures in
    subst (λ (x : List ℕ). IsArrival c.args.reach x c.in-Ok-Came.came) (append-nil c.args.bytes.now)
    (front.means [] (λ _. refl))

pub returns-in-Ok-Came-clause-may : goal.returns-in-Ok-Came-clause-may
returns-in-Ok-Came-clause-may c =
    let front = rw c.in-Ok-Came.field-0-is at c.in-Ok-Came.ensures in front.may
