use Rattle.std.proofs.Common.{◌++◌, Some}
use Rattle.tk_edge.proofs.FrontLaws.{front_arrives}
use Rattle.tk_edge.proofs.serving.serve_front_open.Goals as goal

pub returns-in-Ok-clause-served : goal.returns-in-Ok-clause-served
returns-in-Ok-clause-served g c =
    let front = rw c.in-Ok-Came.field-0-is at c.in-Ok-Came.ensures in (
      (c.in-Ok-Came.came, front),
      λ tail follows.
          c.in-Ok.ensures.served c.args.reach (Some (c.args.bytes.now ++ tail))
          (front_arrives c.args.reach c.args.is_over c.args.bytes.now c.in-Ok-Came.came
          c.in-Ok-Came.taken
          front tail follows),
    )

pub returns-in-Err-serve_arrival-clause-served : goal.returns-in-Err-serve_arrival-clause-served
returns-in-Err-serve_arrival-clause-served g c =
    let front = rw c.in-Ok-Came.field-0-is at c.in-Ok-Came.ensures in
    λ tail follows. c.in-Err-serve_arrival.ensures.served c.args.reach
    (Some (c.args.bytes.now ++ tail))
    (front_arrives c.args.reach c.args.is_over c.args.bytes.now c.in-Ok-Came.came c.in-Ok-Came.taken
    front tail follows)
