use Rattle.std.proofs.Common.{◌≡◌, IfSome, subst}
use Rattle.tk_edge.specs.declared.front.Taken.{Taken}
use Rattle.tokend.specs.Decisions.{reach_by}
use Rattle.tokend.specs.Repeating.{IsAsked}
use Rattle.tokend.specs.Repeats.{IsRefresh}
use Rattle.tokend.specs.declared.repeating.Refresh.{Refresh}
use Rattle.tokend.proofs.server.Server.ask.Goals as goal

pub returns-in-Ok-Some : goal.returns-in-Ok-Some
returns-in-Ok-Some c =
    let server = c.args.self.now in
    let reach : c.reached-reach.result
    ≡ reach_by server.edge.terms server.has_inner server.is_inner = c.reached-reach.ensures in
    let came = subst (λ o.
    IfSome o
    (λ (it : Refresh × Taken).
    IsRefresh c.reached-reach.result c.args.input.now c.args.is_over it.0 it.1))
    c.in-Ok-Some.field-0-is c.in-Ok-Some.ensures in
    subst (λ r. IsAsked server r c.args.input.now c.args.is_over c.ask_refresh.result) reach
    (c.ask_refresh.ensures c.reached-reach.result c.args.input.now c.args.is_over came)
