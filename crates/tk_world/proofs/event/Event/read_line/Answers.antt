use Rattle.std.proofs.Common.{◌≡◌, ◌<◌, length, rules}
use borrow.Author.Tests.{tests}
use Rattle.std.proofs.lemmas.Iterator.{cases_from_any, YieldsList-from_slice}
use Rattle.std.proofs.lemmas.Bool.Decides.{when_true, when_false}
use Rattle.std.proofs.lemmas.Result.{IfOk-weaker}
use Rattle.std.specs.List.{slice_split}
use Rattle.tk_world.specs.Fields.{is_space}
use Rattle.tk_world.specs.Line.{texts, IsEventLine, IsEventForm}
use Rattle.tk_world.proofs.EventForms.{line_there, line_bad}
use Rattle.tk_world.proofs.event.Event.read_line.Goals as goal

pub returns-then-any-clause-malformed : goal.returns-then-any-clause-malformed
returns-then-any-clause-malformed c _ =
    let fields = c.in_ok-fields.fields.items in
    let parts : texts fields ≡ slice_split is_space c.args.line.now = search rules in
    let cases = cases_from_any _ _ _ (λ f. length f.now ≡ 0)
    (λ f. 0 < length f.now) c.any.ensures.ran (YieldsList-from_slice fields (cc))
    (λ x q k. search (rules, tests)) (λ x q k. search (rules, tests)) in
    line_bad c.args.line.now fields parts (when_true _ _ c.if-any.true cases)

pub returns-clause-found : goal.returns-clause-found
returns-clause-found c =
    let fields = c.in_ok-fields.fields.items in
    let parts : texts fields ≡ slice_split is_space c.args.line.now = search rules in
    let cases = cases_from_any _ _ _ (λ f. length f.now ≡ 0)
    (λ f. 0 < length f.now) c.any.ensures.ran (YieldsList-from_slice fields (cc))
    (λ x q k. search (rules, tests)) (λ x q k. search (rules, tests)) in
    let each = when_false _ _ c.if-any.false cases in
    IfOk-weaker c.event_of.result (IsEventForm (texts c.deref-2.result.now))
    (IsEventLine c.args.line.now)
    (λ e form. line_there c.args.line.now fields parts e (search rules) each
    (rw c.deref-2.ensures.value at form)) c.event_of.ensures.found
