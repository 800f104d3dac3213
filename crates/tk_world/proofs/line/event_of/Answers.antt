use Rattle.std.proofs.Common.{sym, ap, subst, ◌∙◌, IfOk, arith, rules}
use borrow.Author.Tests.{tests}
use Rattle.std.proofs.lemmas.Grind.{common_steps}
use Rattle.tk_format.specs.Decimals.{decimal_in}
use Rattle.tk_world.specs.Line.{IsEventForm, IsNoEventForm}
use Rattle.tk_world.proofs.EventForms.{open_there, deliver_there, prune_there, with_rest}
use Rattle.tk_world.proofs.EventForms.{pull_texts, slice_texts, open_bad, deliver_bad_region}
use Rattle.tk_world.proofs.EventForms.{prune_bad_region, prune_bad_moment, IsOther, request_bad}
use Rattle.tk_world.proofs.EventForms.{no_form}
use Rattle.tk_world.proofs.line.event_of.Goals as goal

pub returns-in_default-region-clause-malformed : goal.returns-in_default-region-clause-malformed
returns-in_default-region-clause-malformed c _ =
    prune_bad_region c.args.fields.now (omega arith) (search (rules, tests))
    (sym c.region-in-prune.ensures ∙ c.in_default-region.is)

pub returns-in-Some-moment-clause-found : goal.returns-in-Some-moment-clause-found
returns-in-Some-moment-clause-found c =
    prune_there c.args.fields.now _ _ (omega arith) (search (rules, tests))
    (sym c.region-in-prune.ensures ∙ c.in-Some-region-2.is)
    (sym c.moment.ensures ∙ c.in-Some-moment.is)

pub returns-in-None-moment-clause-malformed : goal.returns-in-None-moment-clause-malformed
returns-in-None-moment-clause-malformed c _ =
    prune_bad_moment c.args.fields.now (omega arith) (search (rules, tests))
    (sym c.moment.ensures ∙ c.in-None-moment.is)

pub returns-in-prune_some-clause-malformed : goal.returns-in-prune_some-clause-malformed
returns-in-prune_some-clause-malformed c e =
    subst IsNoEventForm (slice_texts c.args.fields.now (omega arith) (search (rules, tests)))
    (c.slice_event.ensures.malformed e)

pub returns-in-pull-clause-malformed : goal.returns-in-pull-clause-malformed
returns-in-pull-clause-malformed c e =
    subst IsNoEventForm (pull_texts c.args.fields.now (omega arith) (search (rules, tests)))
    (c.pull_event.ensures.malformed e)

pub returns-in-Some-clause-found : goal.returns-in-Some-clause-found
returns-in-Some-clause-found c =
    open_there c.args.fields.now _ (omega arith) (search (rules, tests))
    (sym c.region.ensures ∙ c.in-Some.is)

pub returns-in-None-clause-malformed : goal.returns-in-None-clause-malformed
returns-in-None-clause-malformed c _ =
    open_bad c.args.fields.now (omega arith) (sym c.region.ensures ∙ c.in-None.is)

pub returns-in-Some-region-clause-found : goal.returns-in-Some-region-clause-found
returns-in-Some-region-clause-found c =
    deliver_there c.args.fields.now _ _ (omega arith) (search (rules, tests))
    (sym (ap decimal_in c.as_bytes.ensures.value) ∙ sym c.read_decimal.ensures.value
    ∙ c.in-Some-read_decimal.is) (sym c.region-in-deliver.ensures ∙ c.in-Some-region.is)

pub returns-in-None-region-clause-malformed : goal.returns-in-None-region-clause-malformed
returns-in-None-region-clause-malformed c _ =
    deliver_bad_region c.args.fields.now (omega arith) (search (rules, tests))
    (sym c.region-in-deliver.ensures ∙ c.in-None-region.is)

pub returns-in-len3-up-clause-malformed : goal.returns-in-len3-up-clause-malformed
returns-in-len3-up-clause-malformed c e =
    let other : IsOther c.args.fields.now = record {
      long = grind arith;
      deliver = λ n e. grind (arith, common_steps);
      pull = λ n e. grind (arith, common_steps);
      prune = λ n e. grind (arith, common_steps);
      slice = λ n e. grind (arith, common_steps);
    } in
    request_bad c.args.fields.now other (c.request_event.ensures.malformed e)

pub returns-in-len3-up-clause-found : goal.returns-in-len3-up-clause-found
returns-in-len3-up-clause-found c =
    subst (λ l. IfOk c.request_event.result (IsEventForm l))
    (with_rest c.args.fields.now (grind arith)) c.request_event.ensures.found

pub returns-in_default-clause-malformed : goal.returns-in_default-clause-malformed
returns-in_default-clause-malformed c _ =
    no_form c.args.fields.now (grind arith) (λ long is. search (rules, tests))
