use Rattle.std.proofs.Common.{rules, arith, ◌≡◌, ◌+◌, ◌≤◌, true}
use Rattle.tk_turn.specs.Outcomes.{goes_on, max_requests}
use Rattle.tk_turn.proofs.Deciding.{all_decided, none_yet, one_more, within_more}
use Rattle.tk_turn.proofs.requests.decide_all.Goals as goal
use Rattle.tk_turn.proofs.requests.decide_all.Goals.{
  then-is_done-via-then-is_done,
  then-is_done-via-else-is_done+then-not-goes_on,
}

pub requests-init : goal.requests-init
requests-init g c = record {
  within = search rules;
  fewer = search rules;
  deciding = none_yet g.S.Service.decides c.args.service.now c.args.input.now c.args.is_over
      c.args.replies.now.items c.args.records.now.items;
}

pub returns-then-is_done-clause-decided : goal.returns-then-is_done-clause-decided
returns-then-is_done-clause-decided g c =
    let made = rw (c.rest_of.ensures) at c.decide-outcome.ensures.decided in
    let most : c.requests.count + 1 ≤ max_requests = omega (arith, c.requests.invariant.fewer) in
    let ends : goes_on c.decide-outcome.result ≡ true → c.requests.count + 1 ≡ max_requests =
    λ goes. elim c.then-is_done.branch [
      | then-is_done-via-then-is_done w ↦ search rules
      | then-is_done-via-else-is_done+then-not-goes_on w ↦ absurd (search rules)
    ] in
    rw (c.taken-at.ensures) (all_decided g.S.Service.decides c.args.service.now c.args.input.now
    c.args.is_over c.args.replies.now.items c.args.records.now.items c.requests.service
    c.decide-outcome.new.self c.requests.at c.requests.count c.requests.replies.items
    c.requests.records.items c.decide-outcome.new.replies.items c.decide-outcome.new.records.items
    c.decide-outcome.result made most ends c.requests.invariant.deciding)

pub requests-preserved : goal.requests-preserved
requests-preserved g c = record {
  within =
      let short = rw (c.rest_of.ensures) at c.decide-outcome.ensures.within in
      rw (c.taken-at.ensures)
      (within_more c.args.input.now c.requests.at _ c.requests.invariant.within
      short);
  fewer = search rules;
  deciding =
      let made = rw (c.rest_of.ensures) at c.decide-outcome.ensures.decided in
      rw (c.taken-at.ensures) (one_more g.S.Service.decides c.args.service.now c.args.input.now
      c.args.is_over c.args.replies.now.items c.args.records.now.items c.requests.service
      c.decide-outcome.new.self c.requests.at c.requests.count c.requests.replies.items
      c.requests.records.items c.decide-outcome.new.replies.items c.decide-outcome.new.records.items
      c.decide-outcome.result made (search rules) c.requests.invariant.deciding);
}
