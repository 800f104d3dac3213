use Rattle.std.proofs.Common.{◌≤◌, ◌<◌, ◌-◌, length}
use Rattle.tk_turn.specs.Outcomes.{max_requests}
use Rattle.tk_turn.proofs.Deciding.{Deciding}
use Rattle.tk_turn.proofs.requests.decide_all.Given as goal

-- the requests before the place were decided, fewer than a turn may decide
abbrev pub invariant-requests : goal.invariant-requests
invariant-requests g l = record {
  within : l.at ≤ length l.input;
  fewer : l.count < max_requests;
  deciding : Deciding g.S.Service.decides l.fn.service l.input l.is_over l.fn.replies.items
      l.fn.records.items l.service l.at l.count l.replies.items l.records.items;
}

abbrev pub decreases-requests : goal.decreases-requests
decreases-requests g l = max_requests - l.count
