use Rattle.std.proofs.Common.{◌≡◌, ◌≤◌, take, length, vec_len, vec_capacity}
use Rattle.tk_world.specs.Acts.{ActsBy}
use Rattle.tk_world.proofs.world.World.run_by.Given as goal

abbrev pub invariant-loop-event : goal.invariant-loop-event
invariant-loop-event g l = record {
  acts : ActsBy g.C.Carrier.way l.fn.self (take l.event-index l.events) l.outcomes.items l.self;
  so_many : vec_len l.outcomes ≡ l.event-index;
  room : length l.events ≤ vec_capacity l.outcomes;
}
