use Rattle.std.proofs.Common.{◌≡◌, ◌-◌, ℕ, List, Option}
use Rattle.tokend.specs.Telling.{Writer}
use Rattle.tokend.specs.Turns.{Goes}
use Rattle.tokend.proofs.server.Server.part_each.Given as goal

-- the connections so far are counted
abbrev pub invariant-loop : goal.invariant-loop
invariant-loop l = ((log : Option (List ℕ)) (faults : Writer) → Goes
    (record { server = l.fn.self; log = log; faults = faults })
    (record { server = l.self; log = log; faults = faults }))
    × (l.self.left ≡ l.fn.self.left - l.counter)
