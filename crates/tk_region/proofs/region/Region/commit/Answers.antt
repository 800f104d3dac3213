use Rattle.std.proofs.Common.{ap}
use Rattle.tk_region.specs.Step.{handled_of}
use Rattle.tk_region.proofs.CapLaws.{next_unknown, capped_added}
use Rattle.tk_region.proofs.StepLaws.{next_given, gains_next, gains_none}
use Rattle.tk_region.proofs.region.Region.commit.Goals as goal

pub add_free-requires-clause-free : goal.add_free-requires-clause-free
add_free-requires-clause-free c =
    let r = c.self.inside in
    let next =
    next_given _ _ _ _ c.self.view_is c.prepared.view_is c.in-Some.fact c.in-Some.is c.requires in
    next_unknown (record { number = r.number; settings = r.settings; facts = r.ledger })
    c.in-Some.fact next

pub invariant_of-self-in-Some : goal.invariant_of-self-in-Some
invariant_of-self-in-Some c =
    let r = c.self.inside in
    let next =
    next_given _ _ _ _ c.self.view_is c.prepared.view_is c.in-Some.fact c.in-Some.is c.requires in
    capped_added r.number r.settings r.ledger c.add_free.new.ledger c.self.invariant c.in-Some.fact
    next c.in_ok-add_free-in-Some.ensures.ok

pub returns-in_ok-add_free-in-Some : goal.returns-in_ok-add_free-in-Some
returns-in_ok-add_free-in-Some c = (
  ap handled_of c.prepared.view_is,
  gains_next _ _ _ _ c.self.view_is c.prepared.view_is c.in-Some.fact c.add_free.new.ledger
      c.in-Some.is c.in_ok-add_free-in-Some.ensures.ok,
)

pub returns-in-None : goal.returns-in-None
returns-in-None c = (
  ap handled_of c.prepared.view_is,
  gains_none _ _ _ _ c.self.view_is c.prepared.view_is c.in-None.is,
)
