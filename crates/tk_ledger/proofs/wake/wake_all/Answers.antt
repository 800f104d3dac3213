use Rattle.std.proofs.Common.{ap, ◌∙◌}
use Rattle.std.specs.FinMap as map
use Rattle.tk_store.specs.StoreFields.{held_facts}
use Rattle.tk_ledger.proofs.WakeLaws.{wakes_none, wakes_more, wakes_whole}
use Rattle.tk_ledger.proofs.wake.wake_all.Goals as goal

pub loop-at-init : goal.loop-at-init
loop-at-init c = wakes_none (held_facts c.args.facts.now) c.args.forest.now

pub wake-requires-clause-links : goal.wake-requires-clause-links
wake-requires-clause-links c =
    λ q. ap (λ s. map.get s q) c.loop-at.invariant.links ∙ c.requires.links q

pub loop-at-preserved : goal.loop-at-preserved
loop-at-preserved c =
    wakes_more (held_facts c.args.facts.now) c.args.forest.now c.loop-at.forest c.wake.new.forest
    c.args.dots.now c.loop-at.at-index c.at-item.result _ c.loop-at-test.true c.at-item.is
    c.loop-at.invariant c.wake.ensures

pub returns : goal.returns
returns c = wakes_whole (held_facts c.args.facts.now) c.args.forest.now c.loop-at.forest
    c.args.dots.now c.loop-at.at-index c.loop-at-test.false c.loop-at.invariant
