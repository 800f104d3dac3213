use Rattle.std.proofs.Common.{ap, ◌∙◌, sym}
use Rattle.tk_vector.specs.VersionVector.{raised}
use Rattle.tk_vector.proofs.OrderLaws.{raised_more, get_or-any}
use Rattle.tk_vector.proofs.vector.raise_each.Goals as goal

pub loop-entry-preserved : goal.loop-entry-preserved
loop-entry-preserved c =
    raised_more c.args.vector.now c.args.entries.now c.loop-entry.vector c.raise.new.self
    c.loop-entry.entry-index _ _ c.loop-entry.invariant c.loop-entry-test.true
    (λ d. get_or-any c.args.entries.now c.loop-entry.entry-index d c.entry-item.result
    c.loop-entry-test.true
    ∙ sym c.entry-item.is) c.number.ensures.range.0
    (c.in_ok-raise.ensures.ok ∙ ap (raised c.loop-entry.vector _) c.number.ensures.value)
