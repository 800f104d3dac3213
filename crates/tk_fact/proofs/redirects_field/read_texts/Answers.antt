use Rattle.std.proofs.lemmas.List.{map-append}
use Rattle.tk_format.specs.Format.{text, repeated}
use Rattle.tk_format.proofs.Several.{many_more, many_fail, many_done}
use Rattle.tk_fact.proofs.ReadingLaws.{none_by}
use Rattle.tk_fact.proofs.redirects_field.read_texts.Goals as goal

pub returns-in_err-text : goal.returns-in_err-text
returns-in_err-text c =
    none_by _ (repeated c.args.count text) c.from_residual.result _ c.args.reader.now _
    c.from_residual.ensures.1
    (many_fail text.read _ c.args.count c.loop.counter c.loop.reader _ c.loop-test.true
    (rw c.in_err-text.ensures.ok_part at c.take_text.ensures.read) c.loop.invariant)

pub loop-preserved : goal.loop-preserved
loop-preserved c =
    rw (c.in_ok-push.ensures.items, map-append _ c.loop.texts.items _)
    (many_more text.read _ c.args.count c.loop.counter c.loop.reader _ _ _ c.loop-test.true
    (rw c.in_ok-text.ensures.ok_part at c.take_text.ensures.read) c.loop.invariant)

pub returns : goal.returns
returns c = many_done text.read _ c.args.count c.loop.counter c.loop.reader _ c.loop-test.false
    c.loop.invariant
