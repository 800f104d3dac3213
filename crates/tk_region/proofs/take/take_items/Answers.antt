use Rattle.std.proofs.Common.{◌≡◌, ℕ, [], ◌∷◌, length, take, sym, subst, ◌∙◌, arith}
use Rattle.std.proofs.lemmas.Iterator.Adapters.{YieldsList-from_vec}
use Rattle.std.proofs.lemmas.Iterator.Consumers.{YieldsList-turn, YieldsList-end}
use Rattle.std.proofs.lemmas.List.{length-append}
use Rattle.tk_region.specs.Taking.{items_taken}
use Rattle.tk_region.proofs.FitsLaws.{fits_differ, fits_pass}
use Rattle.tk_region.proofs.TakeLaws.{taken_more, agrees_now, passes_now, at_end}
use Rattle.tk_region.proofs.take.take_items.Goals as goal

pub take_item-requires-clause-agree : goal.take_item-requires-clause-agree
take_item-requires-clause-agree c =
    let turn = YieldsList-turn (YieldsList-from_vec c.args.sent.items (cc) (cc)) c.loop-item.yielded
    c.loop-item.item-iterator c.loop-item.yielded_by c.next.result c.next.new.self c.in-Some.item
    c.in-Some.is c.next.ensures.steps in
    agrees_now c.args.ledger.now c.loop-item.ledger c.args.sent.items (length c.loop-item.yielded)
    c.in-Some.item turn.1 turn.0 c.loop-item.invariant.so_far
    (fits_differ c.args.sent c.requires.fits) c.requires.agree

pub take_item-requires-clause-passes : goal.take_item-requires-clause-passes
take_item-requires-clause-passes c =
    let turn = YieldsList-turn (YieldsList-from_vec c.args.sent.items (cc) (cc)) c.loop-item.yielded
    c.loop-item.item-iterator c.loop-item.yielded_by c.next.result c.next.new.self c.in-Some.item
    c.in-Some.is c.next.ensures.steps in
    passes_now c.args.ledger.now c.loop-item.ledger c.args.sent.items (length c.loop-item.yielded)
    c.in-Some.item turn.1 turn.0 c.loop-item.invariant.so_far
    (fits_pass c.args.sent c.requires.fits)

pub loop-item-preserved : goal.loop-item-preserved
loop-item-preserved c =
    let turn = YieldsList-turn (YieldsList-from_vec c.args.sent.items (cc) (cc)) c.loop-item.yielded
    c.loop-item.item-iterator c.loop-item.yielded_by c.next.result c.next.new.self c.in-Some.item
    c.in-Some.is c.next.ensures.steps in
    let more = length-append c.loop-item.yielded (c.in-Some.item ∷ []) in
    record {
      so_far = subst (λ (n : ℕ).
          c.take_item.new.ledger ≡ items_taken c.args.ledger.now (take n c.args.sent.items))
          (sym more)
          (taken_more c.args.ledger.now c.loop-item.ledger c.args.sent.items
          (length c.loop-item.yielded) c.in-Some.item turn.1 turn.0 c.loop-item.invariant.so_far
          c.take_item.new.ledger c.in-Ok.ensures.ok.0);
      counted = omega (arith, c.in-Ok.ensures.ok.1, c.loop-item.invariant.counted);
      few = omega (arith, more, c.in-Ok.ensures.ok.2, c.loop-item.invariant.few);
    }

pub returns-in-Err : goal.returns-in-Err
returns-in-Err c = (length c.loop-item.yielded, c.in-Err.ensures.err ∙ c.loop-item.invariant.so_far)

pub returns : goal.returns
returns c =
    let all = YieldsList-end (YieldsList-from_vec c.args.sent.items (cc) (cc)) c.loop-item.yielded
    c.loop-item.item-iterator c.loop-item.yielded_by c.next.result c.next.new.self c.in-None.is
    c.next.ensures.steps in (
      at_end c.args.ledger.now c.loop-item.ledger c.args.sent.items (length c.loop-item.yielded)
          (omega (arith, all.1)) c.loop-item.invariant.so_far,
      c.loop-item.invariant.counted,
    )
