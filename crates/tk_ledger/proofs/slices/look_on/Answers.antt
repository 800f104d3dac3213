use Rattle.std.proofs.Common.{◌+◌, Some, sym, ap, subst, ◌∙◌}
use Rattle.std.specs.Option.{option_copied}
use Rattle.tk_handle.specs.declared.dot.Dot.{Dot}
use Rattle.tk_fact.specs.declared.body.Body.{Body}
use Rattle.tk_ledger.proofs.SliceLaws.{Looked, gone_with, first_looked, more_looked, end_looked}
use Rattle.tk_ledger.proofs.SliceLaws.{all_looked}
use Rattle.tk_ledger.proofs.slices.look_on.Goals.{then-skip_if_it_goes, else-skip_if_it_goes}
use Rattle.tk_ledger.proofs.slices.look_on.Goals as goal

pub loop-turn-init : goal.loop-turn-init
loop-turn-init c = record {
  looked = first_looked c.args.store.now c.args.after c.args.count;
  indexed = c.requires;
}

pub loop-turn-preserved : goal.loop-turn-preserved
loop-turn-preserved c =
    let first = sym c.next_after.ensures ∙ ap option_copied c.in-Some.is
    ∙ ap (λ (f : Dot × Body). Some f) (sym c.fact.view_is) in
    let more = more_looked c.args.store.now c.args.after c.args.count c.loop-turn._turn
    c.loop-turn.at c.loop-turn.gone c.loop-turn.store c.loop-turn.invariant.looked _ first
    c.loop-turn-test.true c.skip_if_it_goes.result c.skip_if_it_goes.new.store
    c.skip_if_it_goes.ensures.skips in
    record {
      looked = elim c.if-skip_if_it_goes.branch [
        | then-skip_if_it_goes w ↦ subst (λ n.
            Looked c.args.store.now c.args.after c.args.count (c.loop-turn._turn + 1)
            (Some c.fact.inside.dot) n c.skip_if_it_goes.new.store)
            (ap (gone_with c.loop-turn.gone) w.if-skip_if_it_goes.true
            ∙ sym w.gone-is) more
        | else-skip_if_it_goes w ↦ subst (λ n.
            Looked c.args.store.now c.args.after c.args.count (c.loop-turn._turn + 1)
            (Some c.fact.inside.dot) n c.skip_if_it_goes.new.store)
            (ap (gone_with c.loop-turn.gone) w.if-skip_if_it_goes.false
            ∙ sym w.gone-is) more
      ];
      indexed = c.skip_if_it_goes.ensures.indexed;
    }

pub returns-in-None-clause-looks : goal.returns-in-None-clause-looks
returns-in-None-clause-looks c =
    end_looked c.args.store.now c.args.after c.args.count c.loop-turn._turn c.loop-turn.at
    c.loop-turn.gone c.loop-turn.store c.loop-turn.invariant.looked
    (sym c.next_after.ensures ∙ ap option_copied c.in-None.is) c.loop-turn-test.true

pub returns-clause-looks : goal.returns-clause-looks
returns-clause-looks c =
    all_looked c.args.store.now c.args.after c.args.count c.loop-turn._turn c.loop-turn.at
    c.loop-turn.gone c.loop-turn.store c.loop-turn.invariant.looked c.loop-turn-test.false
    c.loop-turn.auto._turn-end
