use Rattle.std.proofs.Common.{[], ◌∷◌, ◌++◌, ap, ◌∙◌, take, sym, subst, List, ◌≡◌}
use Rattle.std.proofs.lemmas.List.{take_more}
use Rattle.tk_handle.specs.declared.dot.Dot.{Dot}
use Rattle.tk_family.specs.Rows.{table}
use Rattle.tk_family.specs.Writes.{unsettled}
use Rattle.tk_family.proofs.Writing.{unsettled-more}
use Rattle.tk_family.proofs.write.unsettle.Goals as goal

pub loop-at-preserved : goal.loop-at-preserved
loop-at-preserved c = record {
  rows = λ q.
      let i = c.loop-at.at-index in
      let list : List Dot = c.args.list.now in
      let at : Dot = c.at-item.result in
      subst (λ (l : List Dot).
      table c.set_uncoded.new.rows q ≡ unsettled (table c.args.rows.now) l q)
      (sym (take_more list i at c.loop-at-test.true
      ∙ ap (λ (x : Dot). take i list ++ x ∷ []) (sym c.at-item.is)))
      (unsettled-more (table c.args.rows.now) (table c.loop-at.rows) (table c.set_uncoded.new.rows)
      (take i list) at c.loop-at.invariant.rows c.set_uncoded.ensures.rows q);
  len = c.set_uncoded.ensures.len ∙ c.loop-at.invariant.len;
}
