use Rattle.std.proofs.Common.{ap, sym, ◌∙◌, List}
use Rattle.std.specs.FinMap as map
use Rattle.std.specs.Map.{lookup}
use Rattle.std.specs.BTreeMap.{is_at}
use Rattle.tk_handle.specs.declared.dot.Dot.{Dot}
use Rattle.tk_handle.specs.Dot.{dot_cmp}
use Rattle.tk_dots.specs.Pages.{Slots, seen}
use Rattle.tk_dots.proofs.dots.DotMap.new.Goals as goal
use Rattle.std.proofs.lemmas.Option.{none-some as none_some}

pub invariant_of-result : goal.invariant_of-result
invariant_of-result g c = record {
  pages = λ k v at. absurd
      (none_some v
      (sym (ap (λ (es : List (Dot × Slots g.row.V.Denot)). lookup (is_at (dot_cmp k)) es)
      c.new.ensures.empty)
      ∙ at));
  counted = sym (ap (λ (es : List (Dot × Slots g.row.V.Denot)). map.len (seen es))
      c.new.ensures.empty
      ∙ map.len-empty dot_cmp g.row.V.Denot);
}
