use Rattle.std.proofs.Common.{◌++◌, List, ap, sym, ◌∙◌, map, [], ◌∷◌, lit<}
use Rattle.std.proofs.lemmas.List.{map-append}
use Rattle.std.proofs.lemmas.List.Elements.{filter_map-append}
use Rattle.std.proofs.lemmas.Iterator.Splits.{YieldsList-from_str_split}
use Rattle.std.proofs.lemmas.Iterator.Consumers.{YieldsList-end}
use Rattle.tk_edge.specs.declared.terms.RegionRange.{RegionRange}
use Rattle.tokend.specs.Ranges.{range_in, ranges_in}
use Rattle.tokend.proofs.ranges.listed.Goals as goal

pub loop-word-preserved : goal.loop-word-preserved
loop-word-preserved c =
    let words = map (λ w. w.now) c.loop-word.yielded in
    c.in_ok-push_range.ensures
    ∙ ap (λ (rs : List RegionRange). rs ++ ranges_in (c.in-Some.word.now ∷ []))
    c.loop-word.invariant
    ∙ sym (filter_map-append range_in words (c.in-Some.word.now ∷ []))
    ∙ ap ranges_in (sym (map-append (λ w. w.now) c.loop-word.yielded (c.in-Some.word ∷ [])))

pub returns : goal.returns
returns c =
    let all = YieldsList-end
    (YieldsList-from_str_split 0x2c c.args.text.now (lit< tt) (cc) (cc) (cc)) c.loop-word.yielded _
    c.loop-word.yielded_by _ _ c.in-None.is c.next.ensures.steps in
    c.loop-word.invariant ∙ ap ranges_in all.0
