-- What holds of the items of a bundle that has a spelling. Key results:
--   fits_differ   their dots differ from each other
--   fits_pass     their facts pass the check
use Rattle.std.proofs.Common.{◌≡◌, true, [], ◌∷◌, Option, Some, None}
use Rattle.std.proofs.Common.{is_none, refl, subst}
use mathlib.Core.Bool.{false≢true}
use Rattle.std.specs.declared.cmp.Ordering.TheVariants.{Less}
use Rattle.std.specs.List.{AllByRecursion}
use Rattle.tk_handle.specs.declared.dot.Dot.{Dot}
use Rattle.tk_handle.specs.Dot.{dot_cmp, dot_cmp_total}
use Rattle.tk_fact.specs.Check.{refusal_of}
use Rattle.tk_fact.specs.declared.check.FactError.{FactError}
use Rattle.tk_store.specs.Slots.{Held, Skipped}
use Rattle.tk_bundle.specs.Bundle.{ascends, bundle}
use Rattle.tk_bundle.specs.BundleFields.{BundleFields, Items}
use Rattle.tk_bundle.specs.Items.{item}
use Rattle.tk_bundle.proofs.FitLaws.{items_fit, items_rise}
use Rattle.tk_region.proofs.TakeLaws.{Avoids, Differs, AllPass}
use Rattle.std.proofs.lemmas.Bool.{and_parts as both_true}
use Rattle.tk_handle.proofs.TestLaws.{less}

-- no dot is below itself
not_below_itself : (d : Dot) → dot_cmp d d ≡ Less → ⊥
not_below_itself d h = let e = dot_cmp_total.antisymm d d in cc

-- a dot below the one behind which items ascend is the dot of no item
above : (d last : Dot) (items : Items) → dot_cmp d last ≡ Less → ascends (Some last) items ≡ true
    → Avoids d items
above d last [] l h = tt
above d last (i ∷ items) l h =
    let k = both_true _ _ h in
    let t : dot_cmp d i.0 ≡ Less = dot_cmp_total.trans d last i.0 l (less _ k.0) in (
      λ same. not_below_itself d (subst (λ (q : Dot). dot_cmp d q ≡ Less) same t),
      above d i.0 items t k.1,
    )

-- a dot behind which items ascend is the dot of no item
all_above : (d : Dot) (items : Items) → ascends (Some d) items ≡ true → Avoids d items
all_above d [] h = tt
all_above d (i ∷ items) h =
    let k = both_true _ _ h in
    let t : dot_cmp d i.0 ≡ Less = less _ k.0 in (
      λ same. not_below_itself d (subst (λ (q : Dot). dot_cmp d q ≡ Less) same t),
      above d i.0 items t k.1,
    )

-- items that ascend behind a dot have dots that differ from each other
differs_after : (d : Dot) (items : Items) → ascends (Some d) items ≡ true → Differs items
differs_after d [] h = tt
differs_after d (i ∷ items) h = let k = both_true _ _ h in
    (all_above i.0 items k.1, differs_after i.0 items k.1)

-- items that ascend have dots that differ from each other
differs : (items : Items) → ascends None items ≡ true → Differs items
differs [] h = tt
differs (i ∷ items) h = (all_above i.0 items h, differs_after i.0 items h)

-- if the test for no error holds, there is none
none : (o : Option FactError) → is_none o ≡ true → o ≡ None
none None h = refl
none (Some e) h = absurd (false≢true h)

-- the facts of items that have a spelling pass their checks
all_pass : (items : Items) → AllByRecursion item.Fits items → AllPass items
all_pass [] h = tt
all_pass ((d, Held b) ∷ items) h = (none (refusal_of b) h.0.0.1, all_pass items h.1)
all_pass ((d, Skipped) ∷ items) h = (tt, all_pass items h.1)

-- no two items of a bundle have one dot
pub fits_differ : (b : BundleFields) → bundle.Fits b → Differs b.items
fits_differ b fits = differs b.items (items_rise b fits)

-- each fact of a bundle passes its check
pub fits_pass : (b : BundleFields) → bundle.Fits b → AllPass b.items
fits_pass b fits = all_pass b.items (items_fit b fits)
