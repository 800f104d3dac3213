use Rattle.std.proofs.Common.{◌≡◌, ℕ, ◌<◌, ◌≤◌, ap, sym, ◌∙◌, arith, Some, inl, inr}
use Rattle.std.proofs.lemmas.Bool.{cases_lt}
use Rattle.std.specs.Cmp.{nat_cmp_total}
use Rattle.std.specs.FinMap as map
use Rattle.tk_handle.proofs.SortedEntriesLaws.{get_at_place, get_at_gap, sorted_at_place}
use Rattle.tk_handle.proofs.SortedEntriesLaws.{insert_at_place}
use Rattle.tk_handle.specs.Ranges.{max_serial}
use Rattle.tk_vector.specs.VersionVector.{entry}
use Rattle.tk_vector.proofs.RemovalLaws.{sorted_removed, removed_at_place, removed_absent}
use Rattle.tk_vector.proofs.VersionVectorLaws.{lowered_none, lowered_below, lowered_within}
use Rattle.tk_vector.proofs.VersionVectorLaws.{lt_from_cmp, ge_from_cmp, entry_at, entry_absent}
use Rattle.tk_vector.proofs.vector.VersionVector.lower.Goals as goal

pub invariant_of-self : goal.invariant_of-self
invariant_of-self c =
    let at = rw c.deref.ensures.value at c.in-Ok.ensures in
    rw c.index_mut.ensures.value
    (sorted_at_place nat_cmp_total c.self.inside.entries.items c.self.invariant c.args.region
    c.in-Ok.at at c.in-Some.serial c.index_mut.result.now)

pub invariant_of-self-in-None : goal.invariant_of-self-in-None
invariant_of-self-in-None c = rw c.remove.ensures.items
    (sorted_removed nat_cmp_total map.nat_cmp-IsAntisymmetric c.self.inside.entries.items c.in-Ok.at
    c.self.invariant)

pub returns-then-lt : goal.returns-then-lt
returns-then-lt c =
    let at = rw c.deref.ensures.value at c.in-Ok.ensures in
    let total = nat_cmp_total in
    let here : entry c.args.self.now c.args.region ≡ c.index.result.now.1 =
    entry_at c.args.self.now c.args.region c.index.result.now.1
    (ap (λ m. map.get m c.args.region) (sym c.self.view_is)
    ∙ get_at_place total _ c.self.invariant c.args.region c.in-Ok.at at c.index.result.now
    ∙ ap (λ e. Some e.1) (sym c.index.ensures)) in
    let below = lt_from_cmp c.in-Some.serial c.index.result.now.1 _ c.lt.ensures c.if-lt.true in
    rw (c.index_mut.ensures.value, ← c.in-Some.ensures.1)
    (insert_at_place total c.self.inside.entries.items c.self.invariant c.args.region c.in-Ok.at at
    c.in-Some.serial c.index_mut.result.now
    ∙ ap (λ m. map.insert m c.args.region c.in-Some.serial) c.self.view_is
    ∙ sym (lowered_below _ _ _ (omega (arith, c.in-Some.ensures)) (omega (arith, here, below))))

pub returns-else-lt : goal.returns-else-lt
returns-else-lt c =
    let at = rw c.deref.ensures.value at c.in-Ok.ensures in
    let here : entry c.args.self.now c.args.region ≡ c.index.result.now.1 =
    entry_at c.args.self.now c.args.region c.index.result.now.1
    (ap (λ m. map.get m c.args.region) (sym c.self.view_is)
    ∙ get_at_place nat_cmp_total _ c.self.invariant c.args.region c.in-Ok.at at c.index.result.now
    ∙ ap (λ e. Some e.1) (sym c.index.ensures)) in
    let above = ge_from_cmp c.in-Some.serial c.index.result.now.1 _ c.lt.ensures c.if-lt.false in
    sym (lowered_within _ _ _ (omega (arith, c.in-Some.ensures))
    (omega (arith, here, above, c.in-Some.ensures.1)))

-- a number at most the greatest serial that is no serial is 0
nothing : (n : ℕ) → n ≤ max_serial → ((0 < n) × (n ≤ max_serial) → ⊥) → n ≡ 0
nothing n high not =
    elim (cases_lt 0 n) [ inl some ↦ absurd (not (some, high)) | inr none ↦ omega arith ]

pub returns-in-None : goal.returns-in-None
returns-in-None c =
    let at = rw c.deref.ensures.value at c.in-Ok.ensures in
    rw c.remove.ensures.items
    (removed_at_place nat_cmp_total map.nat_cmp-IsAntisymmetric c.args.region
    c.self.inside.entries.items c.in-Ok.at c.self.invariant at
    ∙ ap (λ m. map.remove m c.args.region) c.self.view_is
    ∙ sym (lowered_none c.args.self.now c.args.region c.args.serial
    (nothing c.args.serial c.requires c.in-None.ensures)))

pub returns-in_default : goal.returns-in_default
returns-in_default c =
    let gap = rw c.deref.ensures.value at c.in_default.ensures in
    let absent = ap (λ m. map.get m c.args.region) (sym c.self.view_is)
    ∙ get_at_gap nat_cmp_total _ c.self.invariant c.args.region c.in_default.field-0 gap in
    let none = entry_absent c.args.self.now c.args.region absent in
    elim (cases_lt 0 c.args.serial) [
      | inl some ↦ sym (lowered_within c.args.self.now c.args.region c.args.serial some
          (omega (arith, none)))
      | inr zero ↦ sym (lowered_none c.args.self.now c.args.region c.args.serial (omega arith)
          ∙ removed_absent nat_cmp_total map.nat_cmp-IsAntisymmetric c.args.self.now c.args.region
          absent)
    ]
