-- A log that gets the bundles taken in has all that its region made and took in, and is loaded
-- whole behind the old log. Key results:
--   keeps_all    LogKeepsAll
--   loads_all    LogLoads
use Rattle.std.proofs.Common.{◌≡◌, ℕ, true, false, ◌||◌, ◌&&◌, ◌==◌, nat_le, List, [], ◌∷◌, ◌++◌}
use Rattle.std.proofs.Common.{append-nil, append_assoc, Option, None, Some, Result, Ok, Err, inl}
use Rattle.std.proofs.Common.{inr, refl, sym, ap, subst, arith, ◌∙◌}
use Rattle.std.specs.Prelude.{◌⊎◌}
use Rattle.std.specs.FinMap as map
use Rattle.std.proofs.lemmas.Bool.Decides.{nat_tests}
use Rattle.tk_format.specs.Exact.{prefix_free}
use Rattle.tk_handle.specs.declared.dot.Dot.{Dot}
use Rattle.tk_handle.specs.Dot.{dot_cmp}
use Rattle.tk_fact.specs.declared.body.Body.{Body}
use Rattle.tk_store.specs.SlotJoining.{AllBelow, AllFit}
use Rattle.tk_store.specs.SlotOrder.{SlotBelow, SlotsBelow}
use Rattle.tk_store.specs.Slots.{Slot, Slots, Held, Skipped, with_slots}
use Rattle.tk_store.specs.StoreFields.{StoreFields, held_facts, empty_store}
use Rattle.tk_store.proofs.SlotLaws.{get_held}
use Rattle.tk_store.proofs.SlotOrderLaws.{below_itself, slots_itself, slots_trans}
use Rattle.tk_bundle.specs.BundleFields.{BundleFields, Items}
use Rattle.tk_bundle.specs.Bundle.{bundle, bundle_bytes}
use Rattle.tk_bundle.specs.BundleLaws.{bundle_exact}
use Rattle.tk_bundle.specs.Front.{IsCut}
use Rattle.tk_ledger.specs.Retention.{MaySkip}
use Rattle.tk_message.specs.Place.{next_in}
use Rattle.tk_region.specs.RegionFields.{RegionFields, place_in}
use Rattle.tk_region.specs.Taking.{has_unmade}
use Rattle.tokend.specs.KeptLog.{AreLogged, HasLogged, IsFresh, IsNotRefused, IsPrunedBefore}
use Rattle.tokend.specs.KeptLog.{IsTorn, LogKeepsAll, LogLoads, logging}
use Rattle.tokend.specs.Loading.{AreBundles, BeginsWith, IsNoBundle, IsRefused, Loads, TakesEach}
use Rattle.tokend.specs.Loading.{TakesFront, log_bytes}
use Rattle.tokend.specs.Starting.{PrunesOld}
use Rattle.tokend.specs.Turns.{all_ends}
use Rattle.tokend.specs.declared.load.LoadFault.{LoadFault}
use Rattle.tokend.specs.declared.load.LoadFault.TheVariants as load
use Rattle.tokend.proofs.TurnGrowth.{turns_grow}
use Rattle.tokend.proofs.KeptSlots.{IsFrom, IsLeft}
use Rattle.tokend.proofs.SliceLaws.{held_at, none_is_some}
use Rattle.tk_ledger.proofs.SkipLaws.{passing_kept}
use Rattle.tokend.proofs.LogBundles.{EachBelow, NoneLater, Parted, below_among, each_below}
use Rattle.tokend.proofs.LogBundles.{each_from, each_more, later_among, no_end, one_list, parted}
use Rattle.tokend.proofs.LogBundles.{taken_slots}
use Rattle.tokend.proofs.LogGains.{sealed_clash}
use Rattle.tokend.proofs.KeptTurns.{FitsEach, with_each, Through, each_both, fits_both, Grew}
use Rattle.tokend.proofs.KeptTurns.{through}

-- ---- before the first connection

-- a region that was pruned, or wasn't, knows what it knew, or has skipped it
pruned_below : (moment count : Option ℕ) (full start : RegionFields)
    → PrunesOld moment full (Ok count) start → SlotsBelow full.facts.slots start.facts.slots
pruned_below None count full start same d =
    subst (λ (r : RegionFields). SlotsBelow full.facts.slots r.facts.slots) (sym same.1)
    (slots_itself full.facts.slots) d
pruned_below (Some moment) None full start none d = absurd none
pruned_below (Some moment) (Some n) full start pruned d = of (pruned.facts.keeps d)
  where
    of : (map.get start.facts.slots d ≡ map.get full.facts.slots d)
        ⊎ MaySkip (map.get (held_facts full.facts)) start.facts.horizon d
        → SlotBelow (map.get full.facts.slots d) (map.get start.facts.slots d)
    of (inl same) = subst (λ o. SlotBelow (map.get full.facts.slots d) o) (sym same)
        (below_itself (map.get full.facts.slots d))
    of (inr may) =
        let here = held_at (map.get full.facts.slots d) may.fact
        (sym (get_held full.facts.slots d) ∙ may.here) in
        subst (λ o. SlotBelow o (map.get start.facts.slots d)) (sym here)
        (subst (λ o. SlotBelow (Some (Held may.fact)) o) (sym (pruned.facts.skips d may))
        (passing_kept d may.fact may.token may.kept))

-- a mark isn't a fact that is held
skipped_held : (b : Body) → Some Skipped ≡ Some (Held b) → ⊥
skipped_held b e = absurd (cc)

-- a region that was pruned, or wasn't, holds nothing that it didn't hold before
pruned_less : (moment count : Option ℕ) (full start : RegionFields)
    → PrunesOld moment full (Ok count) start
    → (d : Dot) (b : Body) → map.get start.facts.slots d ≡ Some (Held b)
    → map.get full.facts.slots d ≡ Some (Held b)
pruned_less None count full start same d b at =
    subst (λ (r : RegionFields). map.get r.facts.slots d ≡ Some (Held b)) same.1 at
pruned_less (Some moment) None full start none d b at = absurd none
pruned_less (Some moment) (Some n) full start pruned d b at = of (pruned.facts.keeps d)
  where
    of : (map.get start.facts.slots d ≡ map.get full.facts.slots d)
        ⊎ MaySkip (map.get (held_facts full.facts)) start.facts.horizon d
        → map.get full.facts.slots d ≡ Some (Held b)
    of (inl same) = sym same ∙ at
    of (inr may) = absurd (skipped_held b (sym (pruned.facts.skips d may) ∙ at))

-- a region without facts knows nothing
knows_none : (P : StoreFields) (d : Dot) → P ≡ empty_store → map.get P.slots d ≡ None
knows_none P d is = ap (λ (Q : StoreFields). map.get Q.slots d) is ∙ map.get-empty dot_cmp d

-- what is held after bundles were taken in, by a region that held nothing, is below what is above
-- the bundles
first_below : (u s t : Option Slot) (b : Body) → IsFrom u s t → s ≡ None → t ≡ Some (Held b)
    → SlotBelow (Some (Held b)) u
first_below u s t b (inl same) none at = absurd (none_is_some (Held b) (sym none ∙ sym same ∙ at))
first_below u s t b (inr below) none at = subst (λ o. SlotBelow o u) at below

-- ---- what another region has that has loaded the bundles

-- what is above a slot is known
known_above : (s : Slot) (u : Option Slot) → SlotBelow (Some s) u → u ≡ None → ⊥
known_above s None below none = below
known_above s (Some t) below none = none_is_some t (sym none)

-- what is above a mark is a mark
skip_above : (u : Option Slot) → SlotBelow (Some Skipped) u → u ≡ Some Skipped
skip_above None below = absurd below
skip_above (Some (Held b)) below = absurd below
skip_above (Some Skipped) below = refl

-- what a region logged since its start is the bundles by which its store grew
log_from : (olds : List BundleFields) (region : RegionFields) (log : List ℕ)
    (h : HasLogged olds region log)
    → Grew h.prunes h.turns [] log h.start.facts region.facts
log_from olds region log h =
    through h.words (logging h.terms h.start [] h.faults h.prunes) h.turns
    (logging h.shown region log h.told h.prunes) [] log h.served refl refl refl refl

-- the bundles of the log are those by which it grew
log_is : (log : List ℕ) (news bundles : List BundleFields) → AreLogged log news → AreBundles bundles
    → log ≡ log_bytes bundles → bundles ≡ news
log_is log news bundles logged fit is =
    one_list log news bundles logged
    (record {
      fit = fit;
      rest = [];
      parts = is ∙ sym (append-nil (log_bytes bundles));
      torn = inl refl;
    })

-- the log of bundles keeps all that the region held
pub keeps_all : LogKeepsAll
keeps_all olds region log h news logged bytes all are among_olds among_news new loaded dropped
    loads =
    let U = loaded.facts.slots in
    let grew = log_from olds region log h in
    let through = subst (Through h.prunes (all_ends h.turns) h.start.facts region.facts)
    (log_is log news grew.0 logged grew.2.fit grew.1) grew.2 in
    let back = loads.1 in
    let same : all ≡ back.bundles = one_list bytes back.bundles all
    (record { fit = back.fit; rest = loads.0; parts = back.parts; torn = loads.2 }) are in
    let above = each_below new back.bundles loaded back.fit back.each in
    let each : EachBelow U all = subst (EachBelow U) (sym same) above.each in
    let late : NoneLater all loaded.facts.horizon =
    subst (λ (bs : List BundleFields). NoneLater bs loaded.facts.horizon) (sym same) above.late in
    let from = through.from U (below_among U news all among_news each) in
    let old_from =
    each_from h.started.first olds h.started.full U h.started.loaded
    (below_among U olds all among_olds each) in
    record {
      held = λ d b at. held_by d b
          (held_at (map.get region.facts.slots d) b (sym (get_held region.facts.slots d) ∙ at))
          (from d) (old_from d);
      marks = λ d at. marked d at (from d) (old_from d);
      horizon = λ off. through.late off loaded.facts.horizon
          (later_among loaded.facts.horizon news all among_news late);
    }
  where
    -- what a region held before its service, the other knows
    held_before : (d : Dot) (b : Body) → map.get h.start.facts.slots d ≡ Some (Held b)
        → IsFrom (map.get loaded.facts.slots d) (map.get h.started.first.facts.slots d)
        (map.get h.started.full.facts.slots d)
        → SlotBelow (Some (Held b)) (map.get loaded.facts.slots d)
    held_before d b at old =
        first_below (map.get loaded.facts.slots d) (map.get h.started.first.facts.slots d)
        (map.get h.started.full.facts.slots d) b old
        (knows_none h.started.first.facts d h.started.empty)
        (pruned_less h.started.moment h.started.count h.started.full h.start h.started.pruned d b
        at)

    held_by : (d : Dot) (b : Body) → map.get region.facts.slots d ≡ Some (Held b)
        → IsLeft h.prunes (map.get loaded.facts.slots d) (map.get h.start.facts.slots d)
        (map.get region.facts.slots d)
        → IsFrom (map.get loaded.facts.slots d) (map.get h.started.first.facts.slots d)
        (map.get h.started.full.facts.slots d)
        → SlotBelow (Some (Held b)) (map.get loaded.facts.slots d)
    held_by d b at (inl (inr below)) old =
        subst (λ o. SlotBelow o (map.get loaded.facts.slots d)) at below
    held_by d b at (inl (inl same)) old = held_before d b (sym same ∙ at) old
    held_by d b at (inr gone) old = absurd (skipped_held b (sym gone.1 ∙ at))

    -- a region that prunes itself has skipped what its start knew
    pruned_at : (d : Dot) → h.prunes ≡ true → (o : Option Slot) → map.get h.start.facts.slots d ≡ o
        → (o ≡ None → ⊥)
        → IsFrom (map.get loaded.facts.slots d) (map.get h.started.first.facts.slots d)
        (map.get h.started.full.facts.slots d)
        → (map.get h.start.facts.slots d ≡ Some Skipped)
        ⊎ (map.get loaded.facts.slots d ≡ Some Skipped) ⊎ IsPrunedBefore h.prunes loaded d
    pruned_at d on None at some old = absurd (some refl)
    pruned_at d on (Some Skipped) at some old = inl at
    pruned_at d on (Some (Held b)) at some old =
        inr (inr (on, known_above (Held b) (map.get loaded.facts.slots d) (held_before d b at old)))

    marked : (d : Dot) → map.get region.facts.slots d ≡ Some Skipped
        → IsLeft h.prunes (map.get loaded.facts.slots d) (map.get h.start.facts.slots d)
        (map.get region.facts.slots d)
        → IsFrom (map.get loaded.facts.slots d) (map.get h.started.first.facts.slots d)
        (map.get h.started.full.facts.slots d)
        → (map.get h.start.facts.slots d ≡ Some Skipped)
        ⊎ (map.get loaded.facts.slots d ≡ Some Skipped) ⊎ IsPrunedBefore h.prunes loaded d
    marked d at (inl (inl same)) old = inl (sym same ∙ at)
    marked d at (inl (inr below)) old = inr
        (inl (skip_above (map.get loaded.facts.slots d)
        (subst (λ o. SlotBelow o (map.get loaded.facts.slots d)) at below)))
    marked d at (inr (on, is, inr known)) old = inr (inr (on, known))
    marked d at (inr (on, is, inl known)) old =
        pruned_at d on (map.get h.start.facts.slots d) refl known old

-- ---- the log is loaded behind the old log

-- bundles that were taken in fit, each what the bundles before it left
taken_fit : (old : RegionFields) (bundles : List BundleFields) (new : RegionFields)
    → TakesEach old bundles new
    → FitsEach old.facts.slots bundles × (new.facts.slots ≡ with_each old.facts.slots bundles)
    × (new.number ≡ old.number)
taken_fit old [] new same =
    (tt, ap (λ (r : RegionFields). r.facts.slots) same, ap (λ (r : RegionFields). r.number) same)
taken_fit old (b ∷ more) new h =
    let is = taken_slots old.facts h.0.facts b.horizon b.items h.1.1.takes.2.0 in
    let rest = taken_fit h.0 more new h.2 in (
      (h.1.1.takes.1, subst (λ S. FitsEach S more) is rest.0),
      rest.1 ∙ ap (λ S. with_each S more) is,
      rest.2 ∙ h.1.1.number,
    )

-- of bundles that fit one after another, each fits what those before it left
fits_behind : (L : Slots) (xs : List BundleFields) (y : BundleFields) (ys : List BundleFields)
    → FitsEach L (xs ++ y ∷ ys) → AllFit (with_each L xs) y.items
fits_behind L [] y ys h = h.0
fits_behind L (x ∷ xs) y ys h = fits_behind (with_slots L x.items) xs y ys h.1

-- if all bundles of a list are below the slots, one in the list is
each_behind : (U : Slots) (xs : List BundleFields) (y : BundleFields) (ys : List BundleFields)
    → EachBelow U (xs ++ y ∷ ys) → AllBelow U y.items
each_behind U [] y ys h = h.0
each_behind U (x ∷ xs) y ys h = each_behind U xs y ys h.1

-- numbers that differ fail the test for equal ones
no_tie : (m n : ℕ) → (m ≡ n → ⊥) → (m == n) ≡ false
no_tie m n differ = elim (m == n) as (λ t. (m == n) ≡ t → t ≡ false) [
  | true ↦ λ e. absurd (differ (grind (e, arith, nat_tests)))
  | false ↦ λ e. refl
] refl

-- items at known dots are under no fresh number
none_unmade : (number : ℕ) (next : Dot) (region : RegionFields) (items : Items)
    → IsFresh number region → next.region ≡ number → AllBelow region.facts.slots items
    → has_unmade next items ≡ false
none_unmade number next region [] fresh at all = refl
none_unmade number next region (i ∷ more) fresh at all =
    ap (λ t. t || has_unmade next more)
    (ap (λ t. t && nat_le next.serial i.0.serial) (no_tie i.0.region next.region
    (λ same. fresh i.0 (known_above i.1 (map.get region.facts.slots i.0) all.0) (same ∙ at))))
    ∙ none_unmade number next region more fresh at all.1

-- the walk over a torn end runs out of bytes
torn_is_cut : (rest : List ℕ) → IsTorn rest → IsCut rest
torn_is_cut rest (inl none) = subst IsCut (sym none) refl
torn_is_cut rest (inr cut) = cut

-- the front of a rest that is these bundles and a torn end
module _ (all back : List BundleFields) (rest cut : List ℕ) (torn : IsTorn cut)
    (p : Parted back all rest cut) where
  -- a bundle at the front is the next of all
  next_is : (b : BundleFields) → BeginsWith rest b
      → (ys : List BundleFields) × (all ≡ back ++ b ∷ ys)
  next_is b begins = of p.more p.fit p.all p.left
    where
      of : (more : List BundleFields) → AreBundles more → all ≡ back ++ more
          → rest ≡ log_bytes more ++ cut → (ys : List BundleFields) × (all ≡ back ++ b ∷ ys)
      of [] fit is left = absurd (no_end b begins.1.0 cut begins.0 (sym left ∙ begins.1.1) torn)
      of (y ∷ ys) fit is left =
          let first =
          prefix_free bundle bundle_exact b y begins.1.0 (log_bytes ys ++ cut) begins.0 fit.0
          (sym begins.1.1 ∙ left ∙ append_assoc (bundle_bytes y) (log_bytes ys) cut) in
          (ys, is ∙ ap (λ x. back ++ x ∷ ys) (sym first.0))

  -- the rest is cut, or a bundle is at its front
  some_front : IsNoBundle rest → ⊥
  some_front none = of p.more p.fit p.left
    where
      of : (more : List BundleFields) → AreBundles more → rest ≡ log_bytes more ++ cut → ⊥
      of [] fit left = none.0 (subst IsCut (sym left) (torn_is_cut cut torn))
      of (y ∷ ys) fit left = none.1 y
          (fit.0, (log_bytes ys ++ cut, left ∙ append_assoc (bundle_bytes y) (log_bytes ys) cut))

-- the log of bundles is loaded again
pub loads_all : LogLoads
loads_all olds region log h calm news logged bytes are new loaded empty fresh result loads =
    by result loads
  where
    grew : Grew h.prunes h.turns [] log h.start.facts region.facts
    grew = log_from olds region log h

    news_through : Through h.prunes (all_ends h.turns) h.start.facts region.facts news
    news_through = subst (Through h.prunes (all_ends h.turns) h.start.facts region.facts)
        (log_is log news grew.0 logged grew.2.fit grew.1) grew.2

    -- the slots of a region without facts
    nothing : new.facts.slots ≡ h.started.first.facts.slots
    nothing = ap (λ (P : StoreFields). P.slots) (empty ∙ sym h.started.empty)

    old_fit : FitsEach h.started.first.facts.slots olds
        × (h.started.full.facts.slots ≡ with_each h.started.first.facts.slots olds)
        × (h.started.full.number ≡ h.started.first.number)
    old_fit = taken_fit h.started.first olds h.started.full h.started.loaded

    news_fit : FitsEach (with_each h.started.first.facts.slots olds) news
    news_fit = (news_through.loads calm (with_each h.started.first.facts.slots olds)
        (subst (λ S. SlotsBelow S h.start.facts.slots) old_fit.1
        (pruned_below h.started.moment h.started.count h.started.full h.start h.started.pruned))).0

    fits : FitsEach new.facts.slots (olds ++ news)
    fits = subst (λ S. FitsEach S (olds ++ news)) (sym nothing)
        (fits_both h.started.first.facts.slots olds news old_fit.0 news_fit)

    known : EachBelow region.facts.slots (olds ++ news)
    known =
        let above = each_below h.started.first olds h.started.full h.started.fit h.started.loaded in
        let grown = slots_trans h.started.full.facts.slots h.start.facts.slots region.facts.slots
        (pruned_below h.started.moment h.started.count h.started.full h.start h.started.pruned)
        (turns_grow h.words true (logging h.terms h.start [] h.faults h.prunes) h.turns
        (logging h.shown region log h.told h.prunes) h.served).facts.slots in
        each_both region.facts.slots olds news
        (each_more h.started.full.facts.slots region.facts.slots olds grown above.each)
        (news_through.known calm)

    behind : (rest : List ℕ) → (front : TakesFront new bytes rest loaded)
        → Parted front.bundles (olds ++ news) rest are.rest
    behind rest front = parted front.bundles (olds ++ news) rest are.rest front.fit are.fit are.torn
        (sym front.parts ∙ are.parts)

    refused : (rest : List ℕ) → (front : TakesFront new bytes rest loaded) → IsRefused loaded rest
        → ⊥
    refused rest front none =
        let next = next_is (olds ++ news) front.bundles rest are.rest are.torn
        (behind rest front) none.0 none.1 in
        let taken = taken_fit new front.bundles loaded front.each in
        why next.0 next.1 taken.1 taken.2 none.2
      where
        why : (ys : List BundleFields) → (olds ++ news) ≡ front.bundles ++ none.0 ∷ ys
            → loaded.facts.slots ≡ with_each new.facts.slots front.bundles
            → loaded.number ≡ new.number
            → (has_unmade (next_in (place_in loaded)) none.0.items ≡ true)
            ⊎ ¬ AllFit loaded.facts.slots none.0.items → ⊥
        why ys is slots number (inl unmade) =
            sealed_clash
            (sym (none_unmade new.number (next_in (place_in loaded)) region none.0.items fresh
            number
            (each_behind region.facts.slots front.bundles none.0 ys
            (subst (EachBelow region.facts.slots) is known)))
            ∙ unmade)
        why ys is slots number (inr differs) =
            differs (subst (λ S. AllFit S none.0.items) (sym slots)
            (fits_behind new.facts.slots front.bundles none.0 ys
            (subst (FitsEach new.facts.slots) is fits)))

    by : (result : Result ℕ LoadFault) → Loads new bytes result loaded → IsNotRefused result
    by (Ok dropped) h = tt
    by (Err load.Memory) h = tt
    by (Err load.CannotRead) h = tt
    by (Err (load.Malformed at)) h =
        some_front (olds ++ news) h.1.bundles h.0 are.rest are.torn (behind h.0 h.1) h.2
    by (Err (load.Refused at)) h = refused h.0 h.1 h.2
