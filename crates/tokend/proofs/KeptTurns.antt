-- What turns and connections, one after the other, add to a log and a store. Key results:
--   through    each turn adds bundles that fit, one after the other
--   fits_both, each_both   of two lists that follow one another
use Rattle.std.proofs.Common.{◌≡◌, ℕ, ◌≤◌, max, Bool, true, false, List, [], ◌∷◌, ◌++◌, append-nil}
use Rattle.std.proofs.Common.{append_assoc, Option, None, Some, inl, inr, refl, sym, ap, subst}
use Rattle.std.proofs.Common.{arith, ◌∙◌}
use Rattle.std.specs.Prelude.{◌⊎◌}
use Rattle.std.specs.FinMap as map
use Rattle.std.specs.Io.KnownBytes.{Appends}
use Rattle.rand_chacha.specs.ChaCha.{ChaCha}
use Rattle.tk_handle.specs.declared.dot.Dot.{Dot}
use Rattle.tk_store.specs.SlotJoining.{AllFit}
use Rattle.tk_store.specs.SlotOrder.{SlotBelow, SlotsBelow}
use Rattle.tk_store.specs.Slots.{Slots, with_slots}
use Rattle.tk_store.specs.StoreFields.{StoreFields}
use Rattle.tk_store.proofs.SlotOrderLaws.{slots_trans}
use Rattle.tk_bundle.specs.BundleFields.{BundleFields}
use Rattle.tk_bundle.specs.Bundle.{bundle_bytes}
use Rattle.tk_edge.specs.EdgeFields.{EdgeFields}
use Rattle.tokend.specs.Decisions.{Ending}
use Rattle.tokend.specs.Draw.{past_six, six}
use Rattle.tokend.specs.KeptLog.{AreCalm}
use Rattle.tokend.specs.Loading.{AreBundles, log_bytes}
use Rattle.tokend.specs.Pruning.{slice_size}
use Rattle.tokend.specs.Turns.{AreDecisions, AreTurns, Endings, IsKept, IsLost, IsPause, IsTurn}
use Rattle.tokend.specs.Turns.{Running, all_ends, past_each}
use Rattle.tokend.proofs.TurnGrowth.{decisions_grow, log_stays, pause_grows, prunes_stay}
use Rattle.tokend.proofs.TurnGrowth.{sealed_stays, turn_prunes, turns_grow}
use Rattle.tokend.proofs.KeptSlots.{IsLeft, below_more, left_twice}
use Rattle.tokend.proofs.SliceLaws.{Leaves, slice_above, slice_leaves}
use Rattle.tokend.proofs.LogBundles.{EachBelow, NoneLater, each_more}
use Rattle.tokend.proofs.KeptDecisions.{decisions_stay, turns_stay, decision_adds}
use Rattle.tokend.proofs.LogGains.{IsSame, Brings, Grows, sealed_clash, same_late}
use Rattle.tokend.proofs.LogBundles.{both_bundles as bundles_both}

-- each bundle fits what the bundles before it left
abbrev pub FitsEach : Slots → List BundleFields → Type 0
FitsEach L [] = Unit {0}
FitsEach L (b ∷ more) = AllFit L b.items × FitsEach (with_slots L b.items) more

-- the slots with the items of all bundles, one bundle after the other
abbrev pub with_each : Slots → List BundleFields → Slots
with_each L [] = L
with_each L (b ∷ more) = with_each (with_slots L b.items) more

-- the bundles say how a store became another, over requests that ended so, and slices that were
-- pruned if the region prunes itself
pub record Through (prunes : Bool) (ends : Endings) (F G : StoreFields)
    (bundles : List BundleFields) : Type 0 where
  pub fit : AreBundles bundles
  pub from : (U : Slots) → EachBelow U bundles → (d : Dot)
      → IsLeft prunes (map.get U d) (map.get F.slots d) (map.get G.slots d)
  pub late : prunes ≡ false → (u : ℕ) → NoneLater bundles u → G.horizon ≤ max F.horizon u
  pub loads : AreCalm ends → (L : Slots) → SlotsBelow L F.slots
      → FitsEach L bundles × SlotsBelow (with_each L bundles) G.slots
  pub known : AreCalm ends → EachBelow G.slots bundles

-- a store that is unchanged grew by no bundles
same_through : (prunes : Bool) (F G : StoreFields) → G ≡ F → Through prunes [] F G []
same_through prunes F G is = record {
  fit = tt;
  from = λ U each d. inl (inl (ap (λ (P : StoreFields). map.get P.slots d) is));
  late = λ off u late. same_late G.horizon F.horizon u (ap (λ (P : StoreFields). P.horizon) is);
  loads = λ calm L below. (tt, subst (λ (P : StoreFields). SlotsBelow L P.slots) (sym is) below);
  known = λ calm. tt;
}

-- slots below a store are below one that is the same
below_same : (L : Slots) (F G : StoreFields) → IsSame F G → SlotsBelow L F.slots
    → SlotsBelow L G.slots
below_same L F G same below d =
    subst (λ o. SlotBelow (map.get L d) o) (sym (same.slots d)) (below d)

-- a horizon that grew twice, each time up to u at most, grew up to u at most
late_twice : (f m g u : ℕ) → g ≤ max m u → m ≤ max f u → g ≤ max f u
late_twice f m g u h k = omega (arith, h, k)

-- a connection that left the store as it was, before others
after_same : (prunes : Bool) (end : Ending) (ends : Endings) (F M G : StoreFields)
    (bundles : List BundleFields)
    → IsSame F M → Through prunes ends M G bundles → Through prunes (end ∷ ends) F G bundles
after_same prunes end ends F M G bundles same rest = record {
  fit = rest.fit;
  from = λ U each d. subst (λ o. IsLeft prunes (map.get U d) o (map.get G.slots d)) (same.slots d)
      (rest.from U each d);
  late = λ off u late. subst (λ n. G.horizon ≤ max n u) same.horizon (rest.late off u late);
  loads = λ calm L below. rest.loads calm.1 L (below_same L F M same below);
  known = λ calm. rest.known calm.1;
}

-- a connection whose bundle was logged, before others
after_bundle : (prunes : Bool) (end : Ending) (ends : Endings) (F M G : StoreFields)
    (b : BundleFields) (bundles : List BundleFields)
    → Brings end.end F M b → Through prunes ends M G bundles
    → SlotsBelow M.slots G.slots → Through prunes (end ∷ ends) F G (b ∷ bundles)
after_bundle prunes end ends F M G b bundles brings rest grown = record {
  fit = (brings.fits, rest.fit);
  from = λ U each d. left_twice prunes (map.get U d) (map.get F.slots d) (map.get M.slots d)
      (map.get G.slots d) (inl (brings.from U each.0 d)) (rest.from U each.1 d);
  late = λ off u late.
      late_twice F.horizon M.horizon G.horizon u (rest.late off u late.1) (brings.late u late.0);
  loads = λ calm L below.
      let one = brings.loads calm.0 L below in
      let more = rest.loads calm.1 (with_slots L b.items) one.1 in
      ((one.0, more.0), more.1);
  known =
      λ calm. (below_more M.slots G.slots b.items grown (brings.known calm.0), rest.known calm.1);
}

-- logs that are equal have equal bytes
one_log : (l m : List ℕ) → Some l ≡ Some m → l ≡ m
one_log l m e = cc

-- the records are these bundles, by which the store grew over these connections
abbrev Logs : Bool → Endings → List ℕ → StoreFields → StoreFields → Type 0
Logs prunes ends records F G =
    (bundles : List BundleFields) × (records ≡ log_bytes bundles) × Through prunes ends F G bundles

-- a request's record, and those of the requests behind it, show how the store grew
more_logged : (prunes : Bool) (end : Ending) (ends : Endings) (first rest : List ℕ)
    (F M G : StoreFields)
    → Grows end.end (Some []) (Some first) F M → SlotsBelow M.slots G.slots
    → Logs prunes ends rest M G → Logs prunes (end ∷ ends) (first ++ rest) F G
more_logged prunes end ends first rest F M G (inl h) grown more =
    (more.0, ap (λ x. x ++ rest) h.0 ∙ more.1, after_same prunes end ends F M G more.0 h.1 more.2)
more_logged prunes end ends first rest F M G (inr h) grown more = (
  h.0 ∷ more.0,
  ap (λ x. x ++ rest) h.1 ∙ ap (λ x. bundle_bytes h.0 ++ x) more.1,
  after_bundle prunes end ends F M G h.0 more.0 h.2 more.2 grown,
)

-- the records of decisions show how the store of their region grew
decisions_logged : (prunes : Bool) (words : ChaCha) (old : EdgeFields) (ends : Endings)
    (records : List ℕ) (new : EdgeFields)
    → AreDecisions words true old ends records new
    → old.sealed ≡ false → new.sealed ≡ false
    → Logs prunes ends records old.region.facts new.region.facts
decisions_logged prunes words old [] records new h open_old open_new = (
  [],
  h.1,
  same_through prunes old.region.facts new.region.facts
      (ap (λ (e : EdgeFields). e.region.facts) h.0),
)
decisions_logged prunes words old (end ∷ ends) records new h open_old open_new =
    elim h.0.sealed as
    (λ b. h.0.sealed ≡ b → Logs prunes (end ∷ ends) records old.region.facts new.region.facts) [
      | true ↦ λ e. absurd
          (sealed_clash (sym open_new ∙ decisions_stay (past_six words) h.0 ends h.2 new h.5 e))
      | false ↦ λ e.
          subst (λ r. Logs prunes (end ∷ ends) r old.region.facts new.region.facts) (sym h.4)
          (more_logged prunes end ends h.1 h.2 old.region.facts h.0.region.facts new.region.facts
          (decision_adds (six words) old end h.1 h.0 h.3 open_old e)
          (decisions_grow (past_six words) true h.0 ends h.2 new h.5).facts.slots
          (decisions_logged prunes (past_six words) h.0 ends h.2 new h.5 e open_new))
    ] refl

-- if no connection of two lists ran out of memory, no connection of the first did
calm_first : (xs ys : Endings) → AreCalm (xs ++ ys) → AreCalm xs
calm_first [] ys h = tt
calm_first (x ∷ xs) ys h = (h.0, calm_first xs ys h.1)

-- if no connection of two lists ran out of memory, no connection of the second did
calm_rest : (xs ys : Endings) → AreCalm (xs ++ ys) → AreCalm ys
calm_rest [] ys h = h
calm_rest (x ∷ xs) ys h = calm_rest xs ys h.1

-- if all bundles of two lists are below the slots, those of the first are
each_first : (U : Slots) (xs ys : List BundleFields) → EachBelow U (xs ++ ys) → EachBelow U xs
each_first U [] ys h = tt
each_first U (x ∷ xs) ys h = (h.0, each_first U xs ys h.1)

-- if all bundles of two lists are below the slots, those of the second are
each_rest : (U : Slots) (xs ys : List BundleFields) → EachBelow U (xs ++ ys) → EachBelow U ys
each_rest U [] ys h = h
each_rest U (x ∷ xs) ys h = each_rest U xs ys h.1

-- if no bundle of two lists is later, none of the first is
late_first : (u : ℕ) (xs ys : List BundleFields) → NoneLater (xs ++ ys) u → NoneLater xs u
late_first u [] ys h = tt
late_first u (x ∷ xs) ys h = (h.0, late_first u xs ys h.1)

-- if no bundle of two lists is later, none of the second is
late_rest : (u : ℕ) (xs ys : List BundleFields) → NoneLater (xs ++ ys) u → NoneLater ys u
late_rest u [] ys h = h
late_rest u (x ∷ xs) ys h = late_rest u xs ys h.1

-- all items of two lists of bundles are known if those of each are
pub each_both : (U : Slots) (xs ys : List BundleFields) → EachBelow U xs → EachBelow U ys
    → EachBelow U (xs ++ ys)
each_both U [] ys h k = k
each_both U (x ∷ xs) ys h k = (h.0, each_both U xs ys h.1 k)

-- the bundles of two lists together are joined as the first list and then the second
with_both : (L : Slots) (xs ys : List BundleFields)
    → with_each L (xs ++ ys) ≡ with_each (with_each L xs) ys
with_both L [] ys = refl
with_both L (x ∷ xs) ys = with_both (with_slots L x.items) xs ys

-- two lists of bundles fit one after the other
pub fits_both : (L : Slots) (xs ys : List BundleFields) → FitsEach L xs
    → FitsEach (with_each L xs) ys → FitsEach L (xs ++ ys)
fits_both L [] ys h k = k
fits_both L (x ∷ xs) ys h k = (h.0, fits_both (with_slots L x.items) xs ys h.1 k)

-- the bytes of two lists of bundles, one behind the other, are those of both together
log_both : (xs ys : List BundleFields) → log_bytes xs ++ log_bytes ys ≡ log_bytes (xs ++ ys)
log_both [] ys = refl
log_both (x ∷ xs) ys = append_assoc (bundle_bytes x) (log_bytes xs) (log_bytes ys)
    ∙ ap (λ l. bundle_bytes x ++ l) (log_both xs ys)

-- the bundles of connections, and of later ones
through_both : (prunes : Bool) (xs ys : Endings) (F M G : StoreFields) (bs cs : List BundleFields)
    → Through prunes xs F M bs → Through prunes ys M G cs → SlotsBelow M.slots G.slots
    → Through prunes (xs ++ ys) F G (bs ++ cs)
through_both prunes xs ys F M G bs cs h k grown = record {
  fit = bundles_both bs cs h.fit k.fit;
  from = λ U each d. left_twice prunes (map.get U d) (map.get F.slots d) (map.get M.slots d)
      (map.get G.slots d) (h.from U (each_first U bs cs each) d)
      (k.from U (each_rest U bs cs each) d);
  late = λ off u late. late_twice F.horizon M.horizon G.horizon u
      (k.late off u (late_rest u bs cs late)) (h.late off u (late_first u bs cs late));
  loads = λ calm L below.
      let one = h.loads (calm_first xs ys calm) L below in
      let two = k.loads (calm_rest xs ys calm) (with_each L bs) one.1 in (
        fits_both L bs cs one.0 two.0,
        subst (λ S. SlotsBelow S G.slots) (sym (with_both L bs cs)) two.1,
      );
  known = λ calm. each_both G.slots bs cs
      (each_more M.slots G.slots bs grown (h.known (calm_first xs ys calm)))
      (k.known (calm_rest xs ys calm));
}

-- what a log of this length grew by, over turns
abbrev pub Grew : Bool → List Endings → List ℕ → List ℕ → StoreFields → StoreFields → Type 0
Grew prunes turns l m F G = (bundles : List BundleFields) × (m ≡ l ++ log_bytes bundles)
    × Through prunes (all_ends turns) F G bundles

-- a turn whose edge isn't sealed behind it has kept its records
kept_turn : (prunes : Bool) (words : ChaCha) (old : Running) (ends : Endings) (new : Running)
    (l : List ℕ)
    → IsTurn words true old ends new → old.log ≡ Some l → old.edge.sealed ≡ false
    → new.edge.sealed ≡ false
    → (records : List ℕ) × (new.log ≡ Some (l ++ records))
    × Logs prunes ends records old.edge.region.facts new.edge.region.facts
kept_turn prunes words old ends new l h old_log open_old open_new = of h.log
  where
    appended : (o : Option (List ℕ)) → Appends (Some l) o h.records → o ≡ Some (l ++ h.records)
    appended None a = absurd a
    appended (Some m) a = ap (λ x. Some x) a

    of : IsKept old h.edge h.records h.told new ⊎ IsLost old h.edge h.records h.told new
        → (records : List ℕ) × (new.log ≡ Some (l ++ records))
        × Logs prunes ends records old.edge.region.facts new.edge.region.facts
    of (inl kept) = (
      h.records,
      appended new.log (subst (λ o. Appends o new.log h.records) old_log kept.log),
      subst (λ (e : EdgeFields). Logs prunes ends h.records old.edge.region.facts e.region.facts)
          (sym kept.edge)
          (decisions_logged prunes words old.edge ends h.records h.edge h.decided open_old
          (sym (ap (λ (e : EdgeFields). e.sealed) kept.edge) ∙ open_new)),
    )
    of (inr lost) =
        absurd (sealed_clash (sym open_new ∙ ap (λ (e : EdgeFields). e.sealed) lost.edge))

-- what a pause adds to a log, which is nothing
paused : (old new : Running) → IsPause old new
    → Through old.prunes [] old.edge.region.facts new.edge.region.facts []
paused old new (inl same) = same_through old.prunes old.edge.region.facts new.edge.region.facts
    (ap (λ (r : Running). r.edge.region.facts) same)
paused old new (inr (inl lacks)) = same_through old.prunes old.edge.region.facts
    new.edge.region.facts (ap (λ (r : Running). r.edge.region.facts) lacks.others)
paused old new (inr (inr (inr shows))) = same_through old.prunes old.edge.region.facts
    new.edge.region.facts (ap (λ (r : Running). r.edge.region.facts) shows.others)
paused old new (inr (inr (inl loses))) = record {
  fit = tt;
  from = λ U each d. of U d
      (slice_leaves F loses.moment loses.after slice_size loses.slice G loses.region.facts d);
  late = λ off. absurd (sealed_clash (sym off ∙ loses.prunes));
  loads = λ calm L below. (
    tt,
    slots_trans L F.slots G.slots below
        (slice_above F loses.moment loses.after slice_size loses.slice G loses.region.facts).slots,
  );
  known = λ calm. tt;
}
  where
    F : StoreFields
    F = old.edge.region.facts

    G : StoreFields
    G = new.edge.region.facts

    of : (U : Slots) (d : Dot) → Leaves (map.get F.slots d) (map.get G.slots d)
        → IsLeft old.prunes (map.get U d) (map.get F.slots d) (map.get G.slots d)
    of U d (inl same) = inl (inl same)
    of U d (inr gone) = inr (loses.prunes, gone.0, inl gone.1)

-- turns write bundles that have what they added to the region
pub through : (words : ChaCha) (old : Running) (turns : List Endings) (new : Running) (l m : List ℕ)
    → AreTurns words true old turns new
    → old.log ≡ Some l → new.log ≡ Some m → old.edge.sealed ≡ false → new.edge.sealed ≡ false
    → Grew old.prunes turns l m old.edge.region.facts new.edge.region.facts
through words old [] new l m h old_log new_log open_old open_new = (
  [],
  one_log m l (sym new_log ∙ ap (λ (r : Running). r.log) h ∙ old_log) ∙ sym (append-nil l),
  same_through old.prunes old.edge.region.facts new.edge.region.facts
      (ap (λ (r : Running). r.edge.region.facts) h),
)
through words old (ends ∷ turns) new l m h old_log new_log open_old open_new =
    elim h.0.edge.sealed as
    (λ b. h.0.edge.sealed ≡ b
    → Grew old.prunes (ends ∷ turns) l m old.edge.region.facts new.edge.region.facts) [
      | true ↦ λ e. absurd
          (sealed_clash
          (sym open_new
          ∙ turns_stay (past_each words ends) h.1 turns new h.4 (sealed_stays h.0 h.1 h.3 ∙ e)))
      | false ↦ λ e.
          let one = kept_turn old.prunes words old ends h.0 l h.2 old_log open_old e in
          let more = through (past_each words ends) h.1 turns new (l ++ one.0) m h.4
          (log_stays h.0 h.1 h.3 ∙ one.1) new_log (sealed_stays h.0 h.1 h.3 ∙ e) open_new in
          let bundles = one.2 in
          let behind = through_both old.prunes [] (all_ends turns) h.0.edge.region.facts
          h.1.edge.region.facts new.edge.region.facts [] more.0
          (subst (λ p. Through p [] h.0.edge.region.facts h.1.edge.region.facts []) turned
          (paused h.0 h.1 h.3))
          (subst (λ p.
          Through p (all_ends turns) h.1.edge.region.facts new.edge.region.facts more.0)
          (prunes_stay h.0 h.1 h.3 ∙ turned) more.2) grown in (
            bundles.0 ++ more.0,
            more.1 ∙ append_assoc l one.0 (log_bytes more.0)
                ∙ ap (λ x. l ++ x)
                (ap (λ x. x ++ log_bytes more.0) bundles.1 ∙ log_both bundles.0 more.0),
            through_both old.prunes ends (all_ends turns) old.edge.region.facts
                h.0.edge.region.facts new.edge.region.facts bundles.0 more.0 bundles.2 behind
                (slots_trans h.0.edge.region.facts.slots h.1.edge.region.facts.slots
                new.edge.region.facts.slots (pause_grows h.0 h.1 h.3).facts.slots grown),
          )
    ] refl
  where
    turned : h.0.prunes ≡ old.prunes
    turned = turn_prunes words true old ends h.0 h.2

    grown : SlotsBelow h.1.edge.region.facts.slots new.edge.region.facts.slots
    grown = (turns_grow (past_each words ends) true h.1 turns new h.4).facts.slots
