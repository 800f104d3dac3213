-- Bundles and the facts for which they stand. Key results:
--   page_items       the items of a page stand for the facts of the page
--   items_stand      a store stands for the facts of a bundle once it took the items in
--   items_agree      no region of a world finds a conflict in a bundle of that world
--   items_made       a region has made each dot under its own number
use Rattle.std.proofs.Common.{◌≡◌, ◌⊎◌, inl, inr, ℕ, zero, suc, ◌+◌, ◌-◌, ◌<◌, ◌≤◌, ◌==◌, ◌&&◌}
use Rattle.std.proofs.Common.{◌||◌, nat_le, nat_lt, max, Bool, true, false, cond, List, [], ◌∷◌}
use Rattle.std.proofs.Common.{◌++◌, length, map, take, slice_get, Option, Some, None, refl}
use Rattle.std.proofs.Common.{sym, ap, subst, ◌∙◌, arith}
use Rattle.std.proofs.lemmas.Bool.{true≢false, or_from}
use Rattle.std.proofs.lemmas.Bool.Decides.{nat_tests}
use Rattle.std.specs.FinMap as sets
use Rattle.std.specs.List.{list_any}
use Rattle.tk_handle.specs.declared.dot.Dot.{Dot}
use Rattle.tk_fact.specs.Keeping.{kept_for, is_passing}
use Rattle.tk_fact.specs.declared.body.Body.{Body}
use Rattle.tk_fact.specs.declared.body.Body.TheVariants as body
use Rattle.tk_vector.specs.VersionVector.{Vector}
use Rattle.tk_store.specs.Beyond.{beyond}
use Rattle.tk_store.specs.FactSet.{FactSet, Facts, AllIn, IsSubset, dot_of, with_facts}
use Rattle.tk_store.specs.NextDot.{next_serial}
use Rattle.tk_store.specs.SlotOrder.{SlotAgrees}
use Rattle.tk_store.specs.Slots.{Slot, Slots, Held, Skipped, joined_slot, with_slots}
use Rattle.tk_store.specs.StoreFields.{StoreFields}
use Rattle.tk_store.proofs.EntryLaws.{AllIn-beyond}
use Rattle.tk_store.proofs.NextDotLaws.{at_most_last_serial}
use Rattle.tk_store.proofs.PutLaws.{by_dot, get_here, none_is_not_some, some_injective}
use Rattle.tk_ledger.specs.Retention.{MaySkip}
use Rattle.tk_bundle.specs.BundleFields.{BundleFields, Items, is_mark}
use Rattle.tk_bundle.specs.Bundle.{max_items}
use Rattle.tk_bundle.specs.Page as bundles
use Rattle.tk_region.specs.Taking.{AgreesWith, has_unmade, is_unmade, items_taken, raised}
use Rattle.tk_retention.specs.StandsFor.{SlotStands, StandsFor}
use Rattle.tk_retention.proofs.KeepingLaws.{may_more, slot_more, slot_put}
use Rattle.tk_world.specs.Pages.{page_of}
use Rattle.tk_world.specs.State.{Kept, Sent, State, Consists}
use Rattle.tk_world.specs.World.{raised_to}
use Rattle.tk_world.specs.WorldStands.{ItemStands, ItemsStand, BundleStands, BundlesStand}
use Rattle.tk_world.proofs.AlikeLaws.{stands_dots}
use Rattle.tk_world.proofs.KnownLaws.{beyond_dots, length_dots, take_dots}
use Rattle.tk_ledger.proofs.SkipLaws.{passing_kept}

-- ---- pages

-- the first facts of a list that is in a set are in it
AllIn-part : {X : Type 0} (S : sets.FinMap _ X) (k : ℕ) (es : List (Dot × X)) → AllIn S es
    → AllIn S (take k es)
AllIn-part S zero es all = tt
AllIn-part S (suc k) [] all = tt
AllIn-part S (suc k) (e ∷ es) all = (all.0, AllIn-part S k es all.1)

module _ (P : StoreFields) (U F : FactSet) (S : StandsFor P U F) where
  -- an item that a store knows stands for the fact at its dot
  one_item : (horizon : Option ℕ) (d : Dot) (x : Slot) (b : Body)
      → (is_mark (d, x) ≡ true → horizon ≡ Some P.horizon) → sets.get P.slots d ≡ Some x
      → sets.get F d ≡ Some b → ItemStands U horizon d x b
  one_item horizon d (Held c) b marks at here =
      let stands : SlotStands U P.horizon d (Some (Held c)) (Some b) =
      subst (λ (f : Option Body). SlotStands U P.horizon d (Some (Held c)) f) here
      (subst (λ (o : Option Slot). SlotStands U P.horizon d o (sets.get F d)) at (S d)) in
      some_injective c b (sym stands.0)
  one_item horizon d Skipped b marks at here = (
    P.horizon,
    marks refl,
    (subst (λ (o : Option Slot). SlotStands U P.horizon d o (sets.get F d)) at (S d)).1,
  )

  -- equal lists of dots have the same first dot
  first_same : (d e : Dot) (ds es : List Dot) → d ∷ ds ≡ e ∷ es → d ≡ e
  first_same d e ds es h = cc

  -- equal lists of dots have the same rest
  rest_same : (d e : Dot) (ds es : List Dot) → d ∷ ds ≡ e ∷ es → ds ≡ es
  rest_same d e ds es h = cc

  -- one of two tests passes if the second does
  or_right : (a b : Bool) → b ≡ true → (a || b) ≡ true
  or_right true b h = refl
  or_right false b h = h

  -- one of two tests passes if the first does
  or_left : (a b : Bool) → a ≡ true → (a || b) ≡ true
  or_left a b h = subst (λ x. (x || b) ≡ true) (sym h) refl

  -- items of a store stand for facts at the same dots, if the facts stand in the store
  known_items : (horizon : Option ℕ) (is : Items) (fs : Facts)
      → (list_any is_mark is ≡ true → horizon ≡ Some P.horizon) → map dot_of is ≡ map dot_of fs
      → AllIn P.slots is → AllIn F fs → ItemsStand U horizon is fs
  known_items horizon [] [] marks dots known held = tt
  known_items horizon [] (f ∷ fs) marks dots known held = cc
  known_items horizon (i ∷ is) [] marks dots known held = cc
  known_items horizon (i ∷ is) (f ∷ fs) marks dots known held =
      let same : i.0 ≡ f.0 = first_same i.0 f.0 (map dot_of is) (map dot_of fs) dots in (
        same,
        one_item horizon f.0 i.1 f.1 (λ m. marks (or_left (is_mark i) (list_any is_mark is) m))
            (ap (sets.get P.slots) (sym same) ∙ known.0) held.0,
        known_items horizon is fs (λ m. marks (or_right (is_mark i) (list_any is_mark is) m))
            (rest_same i.0 f.0 (map dot_of is) (map dot_of fs) dots) known.1 held.1,
      )

  module _ (v : Vector) (after : Option Dot) where
    -- the items of a page of the store
    abbrev its_items : Items
    its_items = (bundles.page_of P v after).bundle.items

    -- the facts of a page of all facts
    abbrev its_facts : Facts
    its_facts = (page_of F v after).facts

    -- the dots that the vector does not cover are the same in the store and in the facts
    beyond_same : map dot_of (beyond P.slots v after) ≡ map dot_of (beyond F v after)
    beyond_same = beyond_dots P.slots F (stands_dots P U F S) v after

    -- the dots of the page are the same in the store and in the facts
    page_dots : map dot_of its_items ≡ map dot_of its_facts
    page_dots = take_dots max_items (beyond P.slots v after) ∙ ap (take max_items) beyond_same
        ∙ sym (take_dots max_items (beyond F v after))

    -- a page with a mark has the store's horizon
    horizon_marks : (t : Bool) → t ≡ true → cond t (Some P.horizon) None ≡ Some P.horizon
    horizon_marks true h = refl
    horizon_marks false h = absurd (true≢false (sym h))

    -- the items of a page stand for the facts of the page
    pub page_items : ItemsStand U (bundles.page_of P v after).bundle.horizon its_items its_facts
    page_items =
        known_items (bundles.page_of P v after).bundle.horizon its_items its_facts
        (horizon_marks (list_any is_mark its_items)) page_dots
        (AllIn-part P.slots max_items (beyond P.slots v after) (AllIn-beyond P.slots v after))
        (AllIn-part F max_items (beyond F v after) (AllIn-beyond F v after))

    -- the horizon of a page is none, or the store's
    pub page_horizon : ((bundles.page_of P v after).bundle.horizon ≡ None)
        ⊎ ((bundles.page_of P v after).bundle.horizon ≡ Some P.horizon)
    page_horizon = by (list_any is_mark its_items)
      where
        by : (t : Bool)
            → (cond t (Some P.horizon) None ≡ None)
            ⊎ (cond t (Some P.horizon) None ≡ Some P.horizon)
        by true = inr refl
        by false = inl refl

    -- a page of the store has as many items as the page of its facts has facts
    pub page_length : length its_items ≡ length its_facts
    page_length = sym (length_dots its_items) ∙ ap length page_dots ∙ length_dots its_facts

    -- the page of the store and the page of its facts end at the same dot
    pub page_last : (bundles.page_of P v after).last ≡ (page_of F v after).last
    page_last = ap (λ (ds : List Dot). slice_get ds (length its_items - 1)) page_dots
        ∙ ap (λ n. slice_get (map dot_of its_facts) (n - 1)) page_length

    -- more follows the page of the store exactly if more follows the page of its facts
    pub page_more : (bundles.page_of P v after).more ≡ (page_of F v after).more
    page_more = ap (nat_lt max_items)
        (sym (length_dots (beyond P.slots v after)) ∙ ap length beyond_same
        ∙ length_dots (beyond F v after))

-- ---- bundles

-- what stands for a bundle where more facts were made
module _ (U V : FactSet) (within : IsSubset U V) where
  -- an item that stands for a fact still does with more facts made
  item_more : (horizon : Option ℕ) (d : Dot) (x : Slot) (b : Body) → ItemStands U horizon d x b
      → ItemStands V horizon d x b
  item_more horizon d (Held c) b h = h
  item_more horizon d Skipped b h = (h.0, h.1, may_more U V within h.0 h.0 (omega arith) d h.2)

  -- items that stand for facts still do with more facts made
  items_more : (horizon : Option ℕ) (is : Items) (fs : Facts) → ItemsStand U horizon is fs
      → ItemsStand V horizon is fs
  items_more horizon [] [] h = tt
  items_more horizon (i ∷ is) (f ∷ fs) h =
      (h.0, item_more horizon f.0 i.1 f.1 h.1, items_more horizon is fs h.2)
  items_more horizon is fs h = absurd h

  -- bundles stand for what was sent when more facts are made, too
  pub bundles_more : (bs : List BundleFields) (cs : List Sent) → BundlesStand U bs cs
      → BundlesStand V bs cs
  bundles_more [] [] h = tt
  bundles_more (b ∷ bs) (c ∷ cs) h = (
    record {
      horizon = h.0.horizon;
      items = items_more b.horizon b.items c.facts h.0.items;
    },
    bundles_more bs cs h.1,
  )
  bundles_more bs cs h = absurd h

module _ (U : FactSet) where
  -- bundles stand for what was sent with one more bundle, if that stands for one more page
  pub bundles_and : (bs : List BundleFields) (cs : List Sent) (b : BundleFields) (c : Sent)
      → BundlesStand U bs cs → BundleStands U b c → BundlesStand U (bs ++ b ∷ []) (cs ++ c ∷ [])
  bundles_and [] [] b c h one = (one, tt)
  bundles_and (x ∷ bs) (y ∷ cs) b c h one = (h.0, bundles_and bs cs b c h.1 one)
  bundles_and bs cs b c h one = absurd h

  -- there are as many bundles as pages that were sent
  pub bundles_length : (bs : List BundleFields) (cs : List Sent) → BundlesStand U bs cs
      → length bs ≡ length cs
  bundles_length [] [] h = refl
  bundles_length (x ∷ bs) (y ∷ cs) h = ap suc (bundles_length bs cs h.1)
  bundles_length bs cs h = absurd h

  -- a bundle at an index stands for that of the state
  pub bundle_at : (bs : List BundleFields) (cs : List Sent) (i : ℕ) (b : BundleFields)
      → BundlesStand U bs cs → slice_get bs i ≡ Some b
      → (c : Sent) × (slice_get cs i ≡ Some c) × BundleStands U b c
  bundle_at [] [] zero b h at = absurd (none_is_not_some b at)
  bundle_at [] [] (suc i) b h at = absurd (none_is_not_some b at)
  bundle_at (x ∷ bs) (y ∷ cs) zero b h at =
      (y, refl, subst (λ (z : BundleFields). BundleStands U z y) (some_injective x b at) h.0)
  bundle_at (x ∷ bs) (y ∷ cs) (suc i) b h at = bundle_at bs cs i b h.1 at
  bundle_at bs cs i b h at = absurd h

  -- no bundle is at an index where the state has none
  pub no_bundle_at : (bs : List BundleFields) (cs : List Sent) (i : ℕ) → BundlesStand U bs cs
      → slice_get bs i ≡ None → slice_get cs i ≡ None
  no_bundle_at [] [] zero h at = refl
  no_bundle_at [] [] (suc i) h at = refl
  no_bundle_at (x ∷ bs) (y ∷ cs) zero h at = absurd (none_is_not_some x (sym at))
  no_bundle_at (x ∷ bs) (y ∷ cs) (suc i) h at = no_bundle_at bs cs i h.1 at
  no_bundle_at bs cs i h at = absurd h

  -- the first items stand for the first facts
  pub items_part : (horizon : Option ℕ) (k : ℕ) (is : Items) (fs : Facts)
      → ItemsStand U horizon is fs → ItemsStand U horizon (take k is) (take k fs)
  items_part horizon zero is fs h = tt
  items_part horizon (suc k) [] [] h = tt
  items_part horizon (suc k) (i ∷ is) (f ∷ fs) h = (h.0, h.1, items_part horizon k is fs h.2)
  items_part horizon (suc k) is fs h = absurd h

-- ---- taking a bundle in

-- what slots stand for, at a horizon
abbrev SlotsStand : FactSet → ℕ → Slots → FactSet → Type 0
SlotsStand U t S F = (d : Dot) → SlotStands U t d (sets.get S d) (sets.get F d)

module _ (U : FactSet) (t : ℕ) where
  -- what is known of a dot, joined with an item for its fact, stands for that fact
  joined_stands : (horizon : Option ℕ) → ((m : ℕ) → horizon ≡ Some m → m ≤ t)
      → (d : Dot) (o : Option Slot) (f : Option Body) (x : Slot) (b : Body) → SlotStands U t d o f
      → sets.get U d ≡ Some b → ItemStands U horizon d x b
      → SlotStands U t d (Some (joined_slot o x)) (Some b)
  joined_stands horizon late d None f (Held c) b h made item =
      (sym (ap (λ (y : Body). Some y) item), made ∙ sym (ap (λ (y : Body). Some y) item))
  joined_stands horizon late d None f Skipped b h made item =
      (sym made, may_more U U (λ q y z. z) item.0 t (late item.0 item.1) d item.2)
  joined_stands horizon late d (Some (Held e)) f (Held c) b h made item = (sym made ∙ h.1, h.1)
  joined_stands horizon late d (Some (Held e)) f Skipped b h made item =
      (sym made, may_more U U (λ q y z. z) item.0 t (late item.0 item.1) d item.2)
  joined_stands horizon late d (Some Skipped) f x b h made item = (sym made, h.1)

  -- slots with an item joined stand for the facts with the item's fact
  put_stands : (S : Slots) (F : FactSet) (horizon : Option ℕ) → ((m : ℕ) → horizon ≡ Some m → m ≤ t)
      → (d : Dot) (x : Slot) (b : Body) → SlotsStand U t S F → sets.get U d ≡ Some b
      → ItemStands U horizon d x b
      → SlotsStand U t (sets.insert S d (joined_slot (sets.get S d) x)) (sets.insert F d b)
  put_stands S F horizon late d x b stands made item =
      slot_put U t S d (joined_slot (sets.get S d) x) (sets.insert F d b)
      (subst (λ (f : Option Body). SlotStands U t d (Some (joined_slot (sets.get S d) x)) f)
      (sym (get_here F d b))
      (joined_stands horizon late d (sets.get S d) (sets.get F d) x b (stands d) made item))
      (λ q ne. subst (λ (f : Option Body). SlotStands U t q (sets.get S q) f)
      (sym (by_dot (λ o. o ≡ sets.get F q) F d b q (λ same. absurd (ne same)) refl)) (stands q))

  -- slots with all items joined stand for the facts with the items' facts
  all_stand : (horizon : Option ℕ) → ((m : ℕ) → horizon ≡ Some m → m ≤ t)
      → (is : Items) (fs : Facts) (S : Slots) (F : FactSet) → ItemsStand U horizon is fs
      → AllIn U fs → SlotsStand U t S F → SlotsStand U t (with_slots S is) (with_facts F fs)
  all_stand horizon late [] [] S F items all stands = stands
  all_stand horizon late (i ∷ is) (f ∷ fs) S F items all stands =
      all_stand horizon late is fs (sets.insert S i.0 (joined_slot (sets.get S i.0) i.1))
      (sets.insert F f.0 f.1) items.2 all.1
      (subst (λ (d : Dot).
      SlotsStand U t (sets.insert S d (joined_slot (sets.get S d) i.1)) (sets.insert F f.0 f.1))
      (sym items.0)
      (put_stands S F horizon late f.0 i.1 f.1 stands all.0 items.1))
  all_stand horizon late is fs S F items all stands = absurd items

-- the horizon that a bundle raises
pub raised_horizon : (P : StoreFields) (h : ℕ) (horizon moment : Option ℕ) → h ≡ P.horizon
    → moment ≡ horizon → raised_to h moment ≡ (raised P horizon).horizon
raised_horizon P h horizon moment same is = ap (raised_to h) is ∙ by horizon
  where
    by : (o : Option ℕ) → raised_to h o ≡ (raised P o).horizon
    by None = same
    by (Some m) = ap (λ x. max x m) same

-- a store stands for the facts of a bundle once it took the items in
pub items_stand : (P : StoreFields) (U F : FactSet) (horizon : Option ℕ) (is : Items) (fs : Facts)
    → ItemsStand U horizon is fs → AllIn U fs → StandsFor P U F
    → StandsFor (items_taken (raised P horizon) is) U (with_facts F fs)
items_stand P U F None is fs items all S =
    all_stand U P.horizon None (λ m h. absurd (none_is_not_some m h)) is fs P.slots F items all S
items_stand P U F (Some moment) is fs items all S =
    all_stand U (max P.horizon moment) (Some moment) (λ m h. late m (some_injective moment m h)) is
    fs P.slots F items all
    (λ d. slot_more U U (λ q y z. z) P.horizon (max P.horizon moment) (omega arith) d
    (sets.get P.slots d) (sets.get F d) (S d))
  where
    late : (m : ℕ) → moment ≡ m → m ≤ max P.horizon moment
    late m same = omega (arith, same)

-- ---- a bundle that a region has no reason to refuse

-- a fact at a dot that may be skipped is of a kind that may be skipped
passes_of : (U : FactSet) (t : ℕ) (d : Dot) (b : Body) → MaySkip (sets.get U) t d
    → sets.get U d ≡ Some b → is_passing b ≡ true
passes_of U t d b may at =
    let same : may.fact ≡ b = some_injective may.fact b (sym may.here ∙ at) in
    passing_kept d b may.token (ap (kept_for d) (sym same) ∙ may.kept)

module _ (P : StoreFields) (U F : FactSet) (S : StandsFor P U F) where
  -- an item that stands for a fact agrees with the slot at its dot
  agrees : (horizon : Option ℕ) (d : Dot) (o : Option Slot) (f : Option Body) (x : Slot) (b : Body)
      → SlotStands U P.horizon d o f → sets.get U d ≡ Some b → ItemStands U horizon d x b
      → SlotAgrees o (Some x)
  agrees horizon d None f x b h made item = tt
  agrees horizon d (Some (Held e)) f (Held c) b h made item =
      some_injective e c (sym h.1 ∙ made ∙ ap (λ (y : Body). Some y) (sym item))
  agrees horizon d (Some (Held e)) f Skipped b h made item = passes_of U item.0 d e item.2 h.1
  agrees horizon d (Some Skipped) f (Held c) b h made item =
      passes_of U P.horizon d c h.1 (made ∙ ap (λ (y : Body). Some y) (sym item))
  agrees horizon d (Some Skipped) f Skipped b h made item = tt

  -- what is known agrees with the items of a bundle
  pub items_agree : (horizon : Option ℕ) (is : Items) (fs : Facts) → ItemsStand U horizon is fs
      → AllIn U fs → AgreesWith P.slots is
  items_agree horizon [] [] items all = tt
  items_agree horizon (i ∷ is) (f ∷ fs) items all = (
    subst (λ (d : Dot). SlotAgrees (sets.get P.slots d) (Some i.1)) (sym items.0)
        (agrees horizon f.0 (sets.get P.slots f.0) (sets.get F f.0) i.1 f.1 (S f.0) all.0 items.1),
    items_agree horizon is fs items.2 all.1,
  )
  items_agree horizon is fs items all = absurd items

-- a dot below the next serial of a region isn't one of the region from that serial on
before : (region r serial next : ℕ) → (region ≡ r → serial < next)
    → (region == r) && nat_le next serial ≡ false
before region r serial next h = grind (arith, nat_tests)

module _ (s : State) (U : FactSet) (c : Consists s U) (r : ℕ) (k : Kept)
    (at : sets.get s.regions r ≡ Some k) where
  -- a region holds all facts under its own number
  own_held : (d : Dot) (b : Body) → sets.get U d ≡ Some b → d.region ≡ r
      → sets.get k.facts d ≡ Some b
  own_held d b h own =
      let home = c.home d b h in
      ap (λ (x : Kept). sets.get x.facts d)
      (some_injective k home.0 (sym at ∙ ap (sets.get s.regions) (sym own) ∙ home.1))
      ∙ home.2

  -- a fact under a region's own number has a serial below the next one
  own_before : (d : Dot) (b : Body) → sets.get U d ≡ Some b → d.region ≡ r
      → d.serial < next_serial k.facts r
  own_before d b h own =
      let most = at_most_last_serial r (sets.entries k.facts) d b own
      (sym (sets.get-entries k.facts d) ∙ own_held d b h own) in
      omega arith

  -- a region has made each dot under its own number
  pub items_made : (horizon : Option ℕ) (is : Items) (fs : Facts) → ItemsStand U horizon is fs
      → AllIn U fs → has_unmade (record { region = r; serial = next_serial k.facts r }) is ≡ false
  items_made horizon [] [] items all = refl
  items_made horizon (i ∷ is) (f ∷ fs) items all =
      let next : Dot = record { region = r; serial = next_serial k.facts r } in
      or_from (is_unmade next i.0) (has_unmade next is)
      (ap (is_unmade next) items.0
      ∙ before f.0.region r f.0.serial (next_serial k.facts r)
      (λ own. own_before f.0 f.1 all.0 own))
      (items_made horizon is fs items.2 all.1)
  items_made horizon is fs items all = absurd items
