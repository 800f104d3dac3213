-- Bytes are the bundles of one list alone, and what taking these in leaves. Key results:
--   parted        bundles at the front of bytes are the first of all bundles there
--   one_list      bytes are the bundles of one list alone
--   each_below    bundles that were taken in are below what is known then
--   each_from     each slot is as it was, or below what is above the bundles
use Rattle.std.proofs.Common.{◌≡◌, ℕ, ◌≤◌, max, List, [], ◌∷◌, ◌++◌, append-nil, append_assoc}
use Rattle.std.proofs.Common.{Option, None, Some, Ok, Err, inl, inr, refl, sym, ap, subst, arith}
use Rattle.std.proofs.Common.{◌∙◌}
use Rattle.std.specs.FinMap as map
use Rattle.std.proofs.lemmas.Grind.{flat_map-append}
use Rattle.tk_format.specs.Exact.{prefix_free}
use Rattle.tk_handle.specs.declared.dot.Dot.{Dot}
use Rattle.tk_store.specs.SlotJoining.{AllBelow}
use Rattle.tk_store.specs.SlotOrder.{SlotsBelow}
use Rattle.tk_store.specs.Slots.{Slots, with_slots}
use Rattle.tk_store.specs.StoreFields.{StoreFields}
use Rattle.tk_store.proofs.FitLaws.{fit_below}
use Rattle.tk_store.proofs.SlotOrderLaws.{slots_itself, slots_trans}
use Rattle.tk_bundle.specs.BundleFields.{BundleFields, Items}
use Rattle.tk_bundle.specs.Bundle.{bundle, bundle_bytes}
use Rattle.tk_bundle.specs.BundleLaws.{bundle_exact}
use Rattle.tk_bundle.specs.Front.{walk}
use Rattle.tk_bundle.specs.declared.error.FrontError.TheVariants as front
use Rattle.tk_bundle.specs.FrontLaws.{walk_bundle}
use Rattle.tk_region.specs.RegionFields.{RegionFields}
use Rattle.tk_region.specs.Taking.{items_taken, raised}
use Rattle.tk_region.proofs.FitsLaws.{fits_differ}
use Rattle.tokend.specs.KeptLog.{AreAmong, AreLogged, IsIn, IsTorn}
use Rattle.tokend.specs.Loading.{AreBundles, TakesEach, log_bytes}
use Rattle.tokend.proofs.KeptSlots.{IsFrom, below_more, from_twice, items_below, items_from}

-- ---- bytes

-- two lists of bundles that fit are one list of bundles that fit
pub both_bundles : (xs ys : List BundleFields) → AreBundles xs → AreBundles ys
    → AreBundles (xs ++ ys)
both_bundles [] ys a b = b
both_bundles (x ∷ xs) ys a b = (a.0, both_bundles xs ys a.1 b)

-- the bytes of two lists of bundles follow one another
pub both_bytes : (xs ys : List BundleFields) → log_bytes (xs ++ ys) ≡ log_bytes xs ++ log_bytes ys
both_bytes xs ys = flat_map-append bundle_bytes xs ys

-- a walk that succeeded didn't run out of bytes
not_cut : (more : List ℕ) → Ok more ≡ Err front.Cut → ⊥
not_cut more e = cc

-- no bundle begins what is nothing, or is cut
pub no_end : (b : BundleFields) (more rest : List ℕ) → bundle.Fits b → rest ≡ bundle_bytes b ++ more
    → IsTorn rest → ⊥
no_end b more rest fits e (inl none) = no_bytes (sym none ∙ e)
  where
    no_bytes : [] ≡ bundle_bytes b ++ more → ⊥
    no_bytes e = absurd (cc)
no_end b more rest fits e (inr cut) =
    not_cut more (sym (walk_bundle b more fits) ∙ sym (ap walk e) ∙ cut)

-- the bundles at the front are the first of all bundles, and behind them are the others
pub record Parted (xs ys : List BundleFields) (rest cut : List ℕ) : Type 0 where
  pub more : List BundleFields
  pub fit : AreBundles more
  pub all : ys ≡ xs ++ more
  pub left : rest ≡ log_bytes more ++ cut

-- a log that begins with some bundles and has others in all has the first among these
pub parted : (xs ys : List BundleFields) (rest cut : List ℕ) → AreBundles xs → AreBundles ys
    → IsTorn cut → log_bytes xs ++ rest ≡ log_bytes ys ++ cut → Parted xs ys rest cut
parted [] ys rest cut fx fy torn e = record { more = ys; fit = fy; all = refl; left = e }
parted (x ∷ xs) [] rest cut fx fy torn e =
    absurd (no_end x (log_bytes xs ++ rest) cut fx.0
    (sym e ∙ append_assoc (bundle_bytes x) (log_bytes xs) rest) torn)
parted (x ∷ xs) (y ∷ ys) rest cut fx fy torn e =
    let first =
    prefix_free bundle bundle_exact x y (log_bytes xs ++ rest) (log_bytes ys ++ cut) fx.0 fy.0
    (sym (append_assoc (bundle_bytes x) (log_bytes xs) rest) ∙ e
    ∙ append_assoc (bundle_bytes y) (log_bytes ys) cut) in
    let tail = parted xs ys rest cut fx.1 fy.1 torn first.1 in
    record {
      more = tail.more;
      fit = tail.fit;
      all = ap (λ b. b ∷ ys) (sym first.0) ∙ ap (λ l. x ∷ l) tail.all;
      left = tail.left;
    }

-- bytes are the bundles of one list alone
pub one_list : (bytes : List ℕ) (xs ys : List BundleFields) → AreLogged bytes xs
    → AreLogged bytes ys → ys ≡ xs
one_list bytes xs ys a b =
    let p = parted xs ys a.rest b.rest a.fit b.fit b.torn (sym a.parts ∙ b.parts) in
    of p.more p.fit p.all p.left
  where
    of : (more : List BundleFields) → AreBundles more → ys ≡ xs ++ more
        → a.rest ≡ log_bytes more ++ b.rest → ys ≡ xs
    of [] fit all left = all ∙ append-nil xs
    of (m ∷ more) fit all left =
        absurd (no_end m (log_bytes more ++ b.rest) a.rest fit.0
        (left ∙ append_assoc (bundle_bytes m) (log_bytes more) b.rest) a.torn)

-- ---- what taking bundles in leaves

-- the items of each bundle are below the slots
abbrev pub EachBelow : Slots → List BundleFields → Type 0
EachBelow U [] = Unit {0}
EachBelow U (b ∷ more) = AllBelow U b.items × EachBelow U more

-- no bundle's horizon is later
abbrev pub IsNotLater : Option ℕ → ℕ → Type 0
IsNotLater None horizon = Unit {0}
IsNotLater (Some moment) horizon = moment ≤ horizon

-- no horizon of the bundles is later
abbrev pub NoneLater : List BundleFields → ℕ → Type 0
NoneLater [] horizon = Unit {0}
NoneLater (b ∷ more) horizon = IsNotLater b.horizon horizon × NoneLater more horizon

-- the slots after items are taken in are the old ones with these items
pub taken_slots : (P Q : StoreFields) (horizon : Option ℕ) (items : Items)
    → Q ≡ items_taken (raised P horizon) items → Q.slots ≡ with_slots P.slots items
taken_slots P Q None items is = ap (λ (R : StoreFields). R.slots) is
taken_slots P Q (Some moment) items is = ap (λ (R : StoreFields). R.slots) is

-- the later of two moments isn't before the second
at_least : (m n : ℕ) → m ≤ max n m
at_least m n = omega (arith)

-- the later of two moments isn't before the first
no_earlier : (m n : ℕ) → n ≤ max n m
no_earlier m n = omega (arith)

-- with a second moment that is later, the later of two is no earlier
no_later : (m n k : ℕ) → m ≤ k → max n m ≤ max n k
no_later m n k h = omega (arith, h)

-- the later of two moments isn't before the first, whatever the second
itself : (n k : ℕ) → n ≤ max n k
itself n k = omega (arith)

-- the horizon of a store with items is that of their bundle, or later
pub taken_horizon : (P Q : StoreFields) (horizon : Option ℕ) (items : Items)
    → Q ≡ items_taken (raised P horizon) items
    → IsNotLater horizon Q.horizon × (P.horizon ≤ Q.horizon)
taken_horizon P Q None items is =
    (tt, subst (λ n. P.horizon ≤ n) (sym (ap (λ (R : StoreFields). R.horizon) is)) (omega (arith)))
taken_horizon P Q (Some moment) items is = (
  subst (λ n. moment ≤ n) (sym (ap (λ (R : StoreFields). R.horizon) is))
      (at_least moment P.horizon),
  subst (λ n. P.horizon ≤ n) (sym (ap (λ (R : StoreFields). R.horizon) is))
      (no_earlier moment P.horizon),
)

-- the horizon of a store with items isn't later than the old one, or than what is no earlier than
-- that of their bundle
pub horizon_from : (P Q : StoreFields) (horizon : Option ℕ) (items : Items) (u : ℕ)
    → Q ≡ items_taken (raised P horizon) items → IsNotLater horizon u → Q.horizon ≤ max P.horizon u
horizon_from P Q None items u is low = subst (λ n. n ≤ max P.horizon u)
    (sym (ap (λ (R : StoreFields). R.horizon) is)) (itself P.horizon u)
horizon_from P Q (Some moment) items u is low =
    subst (λ n. n ≤ max P.horizon u) (sym (ap (λ (R : StoreFields). R.horizon) is))
    (no_later moment P.horizon u low)

-- a horizon that is not later than a moment is not later than a later one
pub later_more : (h : Option ℕ) (m n : ℕ) → m ≤ n → IsNotLater h m → IsNotLater h n
later_more None m n le h = tt
later_more (Some moment) m n le h = omega (arith, le, h)

-- bundles that were taken in are below what is known then, as is what was known before
pub record IsAbove (old : RegionFields) (bundles : List BundleFields)
    (new : RegionFields) : Type 0 where
  pub slots : SlotsBelow old.facts.slots new.facts.slots
  pub each : EachBelow new.facts.slots bundles
  pub late : NoneLater bundles new.facts.horizon
  pub horizon : old.facts.horizon ≤ new.facts.horizon

-- a region that took in bundles knows all of their items, and its horizon is not before theirs
pub each_below : (old : RegionFields) (bundles : List BundleFields) (new : RegionFields)
    → AreBundles bundles → TakesEach old bundles new → IsAbove old bundles new
each_below old [] new fit same = record {
  slots = subst (λ r. SlotsBelow old.facts.slots r.facts.slots) (sym same)
      (slots_itself old.facts.slots);
  each = tt;
  late = tt;
  horizon = subst (λ r. old.facts.horizon ≤ r.facts.horizon) (sym same) (omega (arith));
}
each_below old (b ∷ more) new fit h =
    let rest = each_below h.0 more new fit.1 h.2 in
    let agree = h.1.1.takes.1 in
    let is = taken_slots old.facts h.0.facts b.horizon b.items h.1.1.takes.2.0 in
    let late = taken_horizon old.facts h.0.facts b.horizon b.items h.1.1.takes.2.0 in
    let grown : SlotsBelow old.facts.slots h.0.facts.slots =
    subst (SlotsBelow old.facts.slots) (sym is) (fit_below old.facts.slots b.items agree) in
    let below : AllBelow h.0.facts.slots b.items =
    subst (λ S. AllBelow S b.items) (sym is)
    (items_below old.facts.slots b.items (fits_differ b fit.0) agree) in
    record {
      slots = slots_trans old.facts.slots h.0.facts.slots new.facts.slots grown rest.slots;
      each = (below_more h.0.facts.slots new.facts.slots b.items rest.slots below, rest.each);
      late =
          (later_more b.horizon h.0.facts.horizon new.facts.horizon rest.horizon late.0, rest.late);
      horizon = omega (arith, late.1, rest.horizon);
    }

-- each slot is as it was, or below what is above the bundles
pub each_from : (old : RegionFields) (bundles : List BundleFields) (new : RegionFields) (U : Slots)
    → TakesEach old bundles new → EachBelow U bundles → (d : Dot)
    → IsFrom (map.get U d) (map.get old.facts.slots d) (map.get new.facts.slots d)
each_from old [] new U same each d = inl (ap (λ (r : RegionFields). map.get r.facts.slots d) same)
each_from old (b ∷ more) new U h each d =
    from_twice (map.get U d) (map.get old.facts.slots d) (map.get h.0.facts.slots d)
    (map.get new.facts.slots d)
    (subst (λ S. IsFrom (map.get U d) (map.get old.facts.slots d) (map.get S d))
    (sym (taken_slots old.facts h.0.facts b.horizon b.items h.1.1.takes.2.0))
    (items_from U old.facts.slots b.items each.0 d)) (each_from h.0 more new U h.2 each.1 d)

-- ---- lists of bundles

-- the items of one of the bundles are known if those of all are
pub below_in : (U : Slots) (b : BundleFields) (all : List BundleFields) → IsIn b all
    → EachBelow U all → AllBelow U b.items
below_in U b [] h each = absurd h
below_in U b (x ∷ xs) (inl is) each = subst (λ (y : BundleFields). AllBelow U y.items) is each.0
below_in U b (x ∷ xs) (inr more) each = below_in U b xs more each.1

-- the items of some of the bundles are known if those of all are
pub below_among : (U : Slots) (xs all : List BundleFields) → AreAmong xs all → EachBelow U all
    → EachBelow U xs
below_among U [] all h each = tt
below_among U (x ∷ xs) all h each = (below_in U x all h.0 each, below_among U xs all h.1 each)

-- if no bundle of a list is later than a horizon, a bundle in the list isn't
later_in : (horizon : ℕ) (b : BundleFields) (all : List BundleFields) → IsIn b all
    → NoneLater all horizon → IsNotLater b.horizon horizon
later_in horizon b [] h late = absurd h
later_in horizon b (x ∷ xs) (inl is) late =
    subst (λ (y : BundleFields). IsNotLater y.horizon horizon) is late.0
later_in horizon b (x ∷ xs) (inr more) late = later_in horizon b xs more late.1

-- the horizons of some of the bundles are no later than those of all
pub later_among : (horizon : ℕ) (xs all : List BundleFields) → AreAmong xs all
    → NoneLater all horizon → NoneLater xs horizon
later_among horizon [] all h late = tt
later_among horizon (x ∷ xs) all h late =
    (later_in horizon x all h.0 late, later_among horizon xs all h.1 late)

-- items that are known stay known when more is
pub each_more : (S T : Slots) (bundles : List BundleFields) → SlotsBelow S T → EachBelow S bundles
    → EachBelow T bundles
each_more S T [] h each = tt
each_more S T (b ∷ more) h each = (below_more S T b.items h each.0, each_more S T more h each.1)
