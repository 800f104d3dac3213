-- What events do to a world, exactly: to its regions' stores and its bundles (own).
--   Turns          the store of an open region becomes another
--   MakesAt        the fact made for what was heard, if any, is added to a region
--   OpensAt, AnswersAt, PullsAt, DeliversAt, PrunesAt, PrunesSomeAt
--                  how an event of each kind may end
--   ActBy, ActsBy  one event, and one after another, if requests go this way
use Rattle.std.specs.Prelude.{◌≡◌, ◌⊎◌, ℕ, List, [], ◌∷◌, ◌++◌, length, slice_get}
use Rattle.std.specs.Prelude.{Option, Some, None, IsSome, IfSome, Ok, Err}
use Rattle.std.specs.FinMap as map
use Rattle.tk_handle.specs.declared.dot.Dot.{Dot}
use Rattle.tk_vector.specs.VersionVector.{Vector}
use Rattle.tk_store.specs.StoreFields.{StoreFields, empty_store}
use Rattle.tk_ledger.specs.Retention.{Prunes}
use Rattle.tk_ledger.specs.Slices.{PrunesSome}
use Rattle.tk_bundle.specs.BundleFields.{BundleFields}
use Rattle.tk_bundle.specs.Page.{page_of}
use Rattle.tk_region.specs.RegionFields.{with_made}
use Rattle.tk_region.specs.Step.{IsNextFact}
use Rattle.tk_region.specs.Taking.{Takes}
use Rattle.tk_region.specs.declared.take.TakeError.TheVariants as take
use Rattle.tk_edge.specs.Answers.{answer_by, fact_by}
use Rattle.tk_edge.specs.declared.hear.Arrival.{Arrival}
use Rattle.tk_world.specs.declared.event.Event.{Event}
use Rattle.tk_world.specs.declared.event.Event.TheVariants as event
use Rattle.tk_world.specs.declared.event.Outcome.{Outcome}
use Rattle.tk_world.specs.declared.event.Outcome.TheVariants.{Opened, NumberTaken, NoRegion}
use Rattle.tk_world.specs.declared.event.Outcome.TheVariants.{NoBundle, Reply, Bundle, Took, Pruned}
use Rattle.tk_world.specs.declared.event.Outcome.TheVariants.{PrunedSome, Memory}
use Rattle.tk_world.specs.AskedFields.{AskedFields}
use Rattle.tk_world.specs.Carrying.{Way}
use Rattle.tk_world.specs.WorldFields.{WorldFields, with_store, with_bundles, region_at}

-- the store P of an open region becomes Q, and nothing else changes
pub record Turns (old : WorldFields) (r : ℕ) (P Q : StoreFields) (new : WorldFields) : Type 0
  where
    pub is_open : map.get old.regions r ≡ Some P
    pub changes : new ≡ with_store old r Q

-- no region is open under the number, and nothing changed
abbrev pub IsNoRegion : WorldFields → ℕ → WorldFields → Type 0
IsNoRegion old r new = (map.get old.regions r ≡ None) × (new ≡ old)

-- a region is open under the number, and nothing changed
abbrev pub IsIdle : WorldFields → ℕ → WorldFields → Type 0
IsIdle old r new = IsSome (map.get old.regions r) × (new ≡ old)

-- the fact made for what a region with the store P heard, if any, is its next and is added
abbrev pub MakesAt : WorldFields → ℕ → StoreFields → AskedFields → Arrival → WorldFields → Type 0
MakesAt old r P asked heard new =
    Turns old r P (with_made P (fact_by (region_at old r P) asked.now asked.words heard)) new
    × IfSome (fact_by (region_at old r P) asked.now asked.words heard)
    (IsNextFact (region_at old r P))

-- ---- what each event may do, and with which outcomes

-- opening a region may end with a region that knows nothing, a number that is taken, or no memory
abbrev pub OpensAt : WorldFields → ℕ → Outcome → WorldFields → Type 0
OpensAt old n Opened new =
    (map.get old.regions n ≡ None) × (new ≡ with_store old n empty_store)
OpensAt old n NumberTaken new = IsIdle old n new
OpensAt old n Memory new = IsNoRegion old n new
OpensAt old n outcome new = ⊥

-- the reply shows the region's answer to what the bytes are heard as, and the fact made for it, if
-- any, is added
abbrev pub AnswersAt : Way → WorldFields → ℕ → AskedFields → Outcome → WorldFields → Type 0
AnswersAt way old r asked (Reply status bytes) new =
    (P : StoreFields) × (heard : Arrival) × way.Hears asked.bytes heard
    × way.Shows (answer_by (region_at old r P) asked.now asked.words heard) status bytes.items
    × MakesAt old r P asked heard new
AnswersAt way old r asked NoRegion new = IsNoRegion old r new
AnswersAt way old r asked Memory new = IsIdle old r new
AnswersAt way old r asked outcome new = ⊥

-- the page above the cursor of what the vector doesn't cover joins the list of bundles
abbrev pub PullsAt : WorldFields → ℕ → Vector → Option Dot → Outcome → WorldFields → Type 0
PullsAt old r v after (Bundle index count last more) new =
    (P : StoreFields) × (map.get old.regions r ≡ Some P)
    × (let page = page_of P v after in
    (index ≡ length old.bundles) × (count ≡ length page.bundle.items) × (last ≡ page.last)
    × (more ≡ page.more) × (new ≡ with_bundles old (old.bundles ++ page.bundle ∷ [])))
PullsAt old r v after NoRegion new = IsNoRegion old r new
PullsAt old r v after Memory new = IsIdle old r new
PullsAt old r v after outcome new = ⊥

-- The region takes the bundle in, of which n dots were unknown. If memory runs out, nothing
-- changed, or the horizon is raised and the first of the items are in.
abbrev pub DeliversAt : WorldFields → ℕ → ℕ → Outcome → WorldFields → Type 0
DeliversAt old i r (Took n) new =
    (P Q : StoreFields) × Turns old r P Q new × (b : BundleFields)
    × (slice_get old.bundles i ≡ Some b) × Takes P b (Ok n) Q
DeliversAt old i r Memory new =
    (P Q : StoreFields) × Turns old r P Q new × (b : BundleFields)
    × (slice_get old.bundles i ≡ Some b) × ((Q ≡ P) ⊎ Takes P b (Err take.Memory) Q)
DeliversAt old i r NoRegion new = IsNoRegion old r new
DeliversAt old i r NoBundle new = (slice_get old.bundles i ≡ None) × IsIdle old r new
DeliversAt old i r outcome new = ⊥

-- the region skips the n facts of families that are over at its horizon, which is not before the
-- moment
abbrev pub PrunesAt : WorldFields → ℕ → ℕ → Outcome → WorldFields → Type 0
PrunesAt old r moment (Pruned n) new =
    (P Q : StoreFields) × Turns old r P Q new × Prunes P moment n Q
PrunesAt old r moment NoRegion new = IsNoRegion old r new
PrunesAt old r moment Memory new = IsIdle old r new
PrunesAt old r moment outcome new = ⊥

-- the region looks at `count` facts above the cursor, and those that may go are skipped, at its
-- horizon, which is not before the moment; the slice has the next cursor
abbrev pub PrunesSomeAt : WorldFields → ℕ → ℕ → Option Dot → ℕ → Outcome → WorldFields → Type 0
PrunesSomeAt old r moment after count (PrunedSome slice) new =
    (P Q : StoreFields) × Turns old r P Q new × PrunesSome P moment after count slice Q
PrunesSomeAt old r moment after count NoRegion new = IsNoRegion old r new
PrunesSomeAt old r moment after count outcome new = ⊥

-- ---- events, one after another

-- the event may have this outcome and lead from the old world to the new one, if requests go this
-- way
abbrev pub ActBy : Way → WorldFields → Event → Outcome → WorldFields → Type 0
ActBy way old (event.Open n) outcome new = OpensAt old n outcome new
ActBy way old (event.Request r now words bytes) outcome new =
    AnswersAt way old r (record { now = now; words = words; bytes = bytes.items }) outcome new
ActBy way old (event.Pull r v after) outcome new = PullsAt old r v after outcome new
ActBy way old (event.Deliver i r) outcome new = DeliversAt old i r outcome new
ActBy way old (event.Prune r moment) outcome new = PrunesAt old r moment outcome new
ActBy way old (event.PruneSome r moment after count) outcome new =
    PrunesSomeAt old r moment after count outcome new

-- one event after another, if requests go this way
abbrev pub ActsBy : Way → WorldFields → List Event → List Outcome → WorldFields → Type 0
ActsBy way old [] [] new = new ≡ old
ActsBy way old (e ∷ es) (o ∷ os) new =
    (mid : WorldFields) × ActBy way old e o mid × ActsBy way mid es os new
ActsBy way old es os new = ⊥
