-- Each event of a world is a step of the state for which the world stands. Key results:
--   step_for                     one event
--   step_standing, pull_standing, deliver_standing, prune_standing, slice_standing
--                                the world still stands for a state
--   bundle_agrees, bundle_made   no region of a world refuses a bundle of that world
use Rattle.std.proofs.Common.{◌≡◌, ℕ, false, slice_get, Option, Some, ap, ◌∙◌}
use Rattle.std.specs.FinMap as map
use Rattle.tk_handle.specs.declared.dot.Dot.{Dot}
use Rattle.tk_vector.specs.VersionVector.{Vector}
use Rattle.tk_store.specs.FactSet.{FactSet}
use Rattle.tk_store.specs.StoreFields.{StoreFields}
use Rattle.tk_bundle.specs.BundleFields.{BundleFields}
use Rattle.tk_region.specs.RegionFields.{place_in}
use Rattle.tk_message.specs.Place.{next_in}
use Rattle.tk_region.specs.Taking.{AgreesWith, has_unmade}
use Rattle.tk_world.specs.declared.event.Event.{Event}
use Rattle.tk_world.specs.declared.event.Event.TheVariants.{Open, Request, Pull, Deliver, Prune}
use Rattle.tk_world.specs.declared.event.Event.TheVariants.{PruneSome}
use Rattle.tk_world.specs.declared.event.Outcome.{Outcome}
use Rattle.tk_world.specs.Acts.{PullsAt, DeliversAt, PrunesAt, PrunesSomeAt, ActBy}
use Rattle.tk_world.specs.Carrying.{Way, in_place}
use Rattle.tk_world.specs.State.{Sent, State}
use Rattle.tk_world.specs.WorldFields.{WorldFields, region_at}
use Rattle.tk_world.specs.WorldStands.{BundleStands, WorldStands, IsStanding}
use Rattle.tk_world.proofs.AlikeLaws.{stands_dots}
use Rattle.tk_world.proofs.ItemLaws.{bundle_at, items_agree, items_made}
use Rattle.tk_world.proofs.KnownLaws.{next_same}
use Rattle.tk_world.proofs.RequestStands.{asked_for}
use Rattle.tk_world.proofs.StandsLaws.{OpenFor, open_for}
use Rattle.tk_world.proofs.StepStands.{StepFor, deliver_step_for, open_step_for, prune_step_for}
use Rattle.tk_world.proofs.StepStands.{pull_step_for, slice_step_for}

-- ---- any event

-- what an event did to a world is a step of each state for which the world stands
pub step_for : (way : Way) (w : WorldFields) (e : Event) (o : Outcome) (new : WorldFields)
    → ActBy way w e o new → (U : FactSet) (s : State) → WorldStands w U s → StepFor way s e o new
step_for way w (Open n) o new act U s S = open_step_for way w n o new act U s S
step_for way w (Request r now words q) o new act U s S =
    let x =
    asked_for way w r (record { now = now; words = words; bytes = q.items }) o new act U s S in
    record { seen = x.seen; made = x.made; after = x.after; step = x.answer; stands = x.stands }
step_for way w (Pull r v after) o new act U s S =
    let x = pull_step_for w r v after o new act U s S in
    record { seen = x.seen; made = x.made; after = x.after_it; step = x.pulls; stands = x.stands }
step_for way w (Deliver i r) o new act U s S = deliver_step_for way w i r o new act U s S
step_for way w (Prune r moment) o new act U s S = prune_step_for way w r moment o new act U s S
step_for way w (PruneSome r moment after count) o new act U s S =
    slice_step_for way w r moment after count o new act U s S

-- an event leaves a world that stands for a state
pub step_standing : (way : Way) (w : WorldFields) (e : Event) (o : Outcome) (new : WorldFields)
    → ActBy way w e o new → IsStanding w → IsStanding new
step_standing way w e o new act standing =
    let x = step_for way w e o new act standing.0 standing.1 standing.2 in
    (x.made, x.after, x.stands)

-- a world stands for a state after a pull, if it did before
pub pull_standing : (w : WorldFields) (r : ℕ) (v : Vector) (after : Option Dot) (o : Outcome)
    (new : WorldFields)
    → PullsAt w r v after o new → IsStanding w → IsStanding new
pull_standing w r v after o new act standing =
    let x = pull_step_for w r v after o new act standing.0 standing.1 standing.2 in
    (x.made, x.after_it, x.stands)

-- a world stands for a state after a delivery, if it did before
pub deliver_standing : (w : WorldFields) (i r : ℕ) (o : Outcome) (new : WorldFields)
    → DeliversAt w i r o new → IsStanding w → IsStanding new
deliver_standing w i r o new act standing =
    let x = deliver_step_for in_place w i r o new act standing.0 standing.1 standing.2 in
    (x.made, x.after, x.stands)

-- a world stands for a state after a prune, if it did before
pub prune_standing : (w : WorldFields) (r moment : ℕ) (o : Outcome) (new : WorldFields)
    → PrunesAt w r moment o new → IsStanding w → IsStanding new
prune_standing w r moment o new act standing =
    let x = prune_step_for in_place w r moment o new act standing.0 standing.1 standing.2 in
    (x.made, x.after, x.stands)

-- a world stands for a state after a slice of a prune, if it did before
pub slice_standing : (w : WorldFields) (r moment : ℕ) (after : Option Dot) (count : ℕ) (o : Outcome)
    (new : WorldFields)
    → PrunesSomeAt w r moment after count o new → IsStanding w → IsStanding new
slice_standing w r moment after count o new act standing =
    let x =
    slice_step_for in_place w r moment after count o new act standing.0 standing.1 standing.2 in
    (x.made, x.after, x.stands)

-- ---- a bundle that a region has no reason to refuse

module _ (w : WorldFields) (standing : IsStanding w) (r : ℕ) (P : StoreFields)
    (at : map.get w.regions r ≡ Some P) (i : ℕ) (b : BundleFields)
    (there : slice_get w.bundles i ≡ Some b) where
  -- all facts made
  abbrev U : FactSet
  U = standing.0

  -- the state for which the world stands
  abbrev s : State
  s = standing.1

  -- the region is open in the state
  open_here : OpenFor w U s r P
  open_here = open_for w U s standing.2 r P at

  -- the state has a bundle at the same index, for which the world's bundle stands
  sent_here : (c : Sent) × (slice_get s.bundles i ≡ Some c) × BundleStands U b c
  sent_here = bundle_at U w.bundles s.bundles i b standing.2.bundles there

  -- what the region knows agrees with the bundle
  pub bundle_agrees : AgreesWith P.slots b.items
  bundle_agrees =
      items_agree P U open_here.k.facts open_here.stands b.horizon b.items sent_here.0.facts
      sent_here.2.items
      (standing.2.consists.carried i sent_here.0 sent_here.1).0

  -- the region has made each dot of the bundle under its own number
  pub bundle_made : has_unmade (next_in (place_in (region_at w r P))) b.items ≡ false
  bundle_made =
      ap (λ n. has_unmade (record { region = r; serial = n }) b.items)
      (next_same P.slots open_here.k.facts (stands_dots P U open_here.k.facts open_here.stands) r)
      ∙ items_made s U standing.2.consists r open_here.k open_here.at b.horizon b.items
      sent_here.0.facts sent_here.2.items
      (standing.2.consists.carried i sent_here.0 sent_here.1).0
