-- A world still stands for a state after each kind of event, and the event is a step of that state.
-- Key results:
--   open_step_for, pull_step_for, deliver_step_for, prune_step_for, slice_step_for
use Rattle.std.proofs.Common.{◌≡◌, ◌⊎◌, inl, inr, ℕ, max, List, [], ◌∷◌, take, Option, Some, None}
use Rattle.std.proofs.Common.{is_some, refl, sym, ap, subst, ◌∙◌, arith}
use Rattle.tk_handle.specs.declared.dot.Dot.{Dot}
use Rattle.tk_vector.specs.VersionVector.{Vector}
use Rattle.tk_store.specs.FactSet.{FactSet, Facts, AllIn, with_facts}
use Rattle.tk_store.specs.Joining.{JoinsFacts}
use Rattle.tk_store.specs.StoreFields.{StoreFields, empty_store, with_skipped, with_horizon}
use Rattle.tk_store.proofs.JoiningLaws.{joins_with_facts, joins_nothing}
use Rattle.tk_store.proofs.SubsetLaws.{subset_itself, subset_with_facts, keeps_with_facts}
use Rattle.tk_store.proofs.SubsetLaws.{AllIn-take, AllIn-subset}
use Rattle.tk_ledger.specs.Slices.{Steps}
use Rattle.tk_bundle.specs.Page as bundles
use Rattle.tk_region.specs.Taking.{items_taken, raised}
use Rattle.tk_retention.specs.StandsFor.{StandsFor}
use Rattle.tk_retention.proofs.KeepingLaws.{prune_stands}
use Rattle.tk_retention.proofs.SliceStands.{slice_stands}
use Rattle.tk_world.specs.declared.event.Event.{Event}
use Rattle.tk_world.specs.declared.event.Event.TheVariants.{Open, Deliver, Prune, PruneSome}
use Rattle.tk_world.specs.declared.event.Outcome.{Outcome}
use Rattle.tk_world.specs.declared.event.Outcome.TheVariants.{Opened, NumberTaken, NoRegion}
use Rattle.tk_world.specs.declared.event.Outcome.TheVariants.{NoBundle, Bundle, Took, Pruned}
use Rattle.tk_world.specs.declared.event.Outcome.TheVariants.{PrunedSome, Memory}
use Rattle.tk_world.specs.Acts.{OpensAt, PullsAt, DeliversAt, PrunesAt, PrunesSomeAt}
use Rattle.tk_world.specs.Carrying.{Way}
use Rattle.tk_world.specs.Pages.{page_of}
use Rattle.tk_world.specs.State.{Kept, Sent, State, new_kept, with_region, with_bundle}
use Rattle.tk_world.specs.World.{raised_to, IsPull, StepBy}
use Rattle.tk_world.specs.WorldFields.{WorldFields, with_store}
use Rattle.tk_world.specs.WorldStands.{WorldStands}
use Rattle.tk_world.proofs.AlikeLaws.{stands_dots}
use Rattle.tk_world.proofs.ConsistencyLaws.{AllIn-page, short_page, consists_kept, consists_opened}
use Rattle.tk_world.proofs.ConsistencyLaws.{consists_bundle}
use Rattle.tk_world.proofs.ItemLaws.{page_items, page_horizon, page_length, page_last, page_more}
use Rattle.tk_world.proofs.ItemLaws.{bundles_and, bundles_length, bundle_at, no_bundle_at}
use Rattle.tk_world.proofs.ItemLaws.{items_part, raised_horizon, items_stand}
use Rattle.tk_world.proofs.KnownLaws.{len_same}
use Rattle.tk_world.proofs.StandsLaws.{OpenFor, open_for, closed_for, some_for, stands_put}
use Rattle.tk_world.proofs.StandsLaws.{unchanged_stands, put_back, empty_stands}

-- ---- a step of the state for which a world stands

-- an event is a step of the state, and the new world stands for where that leads
pub record StepFor (way : Way) (s : State) (e : Event) (o : Outcome)
    (new : WorldFields) : Type 0 where
  pub seen : Facts
  pub made : FactSet
  pub after : State
  pub step : StepBy way s e o seen after
  pub stands : WorldStands new made after

-- ---- opening a region

-- opening a region is a step of each state for which the world stands
pub open_step_for : (way : Way) (w : WorldFields) (n : ℕ) (o : Outcome) (new : WorldFields)
    → OpensAt w n o new → (U : FactSet) (s : State) → WorldStands w U s
    → StepFor way s (Open n) o new
open_step_for way w n Opened new act U s S =
    let none = closed_for w U s S n act.0 in
    record {
      seen = [];
      made = U;
      after = with_region s n new_kept;
      step = (none, refl, refl);
      stands = unchanged_stands (with_store w n empty_store) new U (with_region s n new_kept) act.1
          (stands_put w U U s n empty_store new_kept S (subset_itself U)
          (consists_opened s U n S.consists none) S.sound (empty_stands U) refl);
    }
open_step_for way w n NumberTaken new act U s S = record {
  seen = [];
  made = U;
  after = s;
  step = (some_for w U s S n act.0, (refl, refl));
  stands = unchanged_stands w new U s act.1 S;
}
open_step_for way w n Memory new act U s S = record {
  seen = [];
  made = U;
  after = s;
  step = (closed_for w U s S n act.0, (refl, refl));
  stands = unchanged_stands w new U s act.1 S;
}
open_step_for way w n o new act U s S = absurd act

-- ---- making a bundle

-- a pull is a step of the state
pub record PullFor (s : State) (r : ℕ) (v : Vector) (after : Option Dot) (o : Outcome)
    (new : WorldFields) : Type 0 where
  pub seen : Facts
  pub made : FactSet
  pub after_it : State
  pub pulls : IsPull s r v after o seen after_it
  pub stands : WorldStands new made after_it

-- a pull is a step of each state for which the world stands
pub pull_step_for : (w : WorldFields) (r : ℕ) (v : Vector) (after : Option Dot) (o : Outcome)
    (new : WorldFields)
    → PullsAt w r v after o new → (U : FactSet) (s : State) → WorldStands w U s
    → PullFor s r v after o new
pull_step_for w r v after (Bundle index count last more) new act U s S =
    let P = act.0 in
    let x = open_for w U s S r P act.1 in
    let F = x.k.facts in
    let page = bundles.page_of P v after in
    let sent : Sent = record { facts = (page_of F v after).facts; horizon = page.bundle.horizon } in
    let level : (sent.horizon ≡ None) ⊎ (sent.horizon ≡ Some x.k.horizon) =
    subst (λ h. (sent.horizon ≡ None) ⊎ (sent.horizon ≡ Some h)) (sym x.horizon)
    (page_horizon P U F x.stands v after) in
    record {
      seen = [];
      made = U;
      after_it = with_bundle s sent;
      pulls = (
        x.k,
        x.at,
        refl,
        sent.horizon,
        level,
        (
          act.2.0 ∙ bundles_length U w.bundles s.bundles S.bundles,
          act.2.1 ∙ page_length P U F x.stands v after,
          act.2.2 ∙ page_last P U F x.stands v after,
          act.2.3 ∙ page_more P U F x.stands v after,
          refl,
        ),
      );
      stands = unchanged_stands _ new U (with_bundle s sent) act.2.4 (record {
        settings = S.settings;
        consists = consists_bundle s U sent S.consists
            (AllIn-subset F U sent.facts (S.consists.held r x.k x.at) (AllIn-page F v after))
            (short_page F v after);
        sound = S.sound;
        regions = S.regions;
        bundles = bundles_and U w.bundles s.bundles page.bundle sent S.bundles
            (record { horizon = refl; items = page_items P U F x.stands v after });
      });
    }
pull_step_for w r v after NoRegion new act U s S = record {
  seen = [];
  made = U;
  after_it = s;
  pulls = (closed_for w U s S r act.0, (refl, refl));
  stands = unchanged_stands w new U s act.1 S;
}
pull_step_for w r v after Memory new act U s S = record {
  seen = [];
  made = U;
  after_it = s;
  pulls = (some_for w U s S r act.0, (refl, refl));
  stands = unchanged_stands w new U s act.1 S;
}
pull_step_for w r v after o new act U s S = absurd act

-- ---- a delivery

-- the items of a bundle, or the first of them, are in
record TakenFor (w : WorldFields) (U : FactSet) (s : State) (r : ℕ) (k : Kept) (Q : StoreFields)
    (moment : Option ℕ) (seen : Facts) : Type 0 where
  joins : JoinsFacts k.facts seen (with_facts k.facts seen)
  stands_now : StandsFor Q U (with_facts k.facts seen)
  stays : WorldStands (with_store w r Q) U
      (with_region s r
      (record { facts = with_facts k.facts seen; horizon = raised_to k.horizon moment }))

-- items that a region took in leave a world that stands for the state with their facts
taken_for : (w : WorldFields) (U : FactSet) (s : State) → WorldStands w U s
    → (r : ℕ) (P Q : StoreFields) (x : OpenFor w U s r P) (horizon moment : Option ℕ) (is : _)
    (seen : Facts)
    → Q ≡ items_taken (raised P horizon) is → moment ≡ horizon
    → StandsFor (items_taken (raised P horizon) is) U (with_facts x.k.facts seen) → AllIn U seen
    → TakenFor w U s r x.k Q moment seen
taken_for w U s S r P Q x horizon moment is seen taken same stands all =
    let F = x.k.facts in
    let within = S.consists.held r x.k x.at in
    let now : StandsFor Q U (with_facts F seen) =
    subst (λ (R : StoreFields). StandsFor R U (with_facts F seen)) (sym taken) stands in
    let j : Kept = record { facts = with_facts F seen; horizon = raised_to x.k.horizon moment } in
    record {
      joins = joins_with_facts U F seen within all;
      stands_now = now;
      stays = stands_put w U U s r Q j S (subset_itself U)
          (consists_kept s U r x.k j S.consists x.at (subset_with_facts F U seen within all)
          (keeps_with_facts F U seen within all)) S.sound now
          (raised_horizon P x.k.horizon horizon moment x.horizon same
          ∙ ap (λ (R : StoreFields). R.horizon) (sym taken));
    }

-- a delivery is a step of each state for which the world stands
pub deliver_step_for : (way : Way) (w : WorldFields) (i r : ℕ) (o : Outcome) (new : WorldFields)
    → DeliversAt w i r o new → (U : FactSet) (s : State) → WorldStands w U s
    → StepFor way s (Deliver i r) o new
deliver_step_for way w i r (Took n) new act U s S =
    let P = act.0 in
    let Q = act.1 in
    let x = open_for w U s S r P act.2.is_open in
    let c = bundle_at U w.bundles s.bundles i act.3 S.bundles act.4 in
    let all = (S.consists.carried i c.0 c.1).0 in
    let t = taken_for w U s S r P Q x act.3.horizon c.0.horizon act.3.items c.0.facts act.5.0
    c.2.horizon
    (items_stand P U x.k.facts act.3.horizon act.3.items c.0.facts c.2.items all x.stands) all in
    let fewer = len_same P.slots x.k.facts (stands_dots P U x.k.facts x.stands) in
    let more = len_same Q.slots (with_facts x.k.facts c.0.facts)
    (stands_dots Q U (with_facts x.k.facts c.0.facts) t.stands_now) in
    let count = act.5.1 in
    record {
      seen = c.0.facts;
      made = U;
      after = with_region s r
          (record {
            facts = with_facts x.k.facts c.0.facts;
            horizon = raised_to x.k.horizon c.0.horizon;
          });
      step = (
        x.k,
        c.0,
        c.1,
        refl,
        record {
          is_open = x.at;
          grown = with_facts x.k.facts c.0.facts;
          joins = t.joins;
          changes = refl;
        },
        omega (arith, fewer, more, count),
      );
      stands = unchanged_stands _ new U _ act.2.changes t.stays;
    }
deliver_step_for way w i r Memory new act U s S =
    let P = act.0 in
    let Q = act.1 in
    let x = open_for w U s S r P act.2.is_open in
    let c = bundle_at U w.bundles s.bundles i act.3 S.bundles act.4 in
    let all = (S.consists.carried i c.0 c.1).0 in
    elim act.5 [
      | inl same ↦ record {
        seen = [];
        made = U;
        after = s;
        step = inl (ap is_some x.at, (refl, refl));
        stands = unchanged_stands w new U s
            (act.2.changes ∙ ap (with_store w r) same ∙ put_back w r P act.2.is_open) S;
      }
      | inr part ↦
          let t = taken_for w U s S r P Q x act.3.horizon c.0.horizon (take part.0 act.3.items)
          (take part.0 c.0.facts) part.1 c.2.horizon
          (items_stand P U x.k.facts act.3.horizon (take part.0 act.3.items) (take part.0 c.0.facts)
          (items_part U act.3.horizon part.0 act.3.items c.0.facts c.2.items)
          (AllIn-take U part.0 c.0.facts all) x.stands) (AllIn-take U part.0 c.0.facts all) in
          record {
            seen = take part.0 c.0.facts;
            made = U;
            after = with_region s r
                (record {
                  facts = with_facts x.k.facts (take part.0 c.0.facts);
                  horizon = raised_to x.k.horizon c.0.horizon;
                });
            step = inr (
              x.k,
              c.0,
              c.1,
              part.0,
              refl,
              record {
                is_open = x.at;
                grown = with_facts x.k.facts (take part.0 c.0.facts);
                joins = t.joins;
                changes = refl;
              },
            );
            stands = unchanged_stands _ new U _ act.2.changes t.stays;
          }
    ]
deliver_step_for way w i r NoRegion new act U s S = record {
  seen = [];
  made = U;
  after = s;
  step = (closed_for w U s S r act.0, (refl, refl));
  stands = unchanged_stands w new U s act.1 S;
}
deliver_step_for way w i r NoBundle new act U s S = record {
  seen = [];
  made = U;
  after = s;
  step = (
    some_for w U s S r act.1.0,
    no_bundle_at U w.bundles s.bundles i S.bundles act.0,
    (refl, refl),
  );
  stands = unchanged_stands w new U s act.1.1 S;
}
deliver_step_for way w i r o new act U s S = absurd act

-- ---- a prune

-- a prune is a step of each state for which the world stands
pub prune_step_for : (way : Way) (w : WorldFields) (r moment : ℕ) (o : Outcome) (new : WorldFields)
    → PrunesAt w r moment o new → (U : FactSet) (s : State) → WorldStands w U s
    → StepFor way s (Prune r moment) o new
prune_step_for way w r moment (Pruned n) new act U s S =
    let P = act.0 in
    let Q = act.1 in
    let x = open_for w U s S r P act.2.is_open in
    let j : Kept = record { facts = x.k.facts; horizon = raised_to x.k.horizon (Some moment) } in
    record {
      seen = [];
      made = U;
      after = with_region s r j;
      step = (
        x.k,
        record {
          is_open = x.at;
          grown = x.k.facts;
          joins = joins_nothing x.k.facts;
          changes = refl;
        },
        refl,
      );
      stands = unchanged_stands _ new U _ act.2.changes
          (stands_put w U U s r Q j S (subset_itself U)
          (consists_kept s U r x.k j S.consists x.at (S.consists.held r x.k x.at)
          (subset_itself x.k.facts)) S.sound
          (prune_stands P Q moment n U x.k.facts act.3 x.stands)
          (ap (λ h. max h moment) x.horizon ∙ sym act.3.raised));
    }
prune_step_for way w r moment NoRegion new act U s S = record {
  seen = [];
  made = U;
  after = s;
  step = (closed_for w U s S r act.0, (refl, refl));
  stands = unchanged_stands w new U s act.1 S;
}
prune_step_for way w r moment Memory new act U s S = record {
  seen = [];
  made = U;
  after = s;
  step = (some_for w U s S r act.0, (refl, refl));
  stands = unchanged_stands w new U s act.1 S;
}
prune_step_for way w r moment o new act U s S = absurd act

-- ---- a slice of a prune

-- facts that go leave the horizon
steps_horizon : (P Q : StoreFields) (ds : List Dot) → Steps P ds Q → Q.horizon ≡ P.horizon
steps_horizon P Q [] is = ap (λ (R : StoreFields). R.horizon) is
steps_horizon P Q (d ∷ ds) steps = steps_horizon (with_skipped P d) Q ds steps.1

-- a slice of a prune is a step of each state for which the world stands
pub slice_step_for : (way : Way) (w : WorldFields) (r moment : ℕ) (after : Option Dot) (count : ℕ)
    (o : Outcome) (new : WorldFields)
    → PrunesSomeAt w r moment after count o new → (U : FactSet) (s : State) → WorldStands w U s
    → StepFor way s (PruneSome r moment after count) o new
slice_step_for way w r moment after count (PrunedSome slice) new act U s S =
    let P = act.0 in
    let Q = act.1 in
    let x = open_for w U s S r P act.2.is_open in
    let j : Kept = record { facts = x.k.facts; horizon = raised_to x.k.horizon (Some moment) } in
    record {
      seen = [];
      made = U;
      after = with_region s r j;
      step = (
        x.k,
        record {
          is_open = x.at;
          grown = x.k.facts;
          joins = joins_nothing x.k.facts;
          changes = refl;
        },
        refl,
      );
      stands = unchanged_stands _ new U _ act.2.changes
          (stands_put w U U s r Q j S (subset_itself U)
          (consists_kept s U r x.k j S.consists x.at (S.consists.held r x.k x.at)
          (subset_itself x.k.facts)) S.sound
          (slice_stands P Q moment after count slice U x.k.facts act.3 x.stands S.sound)
          (ap (λ h. max h moment) x.horizon
          ∙ sym (steps_horizon (with_horizon P moment) Q act.3.went.dots act.3.went.steps)));
    }
slice_step_for way w r moment after count NoRegion new act U s S = record {
  seen = [];
  made = U;
  after = s;
  step = (closed_for w U s S r act.0, (refl, refl));
  stands = unchanged_stands w new U s act.1 S;
}
slice_step_for way w r moment after count o new act U s S = absurd act
