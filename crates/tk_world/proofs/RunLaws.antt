-- What a step and a run do to each region's facts. Key results:
--   run_joins      after a run each region's facts are its old ones joined with what it has seen
--   run_settings   a run leaves the settings
--   run_alike      regions that began alike and have seen the same facts are alike
--   acts_more      a list of events goes on by one
--   acts_count     there is one outcome for each event
use Rattle.std.proofs.Common.{◌≡◌, inl, inr, ℕ, suc, ◌==◌, true, false, cond, if◌then◌else◌, List}
use Rattle.std.proofs.Common.{[], ◌∷◌, ◌++◌, length, Option, Some, None, refl, sym, ap, subst, ◌∙◌}
use Rattle.std.proofs.Common.{arith}
use Rattle.std.specs.Option.{option_map_or}
use Rattle.std.specs.Ordering.{nat_cmp, eq_by_cmp}
use Rattle.std.specs.Cmp.{nat_cmp_total}
use Rattle.std.specs.FinMap as map
use Rattle.std.proofs.lemmas.Bool.Decides.{nat_tests}
use Rattle.tk_store.specs.FactSet.{FactSet, Facts}
use Rattle.tk_store.specs.Joining.{JoinsFacts, SameFacts}
use Rattle.tk_store.proofs.JoiningLaws.{joins_nothing, joins_more, joins_same}
use Rattle.tk_world.specs.declared.event.Event.{Event}
use Rattle.tk_world.specs.declared.event.Event.TheVariants.{Open, Request, Pull, Deliver, Prune}
use Rattle.tk_world.specs.declared.event.Event.TheVariants.{PruneSome}
use Rattle.tk_world.specs.declared.event.Outcome.{Outcome}
use Rattle.tk_world.specs.declared.event.Outcome.TheVariants.{Opened, NumberTaken, NoRegion}
use Rattle.tk_world.specs.declared.event.Outcome.TheVariants.{NoBundle, Reply, Bundle, Took, Pruned}
use Rattle.tk_world.specs.declared.event.Outcome.TheVariants.{PrunedSome, Memory}
use Rattle.tk_world.specs.Acts.{ActBy, ActsBy}
use Rattle.tk_world.specs.State.{Kept, State, new_kept, with_region, facts_in}
use Rattle.tk_world.specs.Carrying.{Way}
use Rattle.tk_world.specs.World.{Grows, StepBy, RunBy, region_of, seen_by}
use Rattle.tk_world.specs.WorldFields.{WorldFields}

-- the facts that an event shows a region: no facts if the event is another region's
abbrev pub shown : Event → Facts → ℕ → Facts
shown e seen r = if region_of e == r then seen else []

-- two numbers tie exactly if they are equal
tied_is_equal : (a b : ℕ) → eq_by_cmp nat_cmp a b ≡ (b == a)
tied_is_equal a b = grind (arith, nat_tests)

-- the facts of a region that may be open
abbrev pub facts_of : Option Kept → FactSet
facts_of o = option_map_or (λ k. k.facts) o map.empty

-- after one region is set, the other regions are unchanged
pub facts_in-with_region : (s : State) (n : ℕ) (k : Kept) (r : ℕ)
    → facts_in (with_region s n k) r ≡ (if n == r then k.facts else facts_in s r)
facts_in-with_region s n k r =
    ap facts_of (map.get-insert nat_cmp_total s.regions n k r)
    ∙ ap (λ t. facts_of (cond t (Some k) (map.get s.regions r))) (tied_is_equal r n)
    ∙ elim (n == r) as
    (λ t. facts_of (cond t (Some k) (map.get s.regions r)) ≡ cond t k.facts (facts_in s r)) [
      | true ↦ refl
      | false ↦ refl
    ]

-- a step that leaves the state unchanged joins nothing
same_after : (s new : State) (e : Event) (seen : Facts) (r : ℕ) → seen ≡ [] → new ≡ s
    → JoinsFacts (facts_in s r) (shown e seen r) (facts_in new r)
same_after s new e seen r none same =
    subst (λ w. JoinsFacts (facts_in s r) (shown e seen r) (facts_in w r)) (sym same)
    (subst (λ fs. JoinsFacts (facts_in s r) (shown e fs r) (facts_in s r)) (sym none)
    (elim (region_of e == r) as
    (λ t. JoinsFacts (facts_in s r) (cond t [] []) (facts_in s r)) [
      | true ↦ joins_nothing (facts_in s r)
      | false ↦ joins_nothing (facts_in s r)
    ]))

-- numbers that pass the test for equal ones are equal
equal_from : (a b : ℕ) → a == b ≡ true → a ≡ b
equal_from a b h = grind (arith, nat_tests)

-- a step that adds facts to one region joins them to that region's facts
grown : (s new : State) (n : ℕ) (k : Kept) (moment : Option ℕ) (seen : Facts)
    → Grows s n k moment seen new → (r : ℕ)
    → JoinsFacts (facts_in s r) (if n == r then seen else []) (facts_in new r)
grown s new n k moment seen g r =
    subst (λ G. JoinsFacts (facts_in s r) (if n == r then seen else []) G)
    (sym (ap (λ w. facts_in w r) g.changes ∙ facts_in-with_region s n _ r))
    (elim (n == r) as
    (λ t. n == r ≡ t → JoinsFacts (facts_in s r) (cond t seen []) (cond t g.grown (facts_in s r))) [
      | true ↦ λ same. subst (λ G. JoinsFacts G seen g.grown)
          (ap facts_of (sym g.is_open) ∙ ap (facts_in s) (equal_from n r same)) g.joins
      | false ↦ λ _. joins_nothing (facts_in s r)
    ] refl)

-- a region that opens holds no facts, and held no facts before
opened : (s new : State) (n : ℕ) (seen : Facts) → map.get s.regions n ≡ None → seen ≡ []
    → new ≡ with_region s n new_kept → (r : ℕ)
    → JoinsFacts (facts_in s r) (if n == r then seen else []) (facts_in new r)
opened s new n seen none nothing is r =
    subst (λ G. JoinsFacts (facts_in s r) (if n == r then seen else []) G)
    (sym (ap (λ w. facts_in w r) is ∙ facts_in-with_region s n new_kept r))
    (subst (λ fs.
    JoinsFacts (facts_in s r) (if n == r then fs else [])
    (if n == r then map.empty else facts_in s r)) (sym nothing)
    (elim (n == r) as
    (λ t. n == r ≡ t → JoinsFacts (facts_in s r) (cond t [] []) (cond t map.empty (facts_in s r))) [
      | true ↦ λ same. subst (λ G. JoinsFacts G [] map.empty)
          (ap facts_of (sym none) ∙ ap (facts_in s) (equal_from n r same)) (joins_nothing map.empty)
      | false ↦ λ _. joins_nothing (facts_in s r)
    ] refl))

-- a step joins the facts that it shows to its region's facts, and leaves the other regions
-- unchanged
pub step_shows : (way : Way) (old : State) (e : Event) (o : Outcome) (seen : Facts) (new : State)
    → StepBy way old e o seen new → (r : ℕ)
    → JoinsFacts (facts_in old r) (shown e seen r) (facts_in new r)
step_shows way old (Open n) Opened seen new step r = opened old new n seen step.0 step.1 step.2 r
step_shows way old (Open n) NumberTaken seen new step r =
    same_after old new (Open n) seen r step.1.0 step.1.1
step_shows way old (Open n) Memory seen new step r =
    same_after old new (Open n) seen r step.1.0 step.1.1
step_shows way old (Request n now words q) (Reply status bytes) seen new step r =
    grown old new n step.0 None seen step.1 r
step_shows way old (Request n now words q) NoRegion seen new step r =
    same_after old new (Request n now words q) seen r step.1.0 step.1.1
step_shows way old (Request n now words q) Memory seen new step r =
    same_after old new (Request n now words q) seen r step.1.0 step.1.1
step_shows way old (Pull n v after) (Bundle index count last more) seen new step r =
    subst (λ w. JoinsFacts (facts_in old r) (shown (Pull n v after) seen r) (facts_in w r))
    (sym step.5.4) (same_after old old (Pull n v after) seen r step.2 refl)
step_shows way old (Pull n v after) NoRegion seen new step r =
    same_after old new (Pull n v after) seen r step.1.0 step.1.1
step_shows way old (Pull n v after) Memory seen new step r =
    same_after old new (Pull n v after) seen r step.1.0 step.1.1
step_shows way old (Deliver i n) (Took k) seen new step r =
    grown old new n step.0 step.1.horizon seen step.4 r
step_shows way old (Deliver i n) Memory seen new (inl idle) r =
    same_after old new (Deliver i n) seen r idle.1.0 idle.1.1
step_shows way old (Deliver i n) Memory seen new (inr part) r =
    grown old new n part.0 part.1.horizon seen part.5 r
step_shows way old (Deliver i n) NoRegion seen new step r =
    same_after old new (Deliver i n) seen r step.1.0 step.1.1
step_shows way old (Deliver i n) NoBundle seen new step r =
    same_after old new (Deliver i n) seen r step.2.0 step.2.1
step_shows way old (Prune n moment) (Pruned k) seen new step r =
    grown old new n step.0 (Some moment) seen step.1 r
step_shows way old (Prune n moment) NoRegion seen new step r =
    same_after old new (Prune n moment) seen r step.1.0 step.1.1
step_shows way old (Prune n moment) Memory seen new step r =
    same_after old new (Prune n moment) seen r step.1.0 step.1.1
step_shows way old (PruneSome n moment after count) (PrunedSome slice) seen new step r =
    grown old new n step.0 (Some moment) seen step.1 r
step_shows way old (PruneSome n moment after count) NoRegion seen new step r =
    same_after old new (PruneSome n moment after count) seen r step.1.0 step.1.1
step_shows way old e o seen new step r = absurd step

-- after a run each region's facts are its old ones joined with what the region has seen
pub run_joins : (way : Way) (old : State) (es : List Event) (os : List Outcome) (ss : List Facts)
    (new : State)
    → RunBy way old es os ss new → (r : ℕ)
    → JoinsFacts (facts_in old r) (seen_by r es ss) (facts_in new r)
run_joins way old [] [] [] new run r = subst (λ w. JoinsFacts (facts_in old r) [] (facts_in w r))
    (sym run) (joins_nothing (facts_in old r))
run_joins way old (e ∷ es) (o ∷ os) (s ∷ ss) new run r =
    joins_more (step_shows way old e o s run.0 run.1 r) (run_joins way run.0 es os ss new run.2 r)
run_joins way old es os ss new run r = absurd run

-- a step leaves the settings
step_settings : (way : Way) (old : State) (e : Event) (o : Outcome) (seen : Facts) (new : State)
    → StepBy way old e o seen new → new.settings ≡ old.settings
step_settings way old (Open n) Opened seen new step = ap (λ (w : State). w.settings) step.2
step_settings way old (Open n) NumberTaken seen new step = ap (λ (w : State). w.settings) step.1.1
step_settings way old (Open n) Memory seen new step = ap (λ (w : State). w.settings) step.1.1
step_settings way old (Request n now words q) (Reply status bytes) seen new step =
    ap (λ (w : State). w.settings) step.1.changes
step_settings way old (Request n now words q) NoRegion seen new step =
    ap (λ (w : State). w.settings) step.1.1
step_settings way old (Request n now words q) Memory seen new step =
    ap (λ (w : State). w.settings) step.1.1
step_settings way old (Pull n v after) (Bundle index count last more) seen new step =
    ap (λ (w : State). w.settings) step.5.4
step_settings way old (Pull n v after) NoRegion seen new step =
    ap (λ (w : State). w.settings) step.1.1
step_settings way old (Pull n v after) Memory seen new step =
    ap (λ (w : State). w.settings) step.1.1
step_settings way old (Deliver i n) (Took k) seen new step =
    ap (λ (w : State). w.settings) step.4.changes
step_settings way old (Deliver i n) Memory seen new (inl idle) =
    ap (λ (w : State). w.settings) idle.1.1
step_settings way old (Deliver i n) Memory seen new (inr part) =
    ap (λ (w : State). w.settings) part.5.changes
step_settings way old (Deliver i n) NoRegion seen new step = ap (λ (w : State). w.settings) step.1.1
step_settings way old (Deliver i n) NoBundle seen new step = ap (λ (w : State). w.settings) step.2.1
step_settings way old (Prune n moment) (Pruned k) seen new step =
    ap (λ (w : State). w.settings) step.1.changes
step_settings way old (Prune n moment) NoRegion seen new step =
    ap (λ (w : State). w.settings) step.1.1
step_settings way old (Prune n moment) Memory seen new step =
    ap (λ (w : State). w.settings) step.1.1
step_settings way old (PruneSome n moment after count) (PrunedSome slice) seen new step =
    ap (λ (w : State). w.settings) step.1.changes
step_settings way old (PruneSome n moment after count) NoRegion seen new step =
    ap (λ (w : State). w.settings) step.1.1
step_settings way old e o seen new step = absurd step

-- a run leaves the settings
pub run_settings : (way : Way) (old : State) (es : List Event) (os : List Outcome) (ss : List Facts)
    (new : State)
    → RunBy way old es os ss new → new.settings ≡ old.settings
run_settings way old [] [] [] new run = ap (λ (w : State). w.settings) run
run_settings way old (e ∷ es) (o ∷ os) (s ∷ ss) new run =
    run_settings way run.0 es os ss new run.2 ∙ step_settings way old e o s run.0 run.1
run_settings way old es os ss new run = absurd run

-- regions that began alike, and have seen the same facts, are alike
pub run_alike : (way : Way) (old : State) (es : List Event) (os : List Outcome) (ss : List Facts)
    (new : State)
    → RunBy way old es os ss new → (q r : ℕ) → facts_in old q ≡ facts_in old r
    → SameFacts (seen_by q es ss) (seen_by r es ss) → facts_in new q ≡ facts_in new r
run_alike way old es os ss new run q r began same =
    joins_same
    (subst (λ F. JoinsFacts F (seen_by q es ss) (facts_in new q)) began
    (run_joins way old es os ss new run q)) (run_joins way old es os ss new run r) same

-- a list of events goes on by one
pub acts_more : (way : Way) (old : WorldFields) (es : List Event) (os : List Outcome)
    (mid : WorldFields) (e : Event) (o : Outcome) (new : WorldFields)
    → ActsBy way old es os mid → ActBy way mid e o new
    → ActsBy way old (es ++ e ∷ []) (os ++ o ∷ []) new
acts_more way old [] [] mid e o new acts act =
    (new, subst (λ w. ActBy way w e o new) acts act, refl)
acts_more way old (e' ∷ es) (o' ∷ os) mid e o new acts act =
    (acts.0, acts.1, acts_more way acts.0 es os mid e o new acts.2 act)
acts_more way old es os mid e o new acts act = absurd acts

-- there is one outcome for each event
pub acts_count : (way : Way) (old : WorldFields) (es : List Event) (os : List Outcome)
    (new : WorldFields)
    → ActsBy way old es os new → length os ≡ length es
acts_count way old [] [] new acts = refl
acts_count way old (e ∷ es) (o ∷ os) new acts = ap suc (acts_count way acts.0 es os new acts.2)
acts_count way old es os new acts = absurd acts
