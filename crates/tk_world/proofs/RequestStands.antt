-- A request at a world that stands for a state. Key results:
--   asked_for          it is a request at the state, with the same outcome
--   request_standing   the world still stands for a state, also if the request was lost
--   answers_for        from its horizon on, a region answers as one that holds all its facts
use Rattle.std.proofs.Common.{◌≡◌, inl, inr, ℕ, ◌≤◌, nat_lt, List, [], ◌∷◌, Option, Some, None}
use Rattle.std.proofs.Common.{IfSome, Result, Ok, Err, refl, sym, ap, subst, ◌∙◌, arith}
use Rattle.std.proofs.lemmas.Bool.Decides.{nat_tests}
use Rattle.std.specs.FinMap as map
use Rattle.tk_handle.specs.declared.dot.Dot.{Dot}
use Rattle.tk_fact.specs.declared.body.Body.{Body}
use Rattle.tk_store.specs.FactSet.{FactSet, Facts, IsSubset}
use Rattle.tk_store.specs.Joining.{JoinsFacts}
use Rattle.tk_store.specs.Slots.{Slot}
use Rattle.tk_store.specs.StoreFields.{StoreFields}
use Rattle.tk_store.proofs.JoiningLaws.{joins_with_facts, joins_nothing}
use Rattle.tk_store.proofs.PutLaws.{by_dot, get_here, some_injective}
use Rattle.tk_store.proofs.SubsetLaws.{subset_itself}
use Rattle.tk_region.specs.RegionFields.{RegionFields, with_made}
use Rattle.tk_region.specs.SettingsFields.{SettingsFields}
use Rattle.tk_region.specs.Step.{listed, IsNextFact}
use Rattle.tk_region.proofs.CapLaws.{next_unknown}
use Rattle.tk_edge.specs.Answers.{answer_by, fact_by}
use Rattle.tk_edge.specs.declared.hear.Arrival.{Arrival}
use Rattle.tk_edge.specs.declared.hear.Arrival.TheVariants.{Silence, Refused, Request as Asked}
use Rattle.tk_edge.specs.declared.hear.Arrival.TheVariants.{Exchange, Notice}
use Rattle.tk_retention.specs.StandsFor.{SlotStands, StandsFor, AddsOne, MeetsFamily}
use Rattle.tk_retention.proofs.KeepingLaws.{stands_more, fact_stands, sound_stays}
use Rattle.tk_retention.proofs.MadeLaws.{made_meets}
use Rattle.tk_retention.proofs.StandingLaws.{held_made}
use Rattle.tk_world.specs.declared.event.Outcome.{Outcome}
use Rattle.tk_world.specs.declared.event.Outcome.TheVariants.{NoRegion, Reply, Memory}
use Rattle.tk_world.specs.Acts.{AnswersAt}
use Rattle.tk_world.specs.AskedFields.{AskedFields}
use Rattle.tk_world.specs.Broken.{Loses, Requests}
use Rattle.tk_world.specs.Carrying.{Way}
use Rattle.tk_world.specs.Headline.{AnswersFor, unpruned}
use Rattle.tk_world.specs.State.{Kept, State, with_region, region_with, kept_store}
use Rattle.tk_world.specs.Told.{TellsBy}
use Rattle.tk_world.specs.World.{IsAnswer}
use Rattle.tk_world.specs.WorldFields.{WorldFields, with_store, region_at}
use Rattle.tk_world.specs.WorldStands.{WorldStands, IsStanding}
use Rattle.tk_world.proofs.AlikeLaws.{tells_by}
use Rattle.tk_world.proofs.ConsistencyLaws.{consists_kept, consists_made, free_everywhere}
use Rattle.tk_world.proofs.ConsistencyLaws.{subset_more}
use Rattle.tk_world.proofs.StandsLaws.{open_for, closed_for, some_for, stands_put, unchanged_stands}

-- ---- a request

-- what a region heard, and the fact made for it
module _ (w : WorldFields) (U : FactSet) (s : State) (S : WorldStands w U s) (r : ℕ)
    (P : StoreFields) (at : map.get w.regions r ≡ Some P) where
  -- the facts of the region in the state
  abbrev stood : FactSet
  stood = (open_for w U s S r P at).k.facts

  -- what the state keeps of the region
  abbrev kept : Kept
  kept = (open_for w U s S r P at).k

  -- the state has what is kept at the region's number
  is_kept : map.get s.regions r ≡ Some kept
  is_kept = (open_for w U s S r P at).at

  -- the region's store stands for the region's facts in the state
  stands : StandsFor P U stood
  stands = (open_for w U s S r P at).stands

  -- the horizon in the state is the store's
  level : kept.horizon ≡ P.horizon
  level = (open_for w U s S r P at).horizon

  -- the region's facts in the state are among all facts made
  within : IsSubset stood U
  within = S.consists.held r kept is_kept

  -- the region with all facts, with the world's settings
  abbrev whole_at : Kept → RegionFields
  whole_at j = record { number = r; settings = w.settings; facts = kept_store j }

  -- the region with all facts and the world's settings is that of the state
  whole_is : (j : Kept) → whole_at j ≡ region_with s r j
  whole_is j = ap (λ (x : SettingsFields).
      record { number = r; settings = x; facts = kept_store j }) (sym S.settings)

  module _ (now : ℕ) (words : List ℕ) (heard : Arrival) where
    -- a moment is before both horizons or before neither
    both : nat_lt now P.horizon ≡ nat_lt now kept.horizon
    both = ap (nat_lt now) (sym level)

    -- it answers, and makes, what the region with all facts does, or revokes anew
    pub tells_for : TellsBy (region_with s r kept) stood now words heard
        (answer_by (region_at w r P) now words heard) (fact_by (region_at w r P) now words heard)
    tells_for =
        subst (λ (x : RegionFields).
        TellsBy x stood now words heard (answer_by (region_at w r P) now words heard)
        (fact_by (region_at w r P) now words heard)) (whole_is kept)
        (tells_by r w.settings U P kept stands within S.sound now words both heard)

    module _ (soon : P.horizon ≤ now) where
      -- a moment from the horizon on is before neither the horizon nor 0
      neither : nat_lt now P.horizon ≡ nat_lt now 0
      neither = grind (arith, nat_tests, soon)

      -- the region over the store and the one over all facts reply alike to what was heard
      pub tells_unpruned : TellsBy (region_with s r (unpruned kept)) stood now words heard
          (answer_by (region_at w r P) now words heard) (fact_by (region_at w r P) now words heard)
      tells_unpruned =
          subst (λ (x : RegionFields).
          TellsBy x stood now words heard (answer_by (region_at w r P) now words heard)
          (fact_by (region_at w r P) now words heard)) (whole_is (unpruned kept))
          (tells_by r w.settings U P (unpruned kept) stands within S.sound now words neither heard)

  -- what a region makes meets its family
  fact_meets : (now : ℕ) (words : List ℕ) (heard : Arrival) (V : FactSet)
      → IfSome (fact_by (region_at w r P) now words heard)
      (λ f. AddsOne U f.0 f.1 V → MeetsFamily U f.0 V)
  fact_meets now words Silence V = tt
  fact_meets now words (Refused why) V = tt
  fact_meets now words (Asked request) V =
      made_meets (region_at w r P) U V now words request (held_made P U stood stands)
  fact_meets now words (Exchange asked) V = tt
  fact_meets now words (Notice notice) V = tt

  -- a fact is_kept made, if there is one
  record MadeFor (o : Option (Dot × Body)) : Type 0 where
    made : FactSet
    grown : FactSet
    joins : JoinsFacts stood (listed o) grown
    stays : WorldStands (with_store w r (with_made P o)) made
        (with_region s r (record { facts = grown; horizon = kept.horizon }))

  -- the fact that was made, if any, takes the state to one for which the world stands
  made_for : (o : Option (Dot × Body))
      → ((V : FactSet) → IfSome o (λ f. AddsOne U f.0 f.1 V → MeetsFamily U f.0 V))
      → IfSome o (IsNextFact (region_at w r P)) → MadeFor o
  made_for None meets next = record {
    made = U;
    grown = stood;
    joins = joins_nothing stood;
    stays = stands_put w U U s r P kept S (subset_itself U)
        (consists_kept s U r kept kept S.consists is_kept within (subset_itself stood)) S.sound
        stands level;
  }
  made_for (Some f) meets next =
      let free : map.get stood f.0 ≡ None = free_in (next_unknown (region_at w r P) f next) in
      let own : f.0.region ≡ r = ap (λ (d : Dot). d.region) next.next in
      let new : map.get U f.0 ≡ None = free_everywhere s U r kept f.0 S.consists is_kept own free in
      let V : FactSet = map.insert U f.0 f.1 in
      let more : IsSubset U V = subset_more U f.0 f.1 new in
      let adds : AddsOne U f.0 f.1 V = record {
        free = new;
        here = get_here U f.0 f.1;
        others = λ q ne. by_dot (λ o. o ≡ map.get U q) U f.0 f.1 q (λ same. absurd (ne same)) refl;
      } in
      let under : f.0.serial ≤ s.settings.cap =
      subst (λ (x : SettingsFields). f.0.serial ≤ x.cap) (sym S.settings) next.under in
      record {
        made = V;
        grown = map.insert stood f.0 f.1;
        joins = joins_with_facts (map.insert stood f.0 f.1) stood (f ∷ [])
            (subset_more stood f.0 f.1 free) (get_here stood f.0 f.1, tt);
        stays = stands_put w U V s r (with_made P (Some f))
            (record { facts = map.insert stood f.0 f.1; horizon = kept.horizon }) S more
            (consists_made s U r kept f.0 f.1 S.consists is_kept own free under next.passes)
            (sound_stays U V f.0 f.1 adds S.sound (meets V adds))
            (fact_stands P V stood (map.insert stood f.0 f.1) f.0 f.1 (get_here U f.0 f.1)
            (get_here stood f.0 f.1)
            (λ q ne. by_dot (λ o. o ≡ map.get stood q) stood f.0 f.1 q (λ same. absurd (ne same))
            refl) (stands_more P U V stood more stands))
            level;
      }
    where
      free_in : map.get P.slots f.0 ≡ None → map.get stood f.0 ≡ None
      free_in none = subst (λ (o : Option Slot). SlotStands U P.horizon f.0 o (map.get stood f.0))
          none (stands f.0)

-- a request is a step of the state
pub record AnswerFor (way : Way) (s : State) (r : ℕ) (asked : AskedFields) (o : Outcome)
    (new : WorldFields) : Type 0 where
  pub seen : Facts
  pub made : FactSet
  pub after : State
  pub answer : IsAnswer way s r asked o seen after
  pub stands : WorldStands new made after

-- a request to a region of a world is answered in each state for which the world stands
pub asked_for : (way : Way) (w : WorldFields) (r : ℕ) (asked : AskedFields) (o : Outcome)
    (new : WorldFields)
    → AnswersAt way w r asked o new → (U : FactSet) (s : State) → WorldStands w U s
    → AnswerFor way s r asked o new
asked_for way w r asked (Reply status bytes) new act U s S =
    let P = act.0 in
    let heard = act.1 in
    let at = act.4.0.is_open in
    let m = made_for w U s S r P at (fact_by (region_at w r P) asked.now asked.words heard)
    (fact_meets w U s S r P at asked.now asked.words heard) act.4.1 in
    record {
      seen = listed (fact_by (region_at w r P) asked.now asked.words heard);
      made = m.made;
      after = with_region s r
          (record { facts = m.grown; horizon = (open_for w U s S r P at).k.horizon });
      answer = (
        (open_for w U s S r P at).k,
        record {
          is_open = (open_for w U s S r P at).at;
          grown = m.grown;
          joins = m.joins;
          changes = refl;
        },
        heard,
        act.2,
        answer_by (region_at w r P) asked.now asked.words heard,
        fact_by (region_at w r P) asked.now asked.words heard,
        tells_for w U s S r P at asked.now asked.words heard,
        act.3,
        refl,
      );
      stands = unchanged_stands _ new m.made _ act.4.0.changes m.stays;
    }
asked_for way w r asked NoRegion new act U s S = record {
  seen = [];
  made = U;
  after = s;
  answer = (closed_for w U s S r act.0, (refl, refl));
  stands = unchanged_stands w new U s act.1 S;
}
asked_for way w r asked Memory new act U s S = record {
  seen = [];
  made = U;
  after = s;
  answer = (some_for w U s S r act.0, (refl, refl));
  stands = unchanged_stands w new U s act.1 S;
}
asked_for way w r asked o new act U s S = absurd act

-- a request leaves a world that stands for a state
pub asked_standing : (way : Way) (w : WorldFields) (r : ℕ) (asked : AskedFields) (o : Outcome)
    (new : WorldFields)
    → AnswersAt way w r asked o new → IsStanding w → IsStanding new
asked_standing way w r asked o new act standing =
    let x = asked_for way w r asked o new act standing.0 standing.1 standing.2 in
    (x.made, x.after, x.stands)

-- a request that was lost leaves a world that stands for a state
pub lost_for : (way : Way) (w : WorldFields) (r : ℕ) (asked : AskedFields) (new : WorldFields)
    → Loses way w r asked new → IsStanding w → IsStanding new
lost_for way w r asked new (inl same) standing = subst IsStanding (sym same) standing
lost_for way w r asked new (inr (P, heard, hears, act)) standing =
    let m = made_for w standing.0 standing.1 standing.2 r P act.0.is_open
    (fact_by (region_at w r P) asked.now asked.words heard)
    (fact_meets w standing.0 standing.1 standing.2 r P act.0.is_open asked.now asked.words heard)
    act.1 in
    (m.made, _, unchanged_stands _ new m.made _ act.0.changes m.stays)

-- how a request ended leaves a world that stands for a state
pub request_standing : {F : Type 0} (way : Way) (w : WorldFields) (r : ℕ) (asked : AskedFields)
    (o : Result Outcome F) (new : WorldFields)
    → Requests way w r asked o new → IsStanding w → IsStanding new
request_standing way w r asked (Ok o) new h standing = asked_standing way w r asked o new h standing
request_standing way w r asked (Err fault) new h standing = lost_for way w r asked new h standing

-- from its horizon on, a region answers as one that holds all its facts
pub answers_for : (w : WorldFields) (U : FactSet) (s : State) → WorldStands w U s → AnswersFor w s
answers_for w U s S r P k at is now soon words heard =
    let x = open_for w U s S r P at in
    let same : x.k ≡ k = some_injective x.k k (sym x.at ∙ is) in
    subst (λ (j : Kept).
    TellsBy (region_with s r (unpruned j)) j.facts now words heard
    (answer_by (region_at w r P) now words heard) (fact_by (region_at w r P) now words heard)) same
    (tells_unpruned w U s S r P at now words heard soon)
