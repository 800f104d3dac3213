-- A change of one part of a world's fields is what an event does to the world. Key results:
--   open_act, request_act, pull_act, deliver_act, prune_act, slice_act
--                                     the result of each part
--   held_at, sorted_after             a region that is held; the order after a write at an index
--   settings_after, world_after       the settings and the world after a write at an index
--   request_steps                     how a request ends is how its event ends
--   ended                             what holds of the fields holds of the world
use Rattle.std.proofs.Common.{◌≡◌, ℕ, T, List, slice_get, get_or, set, Option, Some, None, Result}
use Rattle.std.proofs.Common.{Ok, Err, Vec, Global, IsSome, IfSome, is_some, false, inl, inr, refl}
use Rattle.std.proofs.Common.{sym, ap, subst, ◌∙◌}
use Rattle.std.specs.List.{insert}
use Rattle.std.specs.Ordering.{nat_cmp}
use Rattle.std.specs.Cmp.{nat_cmp_total}
use Rattle.std.specs.FinMap as map
use Rattle.tk_handle.specs.SortedEntries.{IsAt, IsGap}
use Rattle.tk_handle.proofs.SortedEntriesLaws.{get_at_place, get_at_gap, sorted_at_place}
use Rattle.tk_handle.proofs.SortedEntriesLaws.{sorted_at_gap, insert_at_place, insert_at_gap}
use Rattle.tk_handle.specs.declared.dot.Dot.{Dot}
use Rattle.tk_vector.specs.VersionVector.{Vector}
use Rattle.tk_store.specs.StoreFields.{StoreFields, empty_store}
use Rattle.tk_bundle.specs.BundleFields.{BundleFields}
use Rattle.tk_bundle.specs.Page.{page_of}
use Rattle.tk_region.specs.RegionFields.{RegionFields, with_made}
use Rattle.tk_region.specs.SettingsFields.{SettingsFields}
use Rattle.tk_region.specs.Step.{IsNextFact}
use Rattle.tk_edge.specs.Answers.{answer_at, answer_by, fact_by, AnswersBy}
use Rattle.tk_edge.specs.Terms.{TermsFields, accept_all}
use Rattle.tk_edge.specs.Told.{AnswerFields}
use Rattle.tk_edge.specs.EdgeFields.{EdgeFields}
use Rattle.tk_edge.specs.Arrivals.{Answers, IsShort}
use Rattle.tk_edge.specs.Heard.{IsArrival, IsHeard}
use Rattle.tk_edge.specs.declared.hear.Arrival.{Arrival}
use Rattle.tk_edge.specs.Paths.{plain}
use Rattle.tk_edge.specs.declared.reach.PathSet.TheVariants.{Admin, All}
use Rattle.tk_edge.proofs.AnswerLaws.{answers_alone}
use Rattle.tk_edge.proofs.StreamLaws.{all_heard}
use Rattle.tk_world.specs.AskedFields.{AskedFields}
use Rattle.tk_world.specs.Acts.{Turns, MakesAt, OpensAt, PullsAt, DeliversAt, PrunesAt}
use Rattle.tk_world.specs.Acts.{PrunesSomeAt}
use Rattle.tk_world.specs.Broken.{Requests, Steps}
use Rattle.tk_world.specs.Carrying.{Carries, IsReplied, Makes, Way}
use Rattle.tk_world.specs.Parts.{Opens, Pages, TakesBundle, PrunesTo, PrunesSomeTo}
use Rattle.tk_world.specs.Regions.{entry_of, entries_of, IsOpen, HaveSettings}
use Rattle.tk_world.specs.WorldFields.{WorldFields, with_store, with_bundles, region_at}
use Rattle.tk_world.specs.declared.event.Event.TheVariants.{Request}
use Rattle.tk_world.specs.declared.event.Outcome.{Outcome}
use Rattle.tk_world.specs.declared.event.Outcome.TheVariants.{Opened, Reply, Bundle, Took, Pruned}
use Rattle.tk_world.specs.declared.event.Outcome.TheVariants.{PrunedSome, Memory}
use Rattle.tk_world.proofs.RegionLaws.{entry_at, entries_set, entries_insert, settings_at}
use Rattle.tk_world.proofs.RegionLaws.{settings_set, settings_insert}
use Rattle.tk_world.proofs.StandsLaws.{same_again}
use Rattle.tk_world.proofs.StandsLaws.{put_back as same_region}

-- an edge has the settings and the terms of another, and is sealed if that one is
abbrev IsAsOpen : EdgeFields → EdgeFields → Type 0
IsAsOpen p q = (q.region.settings ≡ p.region.settings) × (q.sealed ≡ p.sealed) × (q.terms ≡ p.terms)

-- the fields of a world with these settings, stores and bundles
abbrev pub fields_of : SettingsFields → List (ℕ × StoreFields) → List BundleFields → WorldFields
fields_of settings rs bs =
    record { settings = settings; regions = map.from_sorted rs; bundles = bs }

-- an option that equals a value has one
some_is : {A : Type 0} (o : Option A) (x : A) → o ≡ Some x → IsSome o
some_is o x h = ap is_some h

-- ---- what happens to one region

-- an edge that is unchanged leaves the world unchanged
unchanged : (w : WorldFields) (r : ℕ) (p q : EdgeFields) → map.get w.regions r ≡ Some p.region.facts
    → q ≡ p → with_store w r q.region.facts ≡ w
unchanged w r p q at same =
    ap (λ (x : EdgeFields). with_store w r x.region.facts) same ∙ same_region w r p.region.facts at

module _ (way : Way) (w : WorldFields) (r : ℕ) (p q : EdgeFields) (asked : AskedFields)
    (is : p.region ≡ region_at w r p.region.facts) (plain_terms : p.terms ≡ accept_all)
    (at : map.get w.regions r ≡ Some p.region.facts) where
  -- the fact made for an answer is added to the world's region
  made_at : (heard : Arrival) → Makes p asked heard q
      → MakesAt w r p.region.facts asked heard (with_store w r q.region.facts)
  made_at heard made = (
    record {
      is_open = at;
      changes = ap (with_store w r)
          (made.gains.facts
          ∙ ap (λ (x : RegionFields).
          with_made p.region.facts (fact_by x asked.now asked.words heard)) is);
    },
    subst (λ (x : RegionFields). IfSome (fact_by x asked.now asked.words heard) (IsNextFact x)) is
        made.next,
  )

  -- what a carrier did to a region's edge is what the request did to the world
  pub request_act : {E : Type 0} (o : Result Outcome E) → Carries way p asked o q
      → Requests way w r asked o (with_store w r q.region.facts)
  request_act (Ok (Reply status bytes)) a = (
    p.region.facts,
    a.0,
    a.1,
    subst (λ (x : RegionFields).
        way.Shows (answer_by x asked.now asked.words a.0) status bytes.items) is
        (subst (λ (t : TermsFields).
        way.Shows (answer_at t p.region asked.now asked.words a.0) status bytes.items) plain_terms
        a.2),
    made_at a.0 a.3,
  )
  request_act (Ok Memory) a = (some_is _ p.region.facts at, unchanged w r p q at a)
  request_act (Ok o) a = absurd a
  request_act (Err fault) (inl same) = inl (unchanged w r p q at same)
  request_act (Err fault) (inr (heard, hears, made)) =
      inr (p.region.facts, heard, hears, made_at heard made)

-- how a request ends is how its event ends
pub request_steps : {F : Type 0} (way : Way) (old : WorldFields) (r now : ℕ) (words : List ℕ)
    (bytes : Vec ℕ Global) (o : Result Outcome F) (new : WorldFields)
    → Requests way old r (record { now = now; words = words; bytes = bytes.items }) o new
    → Steps way old (Request r now words bytes) o new
request_steps way old r now words bytes (Ok outcome) new h = h
request_steps way old r now words bytes (Err fault) new h = h

-- a store put in place of an open region's changes that region alone
turned : (w : WorldFields) (r : ℕ) (P Q : StoreFields) → map.get w.regions r ≡ Some P
    → Turns w r P Q (with_store w r Q)
turned w r P Q at = record { is_open = at; changes = refl }

-- a bundle that a region took in is a delivery in the world
pub deliver_act : (w : WorldFields) (i r : ℕ) (p q : RegionFields) (b : BundleFields) (o : Outcome)
    → map.get w.regions r ≡ Some p.facts → slice_get w.bundles i ≡ Some b → TakesBundle p b o q
    → DeliversAt w i r o (with_store w r q.facts)
deliver_act w i r p q b (Took n) at there t =
    (p.facts, q.facts, turned w r p.facts q.facts at, b, there, t.1)
deliver_act w i r p q b Memory at there t =
    (p.facts, q.facts, turned w r p.facts q.facts at, b, there, t.1)
deliver_act w i r p q b o at there t = absurd t

-- a prune of a region is a prune in the world
pub prune_act : (w : WorldFields) (r moment : ℕ) (p q : RegionFields) (o : Outcome)
    → map.get w.regions r ≡ Some p.facts → PrunesTo p moment o q
    → PrunesAt w r moment o (with_store w r q.facts)
prune_act w r moment p q (Pruned n) at t = (p.facts, q.facts, turned w r p.facts q.facts at, t.1)
prune_act w r moment p q Memory at t = (
  some_is _ p.facts at,
  ap (λ (x : RegionFields). with_store w r x.facts) t ∙ same_region w r p.facts at,
)
prune_act w r moment p q o at t = absurd t

-- a slice of a prune of a region is one in the world
pub slice_act : (w : WorldFields) (r moment : ℕ) (after : Option Dot) (count : ℕ)
    (p q : RegionFields) (o : Outcome)
    → map.get w.regions r ≡ Some p.facts → PrunesSomeTo p moment after count o q
    → PrunesSomeAt w r moment after count o (with_store w r q.facts)
slice_act w r moment after count p q (PrunedSome slice) at t =
    (p.facts, q.facts, turned w r p.facts q.facts at, t.1)
slice_act w r moment after count p q o at t = absurd t

-- a page that a region made is a pull in the world
pub pull_act : (w : WorldFields) (r : ℕ) (P : StoreFields) (v : Vector) (after : Option Dot)
    (o : Outcome) (bs : List BundleFields)
    → map.get w.regions r ≡ Some P → Pages (page_of P v after) w.bundles o bs
    → PullsAt w r v after o (with_bundles w bs)
pull_act w r P v after (Bundle index count last more) bs at p =
    (P, at, (p.0, p.1, p.2, p.3, ap (with_bundles w) p.4))
pull_act w r P v after Memory bs at p = (some_is _ P at, ap (with_bundles w) p)
pull_act w r P v after o bs at p = absurd p

-- ---- the fields

-- the world of these edges and bundles
abbrev pub world : SettingsFields → List EdgeFields → List BundleFields → WorldFields
world settings rs bs = fields_of settings (entries_of rs) bs

module _ (settings : SettingsFields) (rs : List EdgeFields) (bs : List BundleFields)
    (sorted : T (map.is_sorted nat_cmp (entries_of rs))) (r i : ℕ) where
  -- at a gap of the list no region is open
  pub absent_at : IsGap nat_cmp (entries_of rs) r i
      → map.get (world settings rs bs).regions r ≡ None
  absent_at gap = get_at_gap nat_cmp_total (entries_of rs) sorted r i gap

  module _ (gap : IsGap nat_cmp (entries_of rs) r i) (p : EdgeFields)
      (is : p ≡ record {
        region = record { number = r; settings = settings; facts = empty_store };
        terms = accept_all;
        sealed = false;
      }) where
    -- the entries after a region that knows nothing is inserted
    opened_entries : (new : List EdgeFields) → new ≡ insert rs i p
        → entries_of new ≡ insert (entries_of rs) i (r, empty_store)
    opened_entries new h =
        ap entries_of h ∙ entries_insert rs i p ∙ ap (λ x. insert (entries_of rs) i (entry_of x)) is

    -- a region that was put into the list is opened in the world
    pub open_act : (o : Outcome) (new : List EdgeFields) → Opens rs i p o new
        → OpensAt (world settings rs bs) r o (world settings new bs)
    open_act Opened new h = (
      absent_at gap,
      ap (λ es. fields_of settings es bs) (opened_entries new h)
          ∙ ap (λ m. record { settings = settings; regions = m; bundles = bs })
          (insert_at_gap nat_cmp_total (entries_of rs) sorted r i gap empty_store),
    )
    open_act Memory new h = (absent_at gap, ap (λ xs. world settings xs bs) h)
    open_act o new h = absurd h

    -- the list stays sorted with the region that is opened
    pub sorted_new : (o : Outcome) (new : List EdgeFields) → Opens rs i p o new
        → T (map.is_sorted nat_cmp (entries_of new))
    sorted_new Opened new h = subst (λ es. T (map.is_sorted nat_cmp es))
        (sym (opened_entries new h))
        (sorted_at_gap nat_cmp_total (entries_of rs) sorted r i gap empty_store)
    sorted_new Memory new h = subst (λ xs. T (map.is_sorted nat_cmp (entries_of xs))) (sym h) sorted
    sorted_new o new h = absurd h

    -- all regions have the world's settings, with the one that is opened too
    pub settings_new : (o : Outcome) (new : List EdgeFields) → Opens rs i p o new
        → HaveSettings settings rs → HaveSettings settings new
    settings_new Opened new h all = subst (HaveSettings settings) (sym h)
        (settings_insert settings rs i p (subst (IsOpen settings) (sym is) (refl, refl, refl)) all)
    settings_new Memory new h all = subst (HaveSettings settings) (sym h) all
    settings_new o new h all = absurd h

  -- at an entry of the list a region is open
  pub found_at : IsAt nat_cmp (entries_of rs) r i
      → IsSome (map.get (world settings rs bs).regions r)
  found_at at = found (map.get (world settings rs bs).regions r)
      (λ d. get_at_place nat_cmp_total (entries_of rs) sorted r i at d)
    where
      found : (o : Option StoreFields)
          → ((d : ℕ × StoreFields) → o ≡ Some (get_or (entries_of rs) i d).1) → IsSome o
      found o h = ap is_some (h (0, empty_store))

  module _ (at : IsAt nat_cmp (entries_of rs) r i) (all : HaveSettings settings rs) (p : EdgeFields)
      (is : p ≡ get_or rs i p) where
    -- the entry of the edge is the one at its index
    entry_is : entry_of p ≡ get_or (entries_of rs) i (entry_of p)
    entry_is = entry_at rs i p at.in_range is

    -- the region at the entry has the store of its edge
    pub held_at : map.get (world settings rs bs).regions r ≡ Some p.region.facts
    held_at = get_at_place nat_cmp_total (entries_of rs) sorted r i at (entry_of p)
        ∙ ap (λ e. Some e.1) (sym entry_is)

    -- the edge at the index has that number
    number_at : p.region.number ≡ r
    number_at = ap (λ (e : ℕ × StoreFields). e.0) entry_is
        ∙ map.nat_cmp-IsAntisymmetric _ _ (at.tied (entry_of p))

    -- the edge at the index has the region of that number, with the world's settings
    pub region_is : p.region ≡ region_at (world settings rs bs) r p.region.facts
    region_is =
        ap (λ (n : ℕ). record { number = n; settings = p.region.settings; facts = p.region.facts })
        number_at
        ∙ ap (λ (x : SettingsFields). record { number = r; settings = x; facts = p.region.facts })
        (settings_at settings rs i p at.in_range is all).0

    -- the edge at the index isn't sealed
    pub open_at : p.sealed ≡ false
    open_at = (settings_at settings rs i p at.in_range is all).1

    -- the edge at the index has the terms that accept all
    pub terms_at : p.terms ≡ accept_all
    terms_at = (settings_at settings rs i p at.in_range is all).2

    module _ (q : EdgeFields) (number : q.region.number ≡ p.region.number)
        (same : IsAsOpen p q) where
      -- writing an edge at the index writes its store in the entries
      after : entries_of (set rs i q)
          ≡ set (entries_of rs) i ((get_or (entries_of rs) i (entry_of p)).0, q.region.facts)
      after = entries_set rs i q
          ∙ ap (λ (n : ℕ). set (entries_of rs) i (n, q.region.facts))
          (number ∙ ap (λ (e : ℕ × StoreFields). e.0) entry_is)

      -- the list stays sorted if an edge takes the place of one with its number
      pub sorted_after : T (map.is_sorted nat_cmp (entries_of (set rs i q)))
      sorted_after = subst (λ es. T (map.is_sorted nat_cmp es)) (sym after)
          (sorted_at_place nat_cmp_total (entries_of rs) sorted r i at q.region.facts (entry_of p))

      -- all regions have the world's settings if an edge with them takes the place of one
      pub settings_after : HaveSettings settings (set rs i q)
      settings_after = settings_set settings rs i q (
        same.0 ∙ (settings_at settings rs i p at.in_range is all).0,
        same.1 ∙ open_at,
        same.2 ∙ terms_at,
      ) all

      -- the world after that has the store of the new edge at this region
      pub world_after : world settings (set rs i q) bs
          ≡ with_store (world settings rs bs) r q.region.facts
      world_after =
          ap (λ es. fields_of settings es bs) after
          ∙ ap (λ m. record { settings = settings; regions = m; bundles = bs })
          (insert_at_place nat_cmp_total (entries_of rs) sorted r i at q.region.facts (entry_of p))

-- carrying a request leaves the region's number, its settings, and whether the edge is open
pub carried_number : {F : Type 0} (way : Way) (p q : EdgeFields) (asked : AskedFields)
    (o : Result Outcome F)
    → Carries way p asked o q → (q.region.number ≡ p.region.number) × IsAsOpen p q
carried_number {F = F} way p q asked o a = by o a
  where
    same : q ≡ p → (q.region.number ≡ p.region.number) × IsAsOpen p q
    same e = (
      ap (λ (x : EdgeFields). x.region.number) e,
      (
        ap (λ (x : EdgeFields). x.region.settings) e,
        ap (λ (x : EdgeFields). x.sealed) e,
        ap (λ (x : EdgeFields). x.terms) e,
      ),
    )

    made : (heard : Arrival) → Makes p asked heard q
        → (q.region.number ≡ p.region.number) × IsAsOpen p q
    made heard m = (m.gains.number, (m.gains.settings, m.sealed, m.terms))

    by : (o : Result Outcome F) → Carries way p asked o q
        → (q.region.number ≡ p.region.number) × IsAsOpen p q
    by (Ok (Reply status bytes)) a = made a.0 a.3
    by (Ok Memory) a = same a
    by (Ok o) a = absurd a
    by (Err fault) (inl e) = same e
    by (Err fault) (inr (heard, hears, m)) = made heard m

-- if no path of `/sync/` is served, an arrival is heard
heard_answer : (terms : TermsFields) (r new : RegionFields) (asked : AskedFields)
    (seen : AnswerFields)
    → ((came : Arrival) × IsArrival (plain Admin) asked.bytes came
    × Answers terms r asked.now asked.words came (Ok seen) new)
    → (heard : Arrival) × IsHeard asked.bytes heard
    × AnswersBy r (answer_at terms r asked.now asked.words heard)
    (fact_by r asked.now asked.words heard) (Ok seen) new
heard_answer terms r new asked seen (came, is, told) = (
  came,
  is,
  answers_alone terms r asked.now asked.words came (Ok seen) new
      (all_heard (plain Admin) asked.bytes came is) told,
)

-- if no path of `/sync/` is served, running out of memory leaves the region unchanged
pub untouched : (p q : EdgeFields) (now : ℕ) (bytes : List ℕ) → q.sealed ≡ p.sealed
    → q.terms ≡ p.terms
    → IsShort (plain Admin) p.terms now (Some bytes) p.region q.region → q ≡ p
untouched p q now bytes sealed ahead (inl same) =
    ap (λ (r : RegionFields). record { region = r; terms = q.terms; sealed = q.sealed }) same
    ∙ ap (λ b. record { region = p.region; terms = b; sealed = q.sealed }) ahead
    ∙ ap (λ b. record { region = p.region; terms = p.terms; sealed = b }) sealed
untouched p q now bytes sealed ahead (inr (sent, arrives, taken, took)) = absurd (clash arrives.0)
  where
    clash : Admin ≡ All → ⊥
    clash e = cc

-- the answer of an edge, by what contracts see of it
pub answered_part : (p q : EdgeFields) (asked : AskedFields) (told seen : AnswerFields)
    → told ≡ seen → q.sealed ≡ p.sealed → q.terms ≡ p.terms
    → ((came : Arrival) × IsArrival (plain Admin) asked.bytes came
    × Answers p.terms p.region asked.now asked.words came (Ok seen) q.region)
    → (heard : Arrival) × IsHeard asked.bytes heard
    × IsReplied (answer_at p.terms p.region asked.now asked.words heard) told.status told.bytes
    × Makes p asked heard q
answered_part p q asked told seen is sealed ahead came =
    let a = heard_answer p.terms p.region q.region asked seen came in (
      a.0,
      a.1,
      (
        ap (λ (x : AnswerFields). x.status) (is ∙ a.2.0),
        ap (λ (x : AnswerFields). x.bytes) (is ∙ a.2.0),
      ),
      record { gains = a.2.1; next = a.2.2; sealed = sealed; terms = ahead },
    )

-- a region that takes in a bundle keeps its number, and its edge is as open as before
pub taken_number : (p q : EdgeFields) (b : BundleFields) (o : Outcome)
    → TakesBundle p.region b o q.region → q.sealed ≡ p.sealed → q.terms ≡ p.terms
    → (q.region.number ≡ p.region.number) × IsAsOpen p q
taken_number p q b (Took n) t sealed terms = (t.0.number, (t.0.settings, sealed, terms))
taken_number p q b Memory t sealed terms = (t.0.number, (t.0.settings, sealed, terms))
taken_number p q b o t sealed terms = absurd t

-- a region that is pruned keeps its number, and its edge is as open as before
pub pruned_number : (p q : EdgeFields) (moment : ℕ) (o : Outcome)
    → PrunesTo p.region moment o q.region → q.sealed ≡ p.sealed → q.terms ≡ p.terms
    → (q.region.number ≡ p.region.number) × IsAsOpen p q
pruned_number p q moment (Pruned n) t sealed terms = (t.0.number, (t.0.settings, sealed, terms))
pruned_number p q moment Memory t sealed terms = (
  ap (λ (r : RegionFields). r.number) t,
  (ap (λ (r : RegionFields). r.settings) t, sealed, terms),
)
pruned_number p q moment o t sealed terms = absurd t

-- a region of which a slice is pruned keeps its number, and its edge is as open as before
pub sliced_number : (p q : EdgeFields) (moment : ℕ) (after : Option Dot) (count : ℕ) (o : Outcome)
    → PrunesSomeTo p.region moment after count o q.region → q.sealed ≡ p.sealed → q.terms ≡ p.terms
    → (q.region.number ≡ p.region.number) × IsAsOpen p q
sliced_number p q moment place count (PrunedSome slice) t sealed terms =
    (t.0.number, (t.0.settings, sealed, terms))
sliced_number p q moment place count o t sealed terms = absurd t

-- ---- the end of a call

-- what holds of the fields before and after holds of the world
pub ended : (P : WorldFields → WorldFields → Type 0) (s new' : WorldFields) → P s new'
    → (new : WorldFields) → new ≡ new' → (old : WorldFields) → s ≡ old → P old new
ended P s new' h new same old seen_as = subst (λ w. P w new) seen_as (subst (P s) (sym same) h)
