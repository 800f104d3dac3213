-- The forms of events' fields: which event some fields have, given by their number and texts, and
-- which fields have no event. Key results:
--   text_at        the text at an index
--   no_form        fewer than three fields are those of `open` or of no event
--   line_bad       a line with an empty field has no event
use Rattle.std.proofs.Common.{◌≡◌, ◌≢◌, ℕ, ◌<◌, ◌≤◌, ◌^◌, ◌-◌, List, [], ◌∷◌, length, get_or}
use Rattle.std.proofs.Common.{slice_index_or, take, drop, codes, decimal, Option, Some, None, Bor}
use Rattle.std.proofs.Common.{refl, sym, ap, ◌∙◌, subst, arith}
use Rattle.std.specs.List.{All, AllWithin, HoldsAt, slice_split}
use Rattle.std.proofs.lemmas.List.{take_rest, get_or-map, length-map}
use Rattle.std.proofs.lemmas.List.Elements.{All-map, All-from_all_within}
use Rattle.tk_format.specs.Decimals.{decimal_in}
use Rattle.tk_format.proofs.DecimalLaws.{decimal_found}
use Rattle.tk_handle.specs.declared.dot.Dot.{Dot}
use Rattle.tk_handle.specs.Ranges.{IsRegion, IsMoment}
use Rattle.tk_vector.specs.VersionVector.{Vector}
use Rattle.tk_vector.specs.VectorText.{IsVectorText, IsNoVectorText}
use Rattle.tk_world.specs.declared.event.Event.{Event}
use Rattle.tk_world.specs.declared.event.Event.TheVariants.{Open, Request, Pull, Deliver, Prune}
use Rattle.tk_world.specs.declared.event.Event.TheVariants.{PruneSome}
use Rattle.tk_world.specs.Fields.{is_space, region_in, moment_in, IsCursorText}
use Rattle.tk_world.specs.RequestLine.{asked_of}
use Rattle.tk_world.specs.Line.{texts, IsPrintable, IsEventForm, IsNoEventForm, IsEventLine}
use Rattle.tk_world.specs.Line.{IsNoEventLine}
use Rattle.tk_world.proofs.NumberTexts.{region_found, moment_found, no_region, no_moment}

-- the text at an index, empty past the end; a slice pattern reads its texts with this default
abbrev pub text_at : List (Bor (List ℕ)) → ℕ → List ℕ
text_at fields i = (slice_index_or fields i (record { ref_ptr = (0, 0); now = [] })).now

-- ---- the two ways to give fields

-- the texts of one field
pub one : (fs : List (Bor (List ℕ))) → length fs ≡ 1 → texts fs ≡ text_at fs 0 ∷ []
one [] e = absurd (omega (arith, e))
one (x ∷ []) e = refl
one (x ∷ y ∷ fs) e = absurd (omega (arith, e))

-- the texts of two fields
two : (fs : List (Bor (List ℕ))) → length fs ≡ 2 → texts fs ≡ text_at fs 0 ∷ text_at fs 1 ∷ []
two [] e = absurd (omega (arith, e))
two (x ∷ fs) e = ap (λ l. x.now ∷ l) (one fs (omega (arith, e)))

-- the texts of three fields
three : (fs : List (Bor (List ℕ))) → length fs ≡ 3
    → texts fs ≡ text_at fs 0 ∷ text_at fs 1 ∷ text_at fs 2 ∷ []
three [] e = absurd (omega (arith, e))
three (x ∷ fs) e = ap (λ l. x.now ∷ l) (two fs (omega (arith, e)))

-- the texts of four fields
pub four : (fs : List (Bor (List ℕ))) → length fs ≡ 4
    → texts fs ≡ text_at fs 0 ∷ text_at fs 1 ∷ text_at fs 2 ∷ text_at fs 3 ∷ []
four [] e = absurd (omega (arith, e))
four (x ∷ fs) e = ap (λ l. x.now ∷ l) (three fs (omega (arith, e)))

-- the texts of five fields
five : (fs : List (Bor (List ℕ))) → length fs ≡ 5
    → texts fs ≡ text_at fs 0 ∷ text_at fs 1 ∷ text_at fs 2 ∷ text_at fs 3 ∷ text_at fs 4 ∷ []
five [] e = absurd (omega (arith, e))
five (x ∷ fs) e = ap (λ l. x.now ∷ l) (four fs (omega (arith, e)))

-- the texts of at least three fields
three_up : (fs : List (Bor (List ℕ))) → 3 ≤ length fs
    → texts fs ≡ text_at fs 0 ∷ text_at fs 1 ∷ text_at fs 2 ∷ texts (drop 3 fs)
three_up [] e = absurd (omega (arith, e))
three_up (x ∷ []) e = absurd (omega (arith, e))
three_up (x ∷ y ∷ []) e = absurd (omega (arith, e))
three_up (x ∷ y ∷ z ∷ fs) e = refl

-- there are as many fields as texts
count : (fs : List (Bor (List ℕ))) (l : List (List ℕ)) → texts fs ≡ l → length fs ≡ length l
count [] [] e = refl
count [] (a ∷ l) e = absurd (cc)
count (x ∷ fs) [] e = absurd (cc)
count (x ∷ fs) (a ∷ l) e = let rest : texts fs ≡ l = cc in
    let n = count fs l rest in omega (arith, n)

-- ---- names

-- the first field of a request is not that of another event
no_request_named : (name other : List ℕ) (form : List (List ℕ)) (request : List ℕ)
    → asked_of name form ≡ Some request → asked_of other form ≡ None → name ≢ other
no_request_named name other form request h none same =
    some_is_not_none request (sym h ∙ ap (λ n. asked_of n form) same ∙ none)
  where
    some_is_not_none : (q : List ℕ) → ¬ (Some q ≡ None)
    some_is_not_none q h = cc

-- ---- the fields of an event

module _ (fs : List (Bor (List ℕ))) where
  -- the fields of an event that opens a region
  pub open_there : (region : ℕ) → length fs ≡ 2 → text_at fs 0 ≡ codes "open"
      → region_in (text_at fs 1) ≡ Some region → IsEventForm (texts fs) (Open region)
  open_there region long name at =
      let at_region = region_found (text_at fs 1) region at in
      (rw (two fs long, name, at_region.1) refl, at_region.0)

  -- the fields of an event that delivers a bundle
  pub deliver_there : (bundle region : ℕ) → length fs ≡ 3 → text_at fs 0 ≡ codes "deliver"
      → decimal_in (text_at fs 1) ≡ Some bundle → region_in (text_at fs 2) ≡ Some region
      → IsEventForm (texts fs) (Deliver bundle region)
  deliver_there bundle region long name number at =
      let given = decimal_found (text_at fs 1) bundle number in
      let at_region = region_found (text_at fs 2) region at in
      (rw (three fs long, name, given.spelled, at_region.1) refl, given.fits, at_region.0)

  -- the fields of an event that prunes
  pub prune_there : (region horizon : ℕ) → length fs ≡ 3 → text_at fs 0 ≡ codes "prune"
      → region_in (text_at fs 1) ≡ Some region → moment_in (text_at fs 2) ≡ Some horizon
      → IsEventForm (texts fs) (Prune region horizon)
  prune_there region horizon long name at then =
      let at_region = region_found (text_at fs 1) region at in
      let at_moment = moment_found (text_at fs 2) horizon then in
      (rw (three fs long, name, at_region.1, at_moment.1) refl, at_region.0, at_moment.0)

  -- four fields that begin with `pull` are those of a pull
  pub pull_texts : length fs ≡ 4 → text_at fs 0 ≡ codes "pull"
      → codes "pull" ∷ text_at fs 1 ∷ text_at fs 2 ∷ text_at fs 3 ∷ [] ≡ texts fs
  pull_texts long name = ap (λ t. t ∷ text_at fs 1 ∷ text_at fs 2 ∷ text_at fs 3 ∷ []) (sym name)
      ∙ sym (four fs long)

  -- five fields that begin with `prune_some` are those of a slice
  pub slice_texts : length fs ≡ 5 → text_at fs 0 ≡ codes "prune_some"
      → codes "prune_some" ∷ text_at fs 1 ∷ text_at fs 2 ∷ text_at fs 3 ∷ text_at fs 4 ∷ []
      ≡ texts fs
  slice_texts long name = ap (λ t.
      t ∷ text_at fs 1 ∷ text_at fs 2 ∷ text_at fs 3 ∷ text_at fs 4 ∷ []) (sym name)
      ∙ sym (five fs long)

-- ---- the fields of no event

-- the names of events with three fields differ
names_differ : codes "deliver" ≡ codes "prune" → ⊥
names_differ h = absurd (omega (arith, ap length h))

module _ (fs : List (Bor (List ℕ))) where
  -- two fields are those of `open` or of no event
  pub open_bad : length fs ≡ 2 → region_in (text_at fs 1) ≡ None → IsNoEventForm (texts fs)
  open_bad long none (Open region) h =
      let parts = sym (two fs long) ∙ h.0 in
      let same : text_at fs 1 ≡ decimal region = cc in
      no_region (text_at fs 1) region none h.1 same
  open_bad long none (Request region now words request) h = absurd (omega (arith, count fs _ h.2))
  open_bad long none (Pull region vector after) h = absurd (omega (arith, count fs _ h.2))
  open_bad long none (Deliver bundle region) h = absurd (omega (arith, count fs _ h.0))
  open_bad long none (Prune region horizon) h = absurd (omega (arith, count fs _ h.0))
  open_bad long none (PruneSome region horizon after most) h =
      absurd (omega (arith, count fs _ h.1))

  -- three fields that begin with `deliver` are those of a delivery or of no event
  deliver_only : length fs ≡ 3 → text_at fs 0 ≡ codes "deliver"
      → ((bundle region : ℕ) → text_at fs 1 ≡ decimal bundle → bundle < 2 ^ 64
      → text_at fs 2 ≡ decimal region → IsRegion region → ⊥)
      → IsNoEventForm (texts fs)
  deliver_only long name none (Open region) h = absurd (omega (arith, count fs _ h.0))
  deliver_only long name none (Request region now words request) h =
      let parts = sym (three_up fs (omega arith)) ∙ h.2 in
      let same : h.0 ≡ codes "deliver" = cc in
      no_request_named h.0 (codes "deliver") h.1 request.items h.5 refl same
  deliver_only long name none (Pull region vector after) h = absurd (omega (arith, count fs _ h.2))
  deliver_only long name none (Deliver bundle region) h =
      let parts = sym (three fs long) ∙ h.0 in
      none bundle region (cc) h.1 (cc) h.2
  deliver_only long name none (Prune region horizon) h =
      let parts = sym (three fs long) ∙ h.0 in
      let same : text_at fs 0 ≡ codes "prune" = cc in
      names_differ (sym name ∙ same)
  deliver_only long name none (PruneSome region horizon after most) h =
      absurd (omega (arith, count fs _ h.1))

  -- fields of a delivery without a region are no event
  pub deliver_bad_region : length fs ≡ 3 → text_at fs 0 ≡ codes "deliver"
      → region_in (text_at fs 2) ≡ None → IsNoEventForm (texts fs)
  deliver_bad_region long name none = deliver_only long name
      (λ bundle region same high at is. no_region (text_at fs 2) region none is at)

  -- three fields that begin with `prune` are those of a prune or of no event
  prune_only : length fs ≡ 3 → text_at fs 0 ≡ codes "prune"
      → ((region horizon : ℕ) → text_at fs 1 ≡ decimal region → IsRegion region
      → text_at fs 2 ≡ decimal horizon → IsMoment horizon → ⊥)
      → IsNoEventForm (texts fs)
  prune_only long name none (Open region) h = absurd (omega (arith, count fs _ h.0))
  prune_only long name none (Request region now words request) h =
      let parts = sym (three_up fs (omega arith)) ∙ h.2 in
      let same : h.0 ≡ codes "prune" = cc in
      no_request_named h.0 (codes "prune") h.1 request.items h.5 refl same
  prune_only long name none (Pull region vector after) h = absurd (omega (arith, count fs _ h.2))
  prune_only long name none (Deliver bundle region) h =
      let parts = sym (three fs long) ∙ h.0 in
      let same : text_at fs 0 ≡ codes "deliver" = cc in
      names_differ (sym same ∙ name)
  prune_only long name none (Prune region horizon) h =
      let parts = sym (three fs long) ∙ h.0 in
      none region horizon (cc) h.1 (cc) h.2
  prune_only long name none (PruneSome region horizon after most) h =
      absurd (omega (arith, count fs _ h.1))

  -- fields of a prune without a region are no event
  pub prune_bad_region : length fs ≡ 3 → text_at fs 0 ≡ codes "prune"
      → region_in (text_at fs 1) ≡ None → IsNoEventForm (texts fs)
  prune_bad_region long name none = prune_only long name
      (λ region horizon at is then late. no_region (text_at fs 1) region none is at)

  -- fields of a prune without a moment are no event
  pub prune_bad_moment : length fs ≡ 3 → text_at fs 0 ≡ codes "prune"
      → moment_in (text_at fs 2) ≡ None → IsNoEventForm (texts fs)
  prune_bad_moment long name none = prune_only long name
      (λ region horizon at is then late. no_moment (text_at fs 2) horizon none late then)

  -- three or more fields with another name are those of a request or of no event
  pub record IsOther : Type 0 where
    pub long : 3 ≤ length fs
    pub deliver : length fs ≡ 3 → text_at fs 0 ≢ codes "deliver"
    pub pull : length fs ≡ 4 → text_at fs 0 ≢ codes "pull"
    pub prune : length fs ≡ 3 → text_at fs 0 ≢ codes "prune"
    pub slice : length fs ≡ 5 → text_at fs 0 ≢ codes "prune_some"

  -- three or more fields that aren't those of a request or of another event are no event
  request_only : IsOther
      → ((region now : ℕ) (request : List ℕ) → text_at fs 1 ≡ decimal region → IsRegion region
      → text_at fs 2 ≡ decimal now → IsMoment now
      → asked_of (text_at fs 0) (texts (drop 3 fs)) ≡ Some request → ⊥)
      → IsNoEventForm (texts fs)
  request_only other none (Open region) h = let long = other.long in
      absurd (omega (arith, count fs _ h.0))
  request_only other none (Request region now words request) h =
      let parts = sym (three_up fs other.long) ∙ h.2 in
      let name : h.0 ≡ text_at fs 0 = cc in
      let form : h.1 ≡ texts (drop 3 fs) = cc in
      none region now request.items (cc) h.3 (cc) h.4
      (subst (λ t. asked_of (text_at fs 0) t ≡ Some request.items) form
      (subst (λ t. asked_of t h.1 ≡ Some request.items) name h.5))
  request_only other none (Pull region vector after) h =
      let long = count fs _ h.2 in
      let parts = sym (four fs long) ∙ h.2 in
      other.pull long (cc)
  request_only other none (Deliver bundle region) h =
      let long = count fs _ h.0 in
      let parts = sym (three fs long) ∙ h.0 in
      other.deliver long (cc)
  request_only other none (Prune region horizon) h =
      let long = count fs _ h.0 in
      let parts = sym (three fs long) ∙ h.0 in
      other.prune long (cc)
  request_only other none (PruneSome region horizon after most) h =
      let long = count fs _ h.1 in
      let parts = sym (five fs long) ∙ h.1 in
      other.slice long (cc)

  -- the fields after the first three
  abbrev pub rest : List (Bor (List ℕ))
  rest = take (length fs - 3) (drop 3 fs)

  -- fields of a request that no region, moment and request spell are no event
  pub request_bad : IsOther
      → ((region now : ℕ) (request : List ℕ) → text_at fs 1 ≡ decimal region → IsRegion region
      → text_at fs 2 ≡ decimal now → IsMoment now
      → asked_of (text_at fs 0) (texts rest) ≡ Some request → ⊥)
      → IsNoEventForm (texts fs)
  request_bad other none = request_only other
      (λ region now request at is then late form.
      none region now request at is then late
      (subst (λ l. asked_of (text_at fs 0) (texts l) ≡ Some request) (sym (take_rest fs 3)) form))

  -- the first three texts and the others are all texts
  pub with_rest : 3 ≤ length fs → text_at fs 0 ∷ text_at fs 1 ∷ text_at fs 2 ∷ texts rest ≡ texts fs
  with_rest long = ap (λ l. text_at fs 0 ∷ text_at fs 1 ∷ text_at fs 2 ∷ texts l) (take_rest fs 3)
      ∙ sym (three_up fs long)

  -- fewer than three fields are those of `open` or of no event
  pub no_form : length fs < 3 → (length fs ≡ 2 → text_at fs 0 ≢ codes "open")
      → IsNoEventForm (texts fs)
  no_form short other (Open region) h =
      let long = count fs _ h.0 in
      let parts = sym (two fs long) ∙ h.0 in
      other long (cc)
  no_form short other (Request region now words request) h = absurd (omega (arith, count fs _ h.2))
  no_form short other (Pull region vector after) h = absurd (omega (arith, count fs _ h.2))
  no_form short other (Deliver bundle region) h = absurd (omega (arith, count fs _ h.0))
  no_form short other (Prune region horizon) h = absurd (omega (arith, count fs _ h.0))
  no_form short other (PruneSome region horizon after most) h =
      absurd (omega (arith, count fs _ h.1))

-- ---- the fields of a pull

module _ (at entries place : List ℕ) where
  -- the fields of a pull
  abbrev pub pull_fields : List (List ℕ)
  pull_fields = codes "pull" ∷ at ∷ entries ∷ place ∷ []

  -- a region, a vector and a cursor are those of a pull
  pub pull_there : (region : ℕ) (vector : Vector) (after : Option Dot)
      → region_in at ≡ Some region → IsVectorText entries vector → IsCursorText place after
      → IsEventForm pull_fields (Pull region vector after)
  pull_there region vector after here is then =
      let found = region_found at region here in
      (entries, place, rw (found.1) refl, found.0, is, then)

  -- four fields that begin with `pull` are those of a pull or of no event
  pull_only : ((region : ℕ) (vector : Vector) (after : Option Dot) → at ≡ decimal region
      → IsRegion region → IsVectorText entries vector → IsCursorText place after → ⊥)
      → IsNoEventForm pull_fields
  pull_only none (Open region) h = absurd (omega (arith, ap length h.0))
  pull_only none (Request region now words request) h =
      let parts = h.2 in
      let same : h.0 ≡ codes "pull" = cc in
      no_request_named h.0 (codes "pull") h.1 request.items h.5 refl same
  pull_only none (Pull region vector after) h =
      let parts = h.2 in
      let texts : h.0 ≡ entries = cc in
      let cursor : h.1 ≡ place = cc in
      none region vector after (cc) h.3 (subst (λ t. IsVectorText t vector) texts h.4)
      (subst (λ t. IsCursorText t after) cursor h.5)
  pull_only none (Deliver bundle region) h = absurd (omega (arith, ap length h.0))
  pull_only none (Prune region horizon) h = absurd (omega (arith, ap length h.0))
  pull_only none (PruneSome region horizon after most) h = absurd (omega (arith, ap length h.1))

  -- fields of a pull without a region are no event
  pub pull_bad_region : region_in at ≡ None → IsNoEventForm pull_fields
  pull_bad_region none =
      pull_only (λ region vector after here is texts cursor. no_region at region none is here)

  -- fields of a pull without a vector are no event
  pub pull_bad_vector : IsNoVectorText entries → IsNoEventForm pull_fields
  pull_bad_vector none = pull_only (λ region vector after here is texts cursor. none vector texts)

-- ---- the fields of a slice

module _ (at then place most : List ℕ) where
  -- the fields of a slice of a prune
  abbrev pub slice_fields : List (List ℕ)
  slice_fields = codes "prune_some" ∷ at ∷ then ∷ place ∷ most ∷ []

  -- five fields that begin with `prune_some` are those of a slice or of no event
  slice_only : ((region horizon : ℕ) → at ≡ decimal region → IsRegion region
      → then ≡ decimal horizon → IsMoment horizon → ⊥)
      → IsNoEventForm slice_fields
  slice_only none (Open region) h = absurd (omega (arith, ap length h.0))
  slice_only none (Request region now words request) h =
      let parts = h.2 in
      let same : h.0 ≡ codes "prune_some" = cc in
      no_request_named h.0 (codes "prune_some") h.1 request.items h.5 refl same
  slice_only none (Pull region vector after) h = absurd (omega (arith, ap length h.2))
  slice_only none (Deliver bundle region) h = absurd (omega (arith, ap length h.0))
  slice_only none (Prune region horizon) h = absurd (omega (arith, ap length h.0))
  slice_only none (PruneSome region horizon after n) h =
      let parts = h.1 in
      none region horizon (cc) h.2 (cc) h.3

  -- fields of a slice of a prune without a region are no event
  pub slice_bad_region : region_in at ≡ None → IsNoEventForm slice_fields
  slice_bad_region none =
      slice_only (λ region horizon is here now late. no_region at region none here is)

  -- fields of a slice of a prune without a moment are no event
  pub slice_bad_moment : moment_in then ≡ None → IsNoEventForm slice_fields
  slice_bad_moment none =
      slice_only (λ region horizon is here now late. no_moment then horizon none late now)

-- ---- lines

module _ (line : List ℕ) (fs : List (Bor (List ℕ)))
    (parts : texts fs ≡ slice_split is_space line) where
  -- a printable line whose fields are those of an event is a line of this event
  pub line_there : (event : Event) → IsPrintable line
      → AllWithin (λ f. 0 < length f.now) fs 0 (length fs) → IsEventForm (texts fs) event
      → IsEventLine line event
  line_there event plain each form = record {
    printable = plain;
    parted = subst (All (λ field. 0 < length field)) parts
        (All-map (λ field. 0 < length field) (λ f. f.now) fs
        (All-from_all_within (λ f. 0 < length f.now) fs each));
    form = subst (λ fields. IsEventForm fields event) parts form;
  }

  -- a line with an empty field has no event
  pub line_bad : (k : ℕ) × (k < length fs) × HoldsAt (λ f. length f.now ≡ 0) fs k
      → IsNoEventLine line
  line_bad (k, there, empty) event h =
      let d : Bor (List ℕ) = record { ref_ptr = (0, 0); now = [] } in
      let long =
      h.parted k [] (omega (arith, ap length parts, length-map fs (λ (f : Bor (List ℕ)). f.now))) in
      let same = sym (ap (λ l. get_or l k []) parts)
      ∙ get_or-map (λ (f : Bor (List ℕ)). f.now) fs k d [] there in
      omega (arith, empty d, ap length same)
