-- A walk over what a view shows at dots sees each entry once. Key results:
--   shown_at     what is shown at each dot of a set
--   shown_same   two views that show the same in two sets
--   walk_all     a list that covers the dots above a dot shows what is above the dot
--   walk_first   the first entry that is found is the first above the dot
use Rattle.std.proofs.Common.{◌≡◌, Bool, true, false, cond, T, List, [], ◌∷◌, filter, Option, Some}
use Rattle.std.proofs.Common.{None, is_some, map as map_list, refl, sym, ap, subst, ◌∙◌, inl, inr}
use Rattle.std.proofs.lemmas.Bool.{cases_Bool, cond-true, cond-false}
use Rattle.std.specs.FinMap as map
use Rattle.std.specs.FinMap.Entries.{below_all, where_key, is_sorted-where_key, find-where_key}
use Rattle.std.specs.List.{filter_map, cons_option}
use Rattle.std.specs.Option.{option_map}
use Rattle.std.specs.Ordering.{eq_by_cmp, is_lt, is_eq}
use Rattle.std.specs.declared.cmp.Ordering.{Ordering}
use Rattle.std.specs.declared.cmp.Ordering.TheVariants.{Less, Equal}
use Rattle.tk_handle.specs.declared.dot.Dot.{Dot}
use Rattle.tk_handle.specs.Dot.{dot_cmp, dot_cmp_total}
use Rattle.tk_fact.specs.declared.body.Body.{Body}
use Rattle.tk_store.specs.FactSet.{FactSet}
use Rattle.tk_store.specs.Walk.{is_above, above}
use Rattle.tk_handle.proofs.TestLaws.{tied}
use Rattle.tk_store.proofs.WalkLaws.{above_next}
use Rattle.tk_ledger.specs.SubjectWalk.{seen, shown_in, Walks}
use Rattle.tk_handle.proofs.TestLaws.{and as joined, both}

-- an order that is Less is one of below
pub less : (o : Ordering) → o ≡ Less → T (is_lt o)
less o h = subst (λ x. T (is_lt x)) (sym h) tt

-- a dot that ties with another is the other
pub dot_same : map.IsAntisymmetric dot_cmp
dot_same a b h = tied a b (ap is_eq h)

-- the dot is above the other, or there is no other
abbrev pub above_dot : Option Dot → Dot → Bool
above_dot None d = true
above_dot (Some a) d = is_lt (dot_cmp a d)

-- a test has one value at dots that compare as equal
pub alike : (p : Dot → Bool) (q x : Dot) → dot_cmp q x ≡ Equal → p x ≡ p q
alike p q x h = ap p (sym (dot_same q x h))

module _ {X : Type 0} where
  -- lists in order that have the same at each dot are the same
  same_list : (es fs : List (Dot × X)) → T (map.is_sorted dot_cmp es) → T (map.is_sorted dot_cmp fs)
      → ((q : Dot) → map.find dot_cmp q es ≡ map.find dot_cmp q fs) → es ≡ fs
  same_list es fs s r h =
      sym (map.entries-from_sorted dot_cmp es s)
      ∙ ap map.entries
      (map.same_map dot_cmp_total dot_same (map.from_sorted es) (map.from_sorted fs)
      (λ q. map.get-from_sorted dot_cmp es q s ∙ h q ∙ sym (map.get-from_sorted dot_cmp fs q r)))
      ∙ map.entries-from_sorted dot_cmp fs r

  -- the entries above a dot are those whose key is above that dot
  above_is : (a : Option Dot) (es : List (Dot × X))
      → filter (is_above a) es ≡ where_key dot_cmp (above_dot a) es
  above_is None es = refl
  above_is (Some d) es = refl

-- the keys with their dots
abbrev pub placed : {K : Type 0} → (K → Dot) → List K → List (Dot × K)
placed place ks = map_list (λ k. (place k, k)) ks

-- ---- what a view shows at entries

module _ {X Y : Type 0} (view : Dot → Option X) where
  -- a dot below all entries is below all that a view shows of them
  seen_below : (d : Dot) (es : List (Dot × Y)) → T (below_all dot_cmp d es)
      → T (below_all dot_cmp d (filter_map (seen view) es))
  seen_below d [] h = h
  seen_below d (e ∷ es) h = elim (view e.0) as
      (λ o. T (below_all dot_cmp d
      (cons_option (option_map (λ x. (e.0, x)) o) (filter_map (seen view) es)))) [
        | None ↦ seen_below d es (both _ _ h).1
        | Some x ↦ joined _ _ (both _ _ h).0 (seen_below d es (both _ _ h).1)
      ]

  -- what a view shows of sorted entries is sorted
  seen_sorted : (es : List (Dot × Y)) → T (map.is_sorted dot_cmp es)
      → T (map.is_sorted dot_cmp (filter_map (seen view) es))
  seen_sorted [] h = h
  seen_sorted (e ∷ es) h = elim (view e.0) as
      (λ o. T (map.is_sorted dot_cmp
      (cons_option (option_map (λ x. (e.0, x)) o) (filter_map (seen view) es)))) [
        | None ↦ seen_sorted es (both _ _ h).1
        | Some x ↦ joined _ _ (seen_below e.0 es (both _ _ h).0) (seen_sorted es (both _ _ h).1)
      ]

  -- at a dot of the entries a look-up finds what the view shows there, and nothing elsewhere
  seen_found : (q : Dot) (es : List (Dot × Y))
      → map.find dot_cmp q (filter_map (seen view) es)
      ≡ cond (is_some (map.find dot_cmp q es)) (view q) None
  seen_found q [] = refl
  seen_found q (e ∷ es) = elim (cases_Bool (eq_by_cmp dot_cmp q e.0)) [
    | inl here ↦
        let same : q ≡ e.0 = tied q e.0 here in
        first (view e.0) refl here (ap view same) (seen_found q es)
        ∙ sym (ap (λ (o : Option Y). cond (is_some o) (view q) None)
        (cond-true (eq_by_cmp dot_cmp q e.0) (Some e.1) (map.find dot_cmp q es) here))
    | inr later ↦
        past (view e.0) later ∙ seen_found q es
        ∙ sym (ap (λ (o : Option Y). cond (is_some o) (view q) None)
        (cond-false (eq_by_cmp dot_cmp q e.0) (Some e.1) (map.find dot_cmp q es) later))
  ]
    where
      gone : (o : Option Y) → view q ≡ None → cond (is_some o) (view q) None ≡ None
      gone None h = refl
      gone (Some x) h = h

      first : (o : Option X) → view e.0 ≡ o → eq_by_cmp dot_cmp q e.0 ≡ true
          → view q ≡ view e.0
          → map.find dot_cmp q (filter_map (seen view) es)
          ≡ cond (is_some (map.find dot_cmp q es)) (view q) None
          → map.find dot_cmp q
          (cons_option (option_map (λ x. (e.0, x)) o) (filter_map (seen view) es))
          ≡ view q
      first None is here at more =
          more ∙ gone (map.find dot_cmp q es) (at ∙ is) ∙ sym (at ∙ is)
      first (Some x) is here at more = cond-true (eq_by_cmp dot_cmp q e.0) (Some x)
          (map.find dot_cmp q (filter_map (seen view) es)) here
          ∙ sym (at ∙ is)

      past : (o : Option X) → eq_by_cmp dot_cmp q e.0 ≡ false
          → map.find dot_cmp q
          (cons_option (option_map (λ x. (e.0, x)) o) (filter_map (seen view) es))
          ≡ map.find dot_cmp q (filter_map (seen view) es)
      past None later = refl
      past (Some x) later = cond-false (eq_by_cmp dot_cmp q e.0) (Some x)
          (map.find dot_cmp q (filter_map (seen view) es)) later

-- ---- what a view shows in a set

-- a view that shows nothing where no fact is
abbrev pub OnFacts : {X : Type 0} → FactSet → (Dot → Option X) → Type 0
OnFacts F view = (q : Dot) → map.get F q ≡ None → view q ≡ None

module _ {X : Type 0} (F : FactSet) (view : Dot → Option X) (on : OnFacts F view) where
  -- what is shown at a dot is what the view has there
  pub shown_at : (q : Dot) → map.get (shown_in F view) q ≡ view q
  shown_at q =
      map.get-from_entries dot_cmp_total (filter_map (seen view) (map.entries F)) q
      ∙ seen_found view q (map.entries F)
      ∙ ap (λ (o : Option Body). cond (is_some o) (view q) None) (sym (map.get-entries F q))
      ∙ by_fact (map.get F q) refl
    where
      by_fact : (o : Option Body) → map.get F q ≡ o → cond (is_some o) (view q) None ≡ view q
      by_fact None h = sym (on q h)
      by_fact (Some b) h = refl

  -- a list in order that covers the dots above a dot shows what is above the dot
  pub walk_all : {Y : Type 0} (a : Option Dot) (es : List (Dot × Y)) → T (map.is_sorted dot_cmp es)
      → ((q : Dot)
      → cond (is_some (map.find dot_cmp q es)) (view q) None ≡ cond (above_dot a q) (view q) None)
      → filter_map (seen view) es ≡ above (shown_in F view) a
  walk_all a es sorted covers = same_list _ _ (seen_sorted view es sorted)
      (subst (λ (xs : List (Dot × X)). T (map.is_sorted dot_cmp xs))
      (sym (above_is a (map.entries (shown_in F view))))
      (is_sorted-where_key dot_cmp (above_dot a) (map.entries (shown_in F view))
      (map.entries_sorted (shown_in F view))))
      (λ q. seen_found view q es ∙ covers q ∙ sym (of_shown q))
    where
      of_shown : (q : Dot)
          → map.find dot_cmp q (above (shown_in F view) a) ≡ cond (above_dot a q) (view q) None
      of_shown q =
          ap (map.find dot_cmp q) (above_is a (map.entries (shown_in F view)))
          ∙ find-where_key dot_cmp (above_dot a) q (alike (above_dot a) q)
          (map.entries (shown_in F view))
          ∙ ap (λ (o : Option X). cond (above_dot a q) o None)
          (sym (map.get-entries (shown_in F view) q) ∙ shown_at q)

-- two views that have the same at each dot show the same of their sets
pub shown_same : {X : Type 0} (F G : FactSet) (v w : Dot → Option X) → OnFacts F v → OnFacts G w
    → ((d : Dot) → v d ≡ w d) → shown_in F v ≡ shown_in G w
shown_same F G v w on also views =
    map.same_map dot_cmp_total dot_same (shown_in F v) (shown_in G w)
    (λ q. shown_at F v on q ∙ views q ∙ sym (shown_at G w also q))

-- ---- steps of a loop over entries

-- the first entry that is found is the first above the dot, and the others are behind it
pub walk_first : {X Y : Type 0} (m : map.FinMap dot_cmp X) (view : Dot → Option X) (a : Option Dot)
    (e : Dot × Y) (rest : List (Dot × Y)) (x : X)
    → view e.0 ≡ Some x → filter_map (seen view) (e ∷ rest) ≡ above m a
    → Walks m a (Some (e.0, x))
walk_first m view a e rest x here left =
    let all : above m a ≡ (e.0, x) ∷ filter_map (seen view) rest =
    sym left ∙ ap (λ o. cons_option (option_map (λ x. (e.0, x)) o) (filter_map (seen view) rest))
    here in
    all ∙ ap (λ l. (e.0, x) ∷ l)
    (sym (above_next m a (e.0, x) (filter_map (seen view) rest) all))

-- an entry at which nothing is shown is passed over
pub walk_on : {X Y : Type 0} (m : map.FinMap dot_cmp X) (view : Dot → Option X) (a : Option Dot)
    (e : Dot × Y) (rest : List (Dot × Y))
    → view e.0 ≡ None → filter_map (seen view) (e ∷ rest) ≡ above m a
    → filter_map (seen view) rest ≡ above m a
walk_on m view a e rest none left =
    sym (ap (λ o. cons_option (option_map (λ x. (e.0, x)) o) (filter_map (seen view) rest)) none)
    ∙ left
