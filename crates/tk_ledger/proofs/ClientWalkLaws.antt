-- A walk over clients by their dots sees each client once. Key results:
--   clients_same    two sets that say the same of each client have the same clients
--   walk_rows       the clients above a dot are those of the rows above it
use Rattle.std.proofs.Common.{◌≡◌, Bool, true, false, ◌&&◌, cond, T, List, [], ◌∷◌, Option, Some}
use Rattle.std.proofs.Common.{None, is_some, refl, sym, ap, ◌∙◌}
use Rattle.std.proofs.lemmas.Bool.{true≢false}
use Rattle.std.specs.BTreeMap as rows
use Rattle.std.specs.BTreeMap.{BTreeMap}
use Rattle.std.specs.Map.{keys_of, lookup}
use Rattle.std.specs.BTreeMap.Range.{entries_between, range_contains}
use Rattle.std.specs.FinMap as map
use Rattle.std.specs.FinMap.Entries.{below_all, is_sorted-where_key, find-where_key}
use Rattle.std.specs.List.{AllByRecursion, filter_map}
use Rattle.std.specs.List.Sorted.{IsStrictlySortedBy}
use Rattle.std.specs.Option.{option_and_then, option_map}
use Rattle.std.specs.Ordering.{eq_by_cmp, is_lt}
use Rattle.std.specs.declared.cmp.Ordering.TheVariants.{Less}
use Rattle.std.specs.declared.ops.Bound.{Bound}
use Rattle.std.specs.declared.ops.Bound.TheVariants.{Excluded, Unbounded}
use Rattle.tk_handle.specs.declared.dot.Dot.{Dot}
use Rattle.tk_handle.specs.Dot.{dot_cmp}
use Rattle.tk_fact.specs.declared.body.Body.{Body}
use Rattle.tk_fact.specs.declared.client_added.ClientAdded as added
use Rattle.tk_store.specs.FactSet.{FactSet}
use Rattle.tk_store.specs.Walk.{above}
use Rattle.tk_ledger.specs.ClientWalk.{clients_in}
use Rattle.tk_ledger.specs.Clients.{added_in, client_at, is_live_client}
use Rattle.tk_ledger.specs.Index.{row_at, row_added, IsClients}
use Rattle.tk_ledger.specs.SubjectWalk.{seen}
use Rattle.tk_ledger.specs.Views.{client_view}
use Rattle.tk_ledger.specs.declared.client_rows.ClientRow.{ClientRow}
use Rattle.tk_ledger.proofs.DotWalkLaws.{less, above_dot, alike, OnFacts, shown_same, walk_all}
use Rattle.tk_handle.proofs.TestLaws.{and as joined}

-- ---- the clients of a set

-- no view is where no client was added
no_view : (F : FactSet) (q : Dot) → client_at F q ≡ None → client_view F q ≡ None
no_view F q h = ap (λ (o : Option added.ClientAdded).
    option_map (λ (c : added.ClientAdded). record {
      client_kind = c.client_kind;
      scope = c.scope;
      redirects = c.redirects;
      lives = c.lives;
      live = is_live_client F q;
    }) o) h

-- no client is where no fact is
view_on : (F : FactSet) → OnFacts F (client_view F)
view_on F q h = no_view F q (ap (λ (b : Option Body). option_and_then added_in b) h)

-- two sets that say the same of each client have the same clients
pub clients_same : (F G : FactSet) → ((d : Dot) → client_view F d ≡ client_view G d)
    → clients_in F ≡ clients_in G
clients_same F G views =
    shown_same F G (client_view F) (client_view G) (view_on F) (view_on G) views

-- ---- the rows

-- looking a dot up in a list of entries finds what a map finds
found_in : {X : Type 0} (q : Dot) (es : List (Dot × X))
    → lookup (rows.is_at (dot_cmp q)) es ≡ map.find dot_cmp q es
found_in q [] = refl
found_in q (e ∷ es) = ap (cond (eq_by_cmp dot_cmp q e.0) (Some e.1)) (found_in q es)

-- entries whose dots rise are in the order of a map
rises : {X : Type 0} (es : List (Dot × X)) → IsStrictlySortedBy dot_cmp (keys_of es)
    → T (map.is_sorted dot_cmp es)
unfolding IsStrictlySortedBy
rises [] h = tt
rises {X} (e ∷ es) h = joined _ _ (low es h.0) (rises es h.1)
  where
    low : (xs : List (Dot × X)) → AllByRecursion (λ y. dot_cmp e.0 y ≡ Less) (keys_of xs)
        → T (below_all dot_cmp e.0 xs)
    low [] all = tt
    low (x ∷ xs) all = joined _ _ (less _ all.0) (low xs all.1)

-- where the rows above a dot begin
abbrev pub start_above : Option Dot → Bound Dot
start_above None = Unbounded
start_above (Some d) = Excluded d

-- the dots in the range that starts above a cursor are those above the cursor
in_range : (a : Option Dot) (q : Dot)
    → range_contains dot_cmp (start_above a) Unbounded q ≡ above_dot a q
in_range None q = refl
in_range (Some d) q = and_true (is_lt (dot_cmp d q))
  where
    and_true : (b : Bool) → (b && true) ≡ b
    and_true true = refl
    and_true false = refl

module _ (F : FactSet) (t : BTreeMap Dot ClientRow) (i : IsClients F t) where
  -- no client is where no row is
  view_of_row : (q : Dot) (o : Option ClientRow) → row_at t q ≡ o
      → cond (is_some o) (client_view F q) None ≡ client_view F q
  view_of_row q (Some row) h = refl
  view_of_row q None h = by_client (client_at F q) refl (sym (i.added q) ∙ ap row_added h)
    where
      by_client : (o : Option added.ClientAdded) → client_at F q ≡ o → is_some o ≡ false
          → None ≡ client_view F q
      by_client (Some c) at none = absurd (true≢false none)
      by_client None at none = sym (no_view F q at)

  -- the clients above a dot are those of the rows above it
  pub walk_rows : rows.IsOrdered dot_cmp t → (a : Option Dot)
      → filter_map (seen (client_view F))
      (entries_between dot_cmp (start_above a) Unbounded t.entries)
      ≡ above (clients_in F) a
  walk_rows sorted a = walk_all F (client_view F) (view_on F) a
      (entries_between dot_cmp (start_above a) Unbounded t.entries)
      (is_sorted-where_key dot_cmp (range_contains dot_cmp (start_above a) Unbounded) t.entries
      (rises t.entries sorted)) of_rows
    where
      within : {X : Type 0} (b : Bool) (o : Option ClientRow) (v : Option X)
          → cond (is_some o) v None ≡ v → cond (is_some (cond b o None)) v None ≡ cond b v None
      within true o v h = h
      within false o v h = refl

      of_rows : (q : Dot)
          → cond
          (is_some (map.find dot_cmp q
          (entries_between dot_cmp (start_above a) Unbounded t.entries)))
          (client_view F q) None
          ≡ cond (above_dot a q) (client_view F q) None
      of_rows q =
          ap (λ (o : Option ClientRow). cond (is_some o) (client_view F q) None)
          (find-where_key dot_cmp (range_contains dot_cmp (start_above a) Unbounded) q
          (alike (range_contains dot_cmp (start_above a) Unbounded) q) t.entries
          ∙ ap (λ b. cond b (map.find dot_cmp q t.entries) None) (in_range a q))
          ∙ within (above_dot a q) (map.find dot_cmp q t.entries) (client_view F q)
          (view_of_row q (map.find dot_cmp q t.entries) (found_in q t.entries))
