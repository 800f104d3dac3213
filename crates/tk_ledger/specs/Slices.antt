-- A prune in slices (own): some facts at a time, in the order of their dots.
--   NamesSkipped, Goes   why a fact may go, by what a store knows
--   is_any_skipped       a dot, if there is one, is skipped
--   SkipsIf              the store after one fact was looked at
--   Steps, Went          facts that went, one after the other
--   Stays                a fact that could not go when it was looked at
--   is_past, is_between  the dots above a cursor, and those between two
--   next_cursor          the cursor behind some facts
--   LooksOver, PrunesSome
--                        the store after a slice of a prune
--   Turn, IsIdle         slices from a cursor to the end of a pass, by which no fact goes
--   PassEnds             the law of such a pass
use Rattle.std.specs.Prelude.{
  map as map_list,
  ◌≡◌,
  ◌≢◌,
  ◌<◌,
  ◌≤◌,
  ◌+◌,
  ◌⊎◌,
  ℕ,
  Bool,
  true,
  false,
  ◌&&◌,
  not,
  List,
  [],
  ◌∷◌,
  length,
  slice_get,
  Option,
  None,
  Some,
}
use Rattle.std.specs.FinMap as map
use Rattle.std.specs.Option.{option_and_then}
use Rattle.std.specs.Ordering.{is_lt}
use Rattle.tk_handle.specs.Dot.{dot_cmp}
use Rattle.tk_handle.specs.declared.dot.Dot.{Dot}
use Rattle.tk_fact.specs.declared.body.Body.{Body}
use Rattle.tk_fact.specs.Keeping.{names_of}
use Rattle.tk_store.specs.FactSet.{FactSet}
use Rattle.tk_store.specs.Slots.{Slots, is_skipped}
use Rattle.tk_store.specs.StoreFields.{StoreFields, held_facts, with_horizon, with_skipped}
use Rattle.tk_store.specs.Walk.{above}
use Rattle.tk_ledger.specs.Retention.{MaySkip}
use Rattle.tk_ledger.specs.declared.slices.Slice.{Slice}

-- ---- facts that may go

-- a fact is held at the dot, and names a dot that is skipped
pub record NamesSkipped (P : StoreFields) (d : Dot) : Type 0 where
  pub fact : Body
  pub here : map.get (held_facts P) d ≡ Some fact
  pub named : Dot
  pub names : names_of fact ≡ Some named
  pub skipped : is_skipped P.slots named ≡ true

-- the fact that is held at the dot may go at the store's horizon: it is kept for a token of a
-- family that is over by the facts that are held, or it names a skipped dot
abbrev pub Goes : StoreFields → Dot → Type 0
Goes P d = MaySkip (map.get (held_facts P)) P.horizon d ⊎ NamesSkipped P d

-- there is a dot, and it is skipped
abbrev pub is_any_skipped : Slots → Option Dot → Bool
is_any_skipped S None = false
is_any_skipped S (Some q) = is_skipped S q

-- the fact at the dot is skipped if it may go; if it may not, nothing changes
abbrev pub SkipsIf : StoreFields → Dot → Bool → StoreFields → Type 0
SkipsIf P d true Q = Goes P d × (Q ≡ with_skipped P d)
SkipsIf P d false Q = (Goes P d → ⊥) × (Q ≡ P)

-- some facts were skipped, each of which could go when its turn came
abbrev pub Steps : StoreFields → List Dot → StoreFields → Type 0
Steps P [] Q = Q ≡ P
Steps P (d ∷ ds) Q = Goes P d × Steps (with_skipped P d) ds Q

-- n facts went, one after the other, each of which could go when its turn came
pub record Went (P : StoreFields) (n : ℕ) (Q : StoreFields) : Type 0 where
  pub dots : List Dot
  pub steps : Steps P dots Q
  pub count : length dots ≡ n

-- the fact at the dot could not go when it was looked at: some of the n facts had gone then, and
-- the rest went later
pub record Stays (P : StoreFields) (n : ℕ) (Q : StoreFields) (d : Dot) : Type 0 where
  pub before : ℕ
  pub after : ℕ
  pub seen : StoreFields
  pub first : Went P before seen
  pub rest : Went seen after Q
  pub all : before + after ≡ n
  pub stays : Goes seen d → ⊥

-- ---- cursors

-- the dot is above a cursor, or there is none
abbrev pub is_past : Option Dot → Dot → Bool
is_past None d = true
is_past (Some e) d = is_lt (dot_cmp e d)

-- the dot is above a cursor, and not above the next one, if there is a next one
abbrev pub is_between : Option Dot → Option Dot → Dot → Bool
is_between after None d = is_past after d
is_between after (Some e) d = is_past after d && not (is_past (Some e) d)

-- the cursors of a walk: the one from which it starts, and the dot of each fact above
abbrev pub cursors : FactSet → Option Dot → List (Option Dot)
cursors F after = after ∷ map_list (λ f. Some f.0) (above F after)

-- the cursor behind the given number of facts, or `None` if fewer are above
abbrev pub next_cursor : FactSet → Option Dot → ℕ → Option Dot
next_cursor F after count = option_and_then (λ c. c) (slice_get (cursors F after) count)

-- ---- a slice

-- the store Q after `count` facts of P above a cursor were looked at: those that could go went, no
-- other dot changed, and what is left between the cursors could not go
pub record LooksOver
    (P : StoreFields) (after : Option Dot) (count : ℕ) (slice : Slice) (Q : StoreFields)
    : Type 0
  where
    pub went : Went P slice.gone Q
    pub most : slice.gone ≤ count
    pub cursor : slice.at ≡ next_cursor (held_facts P) after count
    pub outside : (d : Dot) → is_between after slice.at d ≡ false
        → map.get Q.slots d ≡ map.get P.slots d
    pub left : 0 < count → (d : Dot) → is_between after slice.at d ≡ true
        → map.get (held_facts Q) d ≢ None → Stays P slice.gone Q d

-- the store after a slice of a prune up to a moment: the horizon is not before the moment, and
-- `count` facts above a cursor were looked at
abbrev pub PrunesSome : StoreFields → ℕ → Option Dot → ℕ → Slice → StoreFields → Type 0
PrunesSome old moment after count slice new =
    LooksOver (with_horizon old moment) after count slice new

-- ---- a pass

-- one slice of a pass: how many facts it looked at, what it returned, and the store after it
pub record Turn : Type 0 where
  pub count : ℕ
  pub slice : Slice
  pub store : StoreFields

-- slices up to a moment, from a cursor to the end of a pass, by which no fact goes
abbrev pub IsIdle : StoreFields → ℕ → Option Dot → List Turn → Type 0
IsIdle old moment after [] = after ≡ None
IsIdle old moment after (t ∷ ts) =
    (0 < t.count) × (t.slice.gone ≡ 0) × PrunesSome old moment after t.count t.slice t.store
    × IsIdle t.store moment t.slice.at ts

-- a whole pass by which no fact goes leaves none that may go
abbrev pub PassEnds : Type 0
PassEnds = (old : StoreFields) (moment : ℕ) (t : Turn) (ts : List Turn)
    → IsIdle old moment None (t ∷ ts) → (d : Dot) → Goes (with_horizon old moment) d → ⊥
