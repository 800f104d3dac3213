-- Which facts may be skipped: those of families that are over (own).
--   mints                  a fact mints a token
--   IsOverAt               the family of the tokens minted at a dot is over
--   MintsNothing           the fact at a dot mints no token
--   MaySkip, may_skip      the fact at a dot is kept for a token of a family that is over, or for
--                          one that can't come any more
--   is_over                the family of a token is over, or the token can't come any more
--   picked, dots_over      the dots of all facts that may be skipped, codes first
--   Prunes                 the store after a prune
--   SkipsAll, AllMayGo     the store after some dots were skipped, which may go
use Rattle.std.specs.Prelude.{
  map as map_list,
  ◌≡◌,
  ◌||◌,
  ◌≤◌,
  ◌+◌,
  ◌++◌,
  ◌⊎◌,
  ℕ,
  Bool,
  true,
  false,
  max,
  ◌&&◌,
  not,
  nat_le,
  List,
  filter,
  Option,
  None,
  Some,
  is_some,
}
use Rattle.std.specs.FinMap as map
use Rattle.tk_handle.specs.declared.dot.Dot.{Dot}
use Rattle.tk_handle.specs.declared.token_id.TokenId.{TokenId}
use Rattle.tk_fact.specs.declared.body.Body.{Body}
use Rattle.tk_fact.specs.declared.body.Body.TheVariants.{
  CodeIssued,
  CodeRedeemed,
  RefreshRotated,
  AccessRefreshed,
}
use Rattle.tk_fact.specs.declared.code_issued.CodeIssued as issued
use Rattle.tk_fact.specs.Keeping.{kept_for}
use Rattle.tk_store.specs.FactSet.{FactSet, Facts}
use Rattle.tk_store.specs.Skipping.{MayGo}
use Rattle.tk_store.specs.Slots.{Skipped}
use Rattle.tk_store.specs.StoreFields.{StoreFields, held_facts}
use Rattle.tk_ledger.specs.Bodies.{Bodies}
use Rattle.tk_ledger.specs.Tokens.{IsMintedUnder, issued_in, issued_at, Root, root_in}

-- the family that the tokens minted at the dot are in is over at the horizon
pub record IsOverAt (body_at : Bodies) (horizon : ℕ) (d : Dot) : Type 0 where
  pub root : Dot
  pub under : IsMintedUnder body_at d root
  pub code : issued.CodeIssued
  pub issues : issued_at body_at root ≡ Some code
  pub over : code.family_end ≤ horizon

-- a fact with the body mints a token
abbrev pub mints : Body → Bool
mints (CodeIssued f) = true
mints (CodeRedeemed f) = true
mints (RefreshRotated f) = true
mints (AccessRefreshed f) = true
mints body = false

-- a fact is at the dot, and it mints no token: none with the dot can come any more
pub record MintsNothing (body_at : Bodies) (d : Dot) : Type 0 where
  pub fact : Body
  pub here : body_at d ≡ Some fact
  pub barren : mints fact ≡ false

-- the fact at the dot is kept for a token of a family that is over at the horizon, or for one that
-- can't come any more
pub record MaySkip (body_at : Bodies) (horizon : ℕ) (d : Dot) : Type 0 where
  pub fact : Body
  pub here : body_at d ≡ Some fact
  pub token : TokenId
  pub kept : kept_for d fact ≡ Some token
  pub why : IsOverAt body_at horizon token.dot ⊎ MintsNothing body_at token.dot

-- ---- the test

-- there is a root, and its family is over at the horizon
abbrev pub is_over_by : ℕ → Option Root → Bool
is_over_by horizon None = false
is_over_by horizon (Some root) = nat_le root.issued.family_end horizon

-- there is a body, and it mints no token
abbrev pub mints_nothing : Option Body → Bool
mints_nothing None = false
mints_nothing (Some body) = not (mints body)

-- the token is of a family that is over at the horizon, or can't come any more
abbrev pub is_over : FactSet → ℕ → TokenId → Bool
is_over F horizon k =
    mints_nothing (map.get F k.dot) || is_over_by horizon (root_in (map.get F) k.dot)

-- there is a token, and it is of a family that is over at the horizon, or can't come any more
abbrev pub is_any_over : FactSet → ℕ → Option TokenId → Bool
is_any_over F horizon None = false
is_any_over F horizon (Some k) = is_over F horizon k

-- the fact is kept for a token of a family that is over at the horizon, or for one that can't come
-- any more: the test
abbrev pub may_skip : FactSet → ℕ → Dot × Body → Bool
may_skip F horizon f = is_any_over F horizon (kept_for f.0 f.1)

-- ---- all facts that may be skipped

-- the body issues a code
abbrev pub issues : Body → Bool
issues body = is_some (issued_in body)

-- the fact may be skipped, and issues a code
abbrev pub picks_code : FactSet → ℕ → Dot × Body → Bool
picks_code F horizon f = issues f.1 && may_skip F horizon f

-- the fact may be skipped, and issues no code
abbrev pub picks_other : FactSet → ℕ → Dot × Body → Bool
picks_other F horizon f = not (issues f.1) && may_skip F horizon f

-- the dots of the facts that pass a test
abbrev pub picked : (Dot × Body → Bool) → Facts → List Dot
picked p fs = map_list (λ f. f.0) (filter p fs)

-- the dots of all facts that may be skipped: first those of codes, ascending, then the others
abbrev pub dots_over : FactSet → ℕ → List Dot
dots_over F horizon =
    picked (picks_code F horizon) (map.entries F) ++ picked (picks_other F horizon) (map.entries F)

-- ---- a prune

-- the store after a prune up to a moment, by which n facts went: the horizon is not before the
-- moment, and exactly the facts of families that are over at the horizon are skipped
pub record Prunes (old : StoreFields) (moment n : ℕ) (new : StoreFields) : Type 0 where
  pub raised : new.horizon ≡ max old.horizon moment
  pub skips : (d : Dot) → MaySkip (map.get (held_facts old)) new.horizon d
      → map.get new.slots d ≡ Some Skipped
  pub keeps : (d : Dot) → (map.get new.slots d ≡ map.get old.slots d)
      ⊎ MaySkip (map.get (held_facts old)) new.horizon d
  pub count : map.len (held_facts old) ≡ map.len (held_facts new) + n

-- the dots that pass a test are skipped, and nothing else changes
pub record SkipsAll (old : StoreFields) (at : Dot → Bool) (new : StoreFields) : Type 0 where
  pub here : (d : Dot) → at d ≡ true → map.get new.slots d ≡ Some Skipped
  pub there : (d : Dot) → at d ≡ false → map.get new.slots d ≡ map.get old.slots d
  pub horizon : new.horizon ≡ old.horizon
  pub fewer : map.len (held_facts new) ≤ map.len (held_facts old)

-- each dot that passes the test is known, and has no fact that lasts
abbrev pub AllMayGo : StoreFields → (Dot → Bool) → Type 0
AllMayGo P at = (d : Dot) → at d ≡ true → MayGo (map.get P.slots d)
