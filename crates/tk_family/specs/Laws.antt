-- The laws of families (own). Each is the contract of the function of its name in `laws`. They hold
-- of all links and marks, also of rings and of rotations that do not fit.
use Rattle.std.specs.Prelude.{◌≡◌, ◌↔◌, ◌+◌, Bool, IsTrue, Some, List, ◌∷◌, length}
use Rattle.tk_handle.specs.declared.dot.Dot.{Dot}
use Rattle.tk_handle.specs.declared.token_id.TokenId.{TokenId}
use Rattle.tk_family.specs.Families.{Links, Marks, IsParent, IsPath, IsUnder, IsTrail, rank_of}
use Rattle.tk_family.specs.Families.{IsTwice, IsDead, LinksWithin, MarksWithin}
use Rattle.tk_family.specs.Walks.{code_of}

-- a dot is under at most one code
abbrev pub OneCode : Type 0
OneCode = (f : Links) (d b c : Dot) → IsUnder f d b → IsUnder f d c → b ≡ c

-- the rank falls by one from a dot to its parent
abbrev pub RankFalls : Type 0
RankFalls = (f : Links) (d p : Dot) → IsParent f d p → rank_of (f d) ≡ rank_of (f p) + 1

-- a chain from a dot to its code has as many parents as the dot's rank
abbrev pub ChainLength : Type 0
ChainLength = (f : Links) (d c : Dot) (ps : List Dot) → IsPath f d ps c → length ps ≡ rank_of (f d)

-- a walk from parent to parent is no longer than the rank at its start
abbrev pub WalkEnds : Type 0
WalkEnds = (f : Links) (d e : Dot) (ps : List Dot) → IsTrail f d ps e
    → length ps + rank_of (f e) ≡ rank_of (f d)

-- no walk comes back to where it began
abbrev pub NoRing : Type 0
NoRing = (f : Links) (d p : Dot) (ps : List Dot) → ¬ IsTrail f d (p ∷ ps) d

-- the walk finds a code exactly if the dot is under that code
abbrev pub WalkFinds : Type 0
WalkFinds = (f : Links) (d c : Dot) → (code_of f d ≡ Some c) ↔ IsUnder f d c

-- a dot that is under a code stays under it when links are added
abbrev pub UnderStays : Type 0
UnderStays = (f g : Links) → LinksWithin f g → (d c : Dot) → IsUnder f d c → IsUnder g d c

-- a token that is used twice stays used twice when links are added
abbrev pub TwiceStays : Type 0
TwiceStays = (f g : Links) → LinksWithin f g → (k : TokenId) → IsTwice f k → IsTwice g k

-- the tokens that pass a test
abbrev pub passing : (TokenId → Bool) → Marks
passing m k = IsTrue (m k)

-- a dead family stays dead when links and marks are added; tests give the marks, since a law cannot
-- range over relations
abbrev pub DeathStays : Type 0
DeathStays = (f g : Links) (m n : TokenId → Bool) → LinksWithin f g
    → MarksWithin (passing m) (passing n) → (c : Dot) → IsDead f (passing m) c
    → IsDead g (passing n) c
