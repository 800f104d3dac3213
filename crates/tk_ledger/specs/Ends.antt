-- The end of a whole family (RFC 6749, 4.1.2, 10.4 and 10.5; RFC 7009, 2.1).
--   FamilyEnds   no token of a family with a bad grant is active
use Rattle.std.specs.Prelude.{ℕ}
use Rattle.tk_handle.specs.declared.dot.Dot.{Dot}
use Rattle.tk_handle.specs.declared.handle.Handle.{Handle}
use Rattle.tk_family.specs.Families.{IsBad, IsUnder}
use Rattle.tk_ledger.specs.Bodies.{Bodies}
use Rattle.tk_ledger.specs.Tokens.{links_in, IsMarked, IsMintedUnder}
use Rattle.tk_ledger.specs.Status.{IsActive}

-- if the grant at d is bad, no token that is under the same code c is active
abbrev pub FamilyEnds : Bodies → ℕ → Handle → Type 0
FamilyEnds body_at now h = (d c : Dot) → IsBad (links_in body_at) (IsMarked body_at) d
    → IsUnder (links_in body_at) d c → IsMintedUnder body_at h.id.dot c
    → ¬ IsActive body_at now h
