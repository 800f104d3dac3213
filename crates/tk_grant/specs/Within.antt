-- What a fact of the token endpoint uses and mints, over the facts held before (own).
--   IsCodeOf      a code was issued, and its family ends at a moment
--   IsRotatable   the fact at a dot is the parent of a rotation
--   IsWithin      a fact names what was minted, and its tokens end with their family at the latest
use Rattle.std.specs.Prelude.{◌≡◌, ◌≢◌, ◌≤◌, ⊤, ℕ, true, Some, None}
use Rattle.std.specs.FinMap as map
use Rattle.tk_handle.specs.declared.dot.Dot.{Dot}
use Rattle.tk_family.specs.declared.link.Link.{Link}
use Rattle.tk_family.specs.declared.link.Link.TheVariants.{Rotates}
use Rattle.tk_family.specs.Families.{IsUnder, fits}
use Rattle.tk_fact.specs.declared.body.Body.{Body}
use Rattle.tk_fact.specs.declared.body.Body.TheVariants.{
  CodeRedeemed,
  RefreshRotated,
  ReuseSeen,
  AccessRefreshed,
}
use Rattle.tk_fact.specs.declared.code_issued.CodeIssued.{CodeIssued}
use Rattle.tk_store.specs.FactSet.{FactSet}
use Rattle.tk_ledger.specs.Tokens.{links_in, issued_at, minted_in}

-- a code was issued at the dot, and its family ends at the moment (own)
abbrev pub IsCodeOf : FactSet → Dot → ℕ → Type 0
IsCodeOf F c moment =
    (code : CodeIssued) × (issued_at (map.get F) c ≡ Some code) × (moment ≡ code.family_end)

-- a rotation of the generation fits the fact at the dot, a redemption or a rotation (RFC 6749, 6)
abbrev pub IsRotatable : FactSet → Dot → ℕ → Type 0
IsRotatable F parent generation =
    (above : Link) × (links_in (map.get F) parent ≡ Some above)
    × (fits (Rotates parent generation) above ≡ true)

-- a redemption is of a code that was issued, and a rotation of a refresh token that was minted
-- under a code, a generation before; the tokens of both end with the family of that code at the
-- latest. A reuse is of a token that was minted. An access token that is refreshed is for a refresh
-- token under a code, and ends with the family of that code at the latest (own)
abbrev pub IsWithin : FactSet → Body → Type 0
IsWithin F (CodeRedeemed f) =
    (moment : ℕ) × IsCodeOf F f.code moment
    × (f.access.expiry ≤ moment) × (f.refresh.expiry ≤ moment)
IsWithin F (RefreshRotated f) =
    IsRotatable F f.parent f.generation
    × (c : Dot) × IsUnder (links_in (map.get F)) f.parent c
    × (moment : ℕ) × IsCodeOf F c moment × (f.access.expiry ≤ moment) × (f.refresh.expiry ≤ moment)
IsWithin F (ReuseSeen f) = minted_in (map.get F) f.token ≢ None
IsWithin F (AccessRefreshed f) =
    (l : Link) × (links_in (map.get F) f.parent ≡ Some l)
    × (c : Dot) × IsUnder (links_in (map.get F)) f.parent c
    × (moment : ℕ) × IsCodeOf F c moment × (f.access.expiry ≤ moment)
IsWithin F body = ⊤
