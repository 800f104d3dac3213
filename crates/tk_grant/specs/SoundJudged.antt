-- What holds of every judgement, whatever the facts (own): each fact passes its check by this.
--   IsSoundJudged   the family has not ended, and a rotation's generation is in range
use Rattle.std.specs.Prelude.{◌≡◌, ◌<◌, ℕ, true}
use Rattle.tk_fact.specs.Check.{is_used_once, is_generation}
use Rattle.tk_grant.specs.declared.judged.Judged.{Judged}
use Rattle.tk_grant.specs.declared.judged.Judged.TheVariants.{
  Refused,
  Reused,
  Redeems,
  Rotates,
  Refreshes,
}

-- a token that is reused is a code or refresh token; the family of a grant has not ended, and the
-- generation of a rotation is in range (own)
abbrev pub IsSoundJudged : ℕ → Judged → Type 0
IsSoundJudged now (Refused why) = Unit {0}
IsSoundJudged now (Reused id) = is_used_once id.kind ≡ true
IsSoundJudged now (Redeems grant) = now < grant.family_end
IsSoundJudged now (Rotates generation grant) =
    (is_generation generation ≡ true) × (now < grant.family_end)
IsSoundJudged now (Refreshes grant) = now < grant.family_end
