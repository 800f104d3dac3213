-- How a device counts its failures (own).
--   CountsFailure   a call that fails raises the count by one, and no other call does
--   Rose            the count rose in a call, or is at its greatest
use Rattle.std.specs.Prelude.{◌≡◌, ℕ, ◌+◌, ◌-◌, ◌^◌, ◌<◌, ◌⊎◌, min, Result, MatchResult}

-- the greatest count, that of a `u64`
abbrev pub max_count : ℕ
max_count = 2 ^ 64 - 1

-- the count after one more failure; the greatest count stays
abbrev pub one_more : ℕ → ℕ
one_more n = min (n + 1) max_count

-- a call that fails raises the count by one, and no other call does
abbrev pub CountsFailure : {A E : Type 0} → Result A E → ℕ → ℕ → Type 0
CountsFailure r old new = MatchResult r (λ _. new ≡ old) (λ _. new ≡ one_more old)

-- the count rose, or is at its greatest
abbrev pub Rose : ℕ → ℕ → Type 0
Rose old new = (old < new) ⊎ (new ≡ max_count)
