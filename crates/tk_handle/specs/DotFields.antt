-- What contracts see of a dot (own).
use Rattle.std.specs.Prelude.{ℕ}

-- a dot as contracts see it: the region that made a fact, and the fact's serial
pub record DotFields : Type 0 where
  pub region : ℕ
  pub serial : ℕ
