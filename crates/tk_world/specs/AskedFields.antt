-- What reaches a region (own): AskedFields.
use Rattle.std.specs.Prelude.{ℕ, List}

-- the moment, the six random words, and the bytes of the stream
pub record AskedFields : Type 0 where
  pub now : ℕ
  pub words : List ℕ
  pub bytes : List ℕ
