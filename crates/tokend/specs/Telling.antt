-- What lines about faults leave of their writer (own).
--   Writer     what a writer has taken, if known, and how many of its calls have failed
--   Writing    a writer before and after
--   writer_of  a writer of the code as contracts see it
--   Writes     a text was written, or its beginning by a writer that failed
use Rattle.std.specs.Prelude.{◌⊎◌, ◌≡◌, ℕ, List, Option}
use Rattle.std.specs.Io.KnownBytes.{Appends}
use Rattle.tk_put.specs.Put.{AppendsFront}
use Rattle.tk_edge.specs.Failures.{Rose}

-- what a writer has taken, if known, and how many of its calls have failed
pub record Writer : Type 0 where
  pub bytes : Option (List ℕ)
  pub failed : ℕ

-- a writer before and after
pub record Writing : Type 0 where
  pub before : Writer
  pub after : Writer

-- a writer of the code, with what it holds and how many of its calls have failed
abbrev pub writer_of : {E : Type 0} → (E → Option (List ℕ)) → (E → ℕ) → E → Writer
writer_of holds failed sink = record { bytes = holds sink; failed = failed sink }

-- the text was written, and no call failed; or a call failed, and a beginning was written
abbrev pub Writes : Writer → Writer → List ℕ → Type 0
Writes old new text =
    (Appends old.bytes new.bytes text × (new.failed ≡ old.failed))
    ⊎ (AppendsFront old.bytes new.bytes text × Rose old.failed new.failed)
