-- The text of a version vector (own): `-` for the empty one, otherwise an entry R:S for each
-- region, joined by commas.
--   IsVectorText     a text is the text of a vector
--   IsNoVectorText   a text is the text of no vector
--   IsDotsText       a text is the text of dots whose regions rise; AreNoDots, of no such dots
--   vector_of        the vector with each dot's serial at its region
use Rattle.std.specs.Prelude.{◌≡◌, ◌⊎◌, ◌<◌, ◌==◌, ℕ, Bool, List, map, length, codes}
use Rattle.std.specs.FinMap as fin
use Rattle.std.specs.List.{All, AllAdjacentBelow, fold, slice_split}
use Rattle.tk_handle.specs.declared.dot.Dot.{Dot}
use Rattle.tk_handle.specs.Dot.{IsDot}
use Rattle.tk_handle.specs.DotText.{dot_text}
use Rattle.tk_vector.specs.VersionVector.{Vector, raised}

-- the byte `b','`
abbrev pub is_comma : ℕ → Bool
is_comma b = b == 44

-- each dot's region is below that of the next
abbrev pub IsRising : List Dot → Type 0
IsRising dots = AllAdjacentBelow (λ one next. one.region < next.region) dots (length dots)

-- the text has an entry for each dot, joined by commas, and the regions of the dots rise
pub record IsDotsText (text : List ℕ) (dots : List Dot) : Type 0 where
  pub ranges : All IsDot dots
  pub spelled : slice_split is_comma text ≡ map dot_text dots
  pub rising : IsRising dots

-- the text is no list of dots joined by commas whose regions rise
abbrev pub AreNoDots : List ℕ → Type 0
AreNoDots text = (dots : List Dot) → ¬ (IsDotsText text dots)

-- the vector with each dot's serial at its region
abbrev pub vector_of : List Dot → Vector
vector_of dots = fold (λ vector dot. raised vector dot.region dot.serial) fin.empty dots

-- a text is the text of a vector: `-` for the empty vector, otherwise an entry for each dot, whose
-- regions rise
abbrev pub IsVectorText : List ℕ → Vector → Type 0
IsVectorText text vector = ((text ≡ codes "-") × (vector ≡ fin.empty))
    ⊎ ((dots : List Dot) × IsDotsText text dots × (vector ≡ vector_of dots))

-- the text is the text of no vector
abbrev pub IsNoVectorText : List ℕ → Type 0
IsNoVectorText text = (vector : Vector) → ¬ (IsVectorText text vector)
