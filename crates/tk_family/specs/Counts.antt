-- How many dots of a family are bad (own).
--   IsCount                    how many dots a function sends to a dot
--   IsCounted                  each code has the number of the bad dots of its family
--   blamed_as, IsCountedAs     each code had that number, before one dot became bad or good
--   AlikeButCount              no column has changed, except the counts
use Rattle.std.specs.Prelude.{◌≡◌, ℕ, Bool, true, List, length, Option, Some, None, if◌then◌else◌}
use Rattle.std.specs.List.{IsDistinct}
use Rattle.tk_handle.specs.declared.dot.Dot.{Dot}
use Rattle.tk_handle.specs.declared.kind.Kind.{Kind}
use Rattle.tk_family.specs.Dots.{dot_eq, has}
use Rattle.tk_family.specs.Rows.{Rows, link_in, code_in, count_in, first_in, marked_in, used_in}
use Rattle.tk_family.specs.Rows.{again_in, blamed_in}

-- f sends exactly n dots to c
pub record IsCount (f : Dot → Option Dot) (c : Dot) (n : ℕ) : Type 0 where
  pub list : List Dot
  pub sound : (q : Dot) → has list q ≡ true → f q ≡ Some c
  pub all : (q : Dot) → f q ≡ Some c → has list q ≡ true
  pub distinct : IsDistinct dot_eq list
  pub count : n ≡ length list

-- each code has the number of the bad dots of its family
abbrev pub IsCounted : Rows → Type 0
IsCounted T = (c : Dot) → IsCount (λ q. blamed_in (T q)) c (count_in (T c))

-- the code that a dot is under, if the dot is bad; `at` is taken to be bad if `was` is true
abbrev pub blamed_as : Rows → Dot → Bool → Dot → Option Dot
blamed_as T at was q =
    if dot_eq at q then (if was then code_in (T q) else None) else blamed_in (T q)

-- each code has the number of the bad dots of its family, if `at` is taken to be bad as `was` says
abbrev pub IsCountedAs : Rows → Dot → Bool → Type 0
IsCountedAs T at was = (c : Dot) → IsCount (blamed_as T at was) c (count_in (T c))

-- each column of B is that of A, except the counts
pub record AlikeButCount (A B : Rows) : Type 0 where
  pub link : (q : Dot) → link_in (B q) ≡ link_in (A q)
  pub code : (q : Dot) → code_in (B q) ≡ code_in (A q)
  pub first : (q : Dot) → first_in (B q) ≡ first_in (A q)
  pub marked : (q : Dot) (k : Kind) → marked_in (B q) k ≡ marked_in (A q) k
  pub used : (q : Dot) (k : Kind) → used_in (B q) k ≡ used_in (A q) k
  pub again : (q : Dot) (k : Kind) → again_in (B q) k ≡ again_in (A q) k
