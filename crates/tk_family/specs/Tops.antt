-- Where a dot is among families, and which dots a link raises (own).
--   IsTop      absent, broken, under a code whose family lives, or under a code whose family is
--              dead
--   IsRaised   a dot has come under a code
use Rattle.std.specs.Prelude.{◌≡◌, ◌≢◌, None}
use Rattle.tk_handle.specs.declared.dot.Dot.{Dot}
use Rattle.tk_family.specs.declared.top.Top.{Top}
use Rattle.tk_family.specs.declared.top.Top.TheVariants as top
use Rattle.tk_family.specs.Families.{Links, Marks, IsUnder, IsDead}

-- where d is among the families of the links f and the marks m
abbrev pub IsTop : Links → Marks → Dot → Top → Type 0
IsTop f m d top.Absent = f d ≡ None
IsTop f m d top.Broken = (f d ≢ None) × ((c : Dot) → ¬ IsUnder f d c)
IsTop f m d (top.Code c) = IsUnder f d c × ¬ IsDead f m c
IsTop f m d (top.Dead c) = IsUnder f d c × IsDead f m c

-- q is under a code by the links g, and was under no code by f
pub record IsRaised (f g : Links) (q : Dot) : Type 0 where
  pub code : Dot
  pub now : IsUnder g q code
  pub before : (c : Dot) → ¬ IsUnder f q c
