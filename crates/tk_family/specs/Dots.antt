-- Lists of dots (own).
--   dot_eq   two dots are equal
--   has      a list has a dot
use Rattle.std.specs.Prelude.{Bool, List}
use Rattle.std.specs.List.{list_any}
use Rattle.std.specs.Ordering.{eq_by_cmp}
use Rattle.tk_handle.specs.declared.dot.Dot.{Dot}
use Rattle.tk_handle.specs.Dot.{dot_cmp}

-- two dots are equal
abbrev pub dot_eq : Dot → Dot → Bool
dot_eq a b = eq_by_cmp dot_cmp a b

-- a list has a dot
abbrev pub has : List Dot → Dot → Bool
has ds q = list_any (dot_eq q) ds
