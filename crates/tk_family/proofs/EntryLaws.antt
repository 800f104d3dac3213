-- What stands among the entries of a map, stands in it.
use Rattle.std.proofs.Common.{◌≡◌, cond, Some, List, [], ◌∷◌, refl, sym, ap, ◌∙◌}
use Rattle.std.specs.FinMap as map
use Rattle.std.specs.Map.{lookup}
use Rattle.tk_handle.specs.declared.dot.Dot.{Dot}
use Rattle.tk_handle.specs.Dot.{dot_cmp}
use Rattle.tk_family.specs.declared.row.Row.{Row}
use Rattle.tk_family.specs.Dots.{dot_eq}
use Rattle.tk_family.specs.Rows.{RowMap, table}

-- looking a dot up in a list of entries finds what a map finds
lookup_find : (es : List (Dot × Row)) (q : Dot) → lookup (dot_eq q) es ≡ map.find dot_cmp q es
lookup_find [] q = refl
lookup_find (e ∷ es) q = ap (cond (dot_eq q e.0) (Some e.1)) (lookup_find es q)

-- the entry of a dot is the row of the table
pub entries_table : (m : RowMap) (q : Dot) → lookup (dot_eq q) (map.entries m) ≡ table m q
entries_table m q = lookup_find (map.entries m) q ∙ sym (map.get-entries m q)
