-- The forest that contracts see of rows (own).
--   seen   the links and marks of the rows
use Rattle.std.specs.Prelude.{Bool, true, false, Option, None, Some, List, [], ◌∷◌}
use Rattle.std.specs.FinMap as map
use Rattle.std.specs.FinSet as set
use Rattle.tk_handle.specs.declared.dot.Dot.{Dot}
use Rattle.tk_handle.specs.declared.kind.Kind.TheVariants as kind
use Rattle.tk_handle.specs.declared.token_id.TokenId.{TokenId}
use Rattle.tk_handle.specs.Dot.{dot_cmp}
use Rattle.tk_handle.specs.TokenId.{token_cmp}
use Rattle.tk_family.specs.declared.link.Link.{Link}
use Rattle.tk_family.specs.declared.row.Row.{Row}
use Rattle.tk_family.specs.ForestFacts.{ForestFacts}
use Rattle.tk_family.specs.Rows.{RowMap}

-- a map with a link at d, or without
abbrev pub seen_link : map.FinMap dot_cmp Link → Dot → Option Link → map.FinMap dot_cmp Link
seen_link m d None = map.remove m d
seen_link m d (Some l) = map.insert m d l

-- the links of the rows
abbrev pub seen_links : List (Dot × Row) → map.FinMap dot_cmp Link
seen_links [] = map.empty
seen_links (e ∷ es) = seen_link (seen_links es) e.0 e.1.link

-- a set with a token, or without
abbrev pub seen_mark : set.FinSet token_cmp → TokenId → Bool → set.FinSet token_cmp
seen_mark s k true = set.insert s k
seen_mark s k false = set.remove s k

-- a set with the marks of a row
abbrev pub seen_row : set.FinSet token_cmp → Dot → Row → set.FinSet token_cmp
seen_row s d row =
    let code = seen_mark s (record { dot = d; kind = kind.Code }) row.marked_code in
    let access = seen_mark code (record { dot = d; kind = kind.Access }) row.marked_access in
    seen_mark access (record { dot = d; kind = kind.Refresh }) row.marked_refresh

-- the marks of the rows
abbrev pub seen_marks : List (Dot × Row) → set.FinSet token_cmp
seen_marks [] = set.empty
seen_marks (e ∷ es) = seen_row (seen_marks es) e.0 e.1

-- the links and marks of the rows
abbrev pub seen : RowMap → ForestFacts
seen m = record { links = seen_links (map.entries m); marks = seen_marks (map.entries m) }
