-- The rows of a forest by their look-up, and their columns (own). A blank row has the same columns
-- as an absent one.
--   Rows, RowMap, table            the row at each dot, if there is one; the rows of a map
--   link_in, code_in               the link at a dot, the code that it is under
--   count_in, dead_in              how many dots of a code's family are bad; whether one is
--   first_in, firsts_of            one of the dots whose links name a dot
--   marked_in, used_in, again_in   by kind: a token of the dot is marked, is used, is used twice
--   bad_in, blamed_in              the code or refresh token of the dot is marked, or used twice;
--                                  the code of the family that is dead by that
--   links_of, marks_of, named_of   the links and marks of the rows; the dot that a link names
use Rattle.std.specs.Prelude.{ℕ, Bool, true, false, ◌||◌, Option, Some, None, nat_lt, if◌then◌else◌}
use Rattle.std.specs.FinMap as map
use Rattle.tk_handle.specs.declared.dot.Dot.{Dot}
use Rattle.tk_handle.specs.declared.kind.Kind.{Kind}
use Rattle.tk_handle.specs.declared.kind.Kind.TheVariants as kind
use Rattle.tk_handle.specs.declared.token_id.TokenId.{TokenId}
use Rattle.tk_handle.specs.Dot.{dot_cmp}
use Rattle.tk_family.specs.declared.link.Link.{Link}
use Rattle.tk_family.specs.declared.link.Link.TheVariants.{Code, Redeems, Rotates}
use Rattle.tk_family.specs.declared.row.Row.{Row}
use Rattle.tk_family.specs.declared.row.Uses.{Uses}
use Rattle.tk_family.specs.declared.row.Uses.TheVariants.{Never, Once, Often}
use Rattle.tk_family.specs.Families.{Links, named_by}

-- the row at each dot, if there is one
abbrev pub Rows : Type 0
Rows = Dot → Option Row

-- a row at each of some dots
abbrev pub RowMap : Type 0
RowMap = map.FinMap dot_cmp Row

-- the rows of a map
abbrev pub table : RowMap → Rows
table rows q = map.get rows q

-- ---- columns

-- the link that was put at a dot
abbrev pub link_in : Option Row → Option Link
link_in None = None
link_in (Some row) = row.link

-- the code that the dot is under
abbrev pub code_in : Option Row → Option Dot
code_in None = None
code_in (Some row) = row.code

-- how many dots of the family of the code at the dot are bad
abbrev pub count_in : Option Row → ℕ
count_in None = 0
count_in (Some row) = row.bad

-- the family of the code at the dot is dead
abbrev pub dead_in : Option Row → Bool
dead_in row = nat_lt 0 (count_in row)

-- one of the dots whose links name the dot
abbrev pub first_in : Option Row → Option Dot
first_in None = None
first_in (Some row) = row.first

-- ---- columns by kind

-- the token of a kind is marked in a row
abbrev pub mark_of : Row → Kind → Bool
mark_of row kind.Code = row.marked_code
mark_of row kind.Access = row.marked_access
mark_of row kind.Refresh = row.marked_refresh

-- how many links use the token of a kind; no link uses an access token
abbrev pub uses_of : Row → Kind → Uses
uses_of row kind.Code = row.redeemed
uses_of row kind.Access = Never
uses_of row kind.Refresh = row.rotated

-- a number of uses is one or more
abbrev pub is_some_use : Uses → Bool
is_some_use Never = false
is_some_use Once = true
is_some_use Often = true

-- a number of uses is two or more
abbrev pub is_often : Uses → Bool
is_often Never = false
is_often Once = false
is_often Often = true

-- the token of a kind at a dot is marked
abbrev pub marked_in : Option Row → Kind → Bool
marked_in None k = false
marked_in (Some row) k = mark_of row k

-- a link uses the token of a kind at a dot
abbrev pub used_in : Option Row → Kind → Bool
used_in None k = false
used_in (Some row) k = is_some_use (uses_of row k)

-- two links use the token of a kind at a dot
abbrev pub again_in : Option Row → Kind → Bool
again_in None k = false
again_in (Some row) k = is_often (uses_of row k)

-- ---- bad tokens

-- the kind of the code or refresh token that a link mints
abbrev pub grant_kind : Link → Kind
grant_kind Code = kind.Code
grant_kind (Redeems code) = kind.Refresh
grant_kind (Rotates parent generation) = kind.Refresh

-- the token that a link mints at its dot is marked, or used twice
abbrev pub bad_at : Option Link → Option Row → Bool
bad_at None row = false
bad_at (Some link) row = marked_in row (grant_kind link) || again_in row (grant_kind link)

-- the code or refresh token at a dot is marked, or used twice
abbrev pub bad_in : Option Row → Bool
bad_in row = bad_at (link_in row) row

-- the code that the dot is under, if the dot is bad
abbrev pub blamed_in : Option Row → Option Dot
blamed_in row = if bad_in row then code_in row else None

-- ---- links and marks

-- the links of the rows
abbrev pub links_of : Rows → Links
links_of T q = link_in (T q)

-- one of the dots whose links name a dot, by the rows
abbrev pub firsts_of : Rows → Dot → Option Dot
firsts_of T q = first_in (T q)

-- the marks of the rows
abbrev pub marks_of : Rows → TokenId → Bool
marks_of T k = marked_in (T k.dot) k.kind

-- the dot that a link names, if there is a link and it names one
abbrev pub named_of : Option Link → Option Dot
named_of None = None
named_of (Some link) = named_by link
