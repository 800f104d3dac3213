-- What the steps of a forest write into rows, each as a function of the rows before (own).
--   blank, or_blank, is_blank       a blank row
--   once_more, as_uses              one use more; a number of uses
--   or_dot                          a first child, if there is none
--   with_code, with_count, with_put, with_redeemer, with_rotator,
--   with_marked                     a row with one thing written
--   with_users                      a row with another first child and another count of uses
--   put_at, hung                    a link is put, and hung below the dot that it names
--   without_code, without_link,
--   without_mark                    a row with one thing removed
--   bads                            how many dots of a list are bad
--   settled, raised                 a code is written at dots, and counts the bad ones among them
--   unsettled, cleared              dots are under no code, and the code that they were under
--                                   counts the bad ones among them no more
--   chain_by, chain_code            the code that a link comes under
use Rattle.std.specs.Prelude.{ℕ, zero, suc, ◌+◌, ◌-◌, Bool, true, false, not, ◌&&◌, ◌==◌, List}
use Rattle.std.specs.Prelude.{if◌then◌else◌, Option, Some, None, count_by}
use Rattle.std.specs.Option.{is_none}
use Rattle.tk_handle.specs.declared.dot.Dot.{Dot}
use Rattle.tk_handle.specs.declared.kind.Kind.{Kind}
use Rattle.tk_handle.specs.declared.kind.Kind.TheVariants as kind
use Rattle.tk_family.specs.declared.link.Link.{Link}
use Rattle.tk_family.specs.declared.link.Link.TheVariants.{Code, Redeems, Rotates}
use Rattle.tk_family.specs.declared.row.Row.{Row}
use Rattle.tk_family.specs.declared.row.Uses.{Uses}
use Rattle.tk_family.specs.declared.row.Uses.TheVariants.{Never, Once, Often}
use Rattle.tk_family.specs.Dots.{dot_eq, has}
use Rattle.tk_family.specs.Families.{named_by}
use Rattle.tk_family.specs.Rows.{Rows, link_in, code_in, count_in, bad_in}
use Rattle.tk_family.specs.Walks.{fits_over}

-- ---- rows with one thing written

-- a blank row
abbrev pub blank : Row
blank = record {
  link = None;
  code = None;
  bad = 0;
  marked_code = false;
  marked_access = false;
  marked_refresh = false;
  redeemed = Never;
  rotated = Never;
  first = None;
}

-- the row, or a blank one if there is none
abbrev pub or_blank : Option Row → Option Row
or_blank None = Some blank
or_blank (Some row) = Some row

-- a number of uses is 0
abbrev pub is_never : Uses → Bool
is_never Never = true
is_never Once = false
is_never Often = false

-- a row is blank
abbrev pub is_blank : Row → Bool
is_blank row =
    is_none row.link && (is_none row.code && (row.bad == 0 && (not row.marked_code
    && (not row.marked_access && (not row.marked_refresh && (is_never row.redeemed
    && (is_never row.rotated && is_none row.first)))))))

-- a row is blank or absent
abbrev pub is_blank_row : Option Row → Bool
is_blank_row None = true
is_blank_row (Some row) = is_blank row

-- a number of uses, with one use more
abbrev pub once_more : Uses → Uses
once_more Never = Once
once_more Once = Often
once_more Often = Often

-- a number of uses, counted up to two
abbrev pub as_uses : ℕ → Uses
as_uses zero = Never
as_uses (suc zero) = Once
as_uses (suc (suc n)) = Often

-- the first child, or d if there is none
abbrev pub or_dot : Option Dot → Dot → Option Dot
or_dot None d = Some d
or_dot (Some e) d = Some e

-- the row, under the code c
abbrev pub with_code : Option Row → Dot → Option Row
with_code None c = None
with_code (Some row) c = Some (record row { code = Some c })

-- the row of a code with n bad dots in its family
abbrev pub with_count : Option Row → ℕ → Option Row
with_count None n = None
with_count (Some row) n = Some (record row { bad = n })

-- the row with a link
abbrev pub with_put : Option Row → Link → Option Row
with_put None l = None
with_put (Some row) l = Some (record row { link = Some l })

-- the row, whose code the link at d redeems too
abbrev pub with_redeemer : Option Row → Dot → Option Row
with_redeemer None d = None
with_redeemer (Some row) d =
    Some (record row { first = or_dot row.first d; redeemed = once_more row.redeemed })

-- the row, whose refresh token the link at d rotates too
abbrev pub with_rotator : Option Row → Dot → Option Row
with_rotator None d = None
with_rotator (Some row) d =
    Some (record row { first = or_dot row.first d; rotated = once_more row.rotated })

-- the row with a first child, or with none, and the number of uses of the token of a kind
abbrev pub with_users : Option Row → Option Dot → Kind → Uses → Option Row
with_users None first k u = None
with_users (Some row) first kind.Code u = Some (record row { first = first; redeemed = u })
with_users (Some row) first kind.Access u = Some (record row { first = first })
with_users (Some row) first kind.Refresh u = Some (record row { first = first; rotated = u })

-- the row with the token of a kind marked
abbrev pub with_marked : Option Row → Kind → Option Row
with_marked None k = None
with_marked (Some row) kind.Code = Some (record row { marked_code = true })
with_marked (Some row) kind.Access = Some (record row { marked_access = true })
with_marked (Some row) kind.Refresh = Some (record row { marked_refresh = true })

-- ---- rows with one thing removed

-- the row, under no code
abbrev pub without_code : Option Row → Option Row
without_code None = None
without_code (Some row) = Some (record row { code = None })

-- the row without its link, what followed from the link, and its marks; the first of the dots whose
-- links name its dot stays
abbrev pub without_link : Option Row → Option Row
without_link None = None
without_link (Some row) =
    Some (record blank { redeemed = row.redeemed; rotated = row.rotated; first = row.first })

-- the row with the token of a kind not marked
abbrev pub without_mark : Option Row → Kind → Option Row
without_mark None k = None
without_mark (Some row) kind.Code = Some (record row { marked_code = false })
without_mark (Some row) kind.Access = Some (record row { marked_access = false })
without_mark (Some row) kind.Refresh = Some (record row { marked_refresh = false })

-- ---- steps

-- T with the link l at d
abbrev pub put_at : Rows → Dot → Link → Rows
put_at T d l q = if dot_eq d q then with_put (T q) l else T q

-- T with the link l at d, hung below the dot that it names
abbrev pub hung : Rows → Dot → Link → Rows
hung T d Code q = put_at T d Code q
hung T d (Redeems p) q =
    if dot_eq p q then with_redeemer (put_at T d (Redeems p) q) d else put_at T d (Redeems p) q
hung T d (Rotates p g) q =
    if dot_eq p q then with_rotator (put_at T d (Rotates p g) q) d else put_at T d (Rotates p g) q

-- how many dots of the list are bad
abbrev pub bads : Rows → List Dot → ℕ
bads T list = count_by (λ e. bad_in (T e)) list

-- T with the code c at each dot of the list
abbrev pub settled : Rows → List Dot → Dot → Rows
settled T list c q = if has list q then with_code (T q) c else T q

-- and with the bad dots of the list in the count of c
abbrev pub raised : Rows → List Dot → Dot → Rows
raised T list c q =
    if dot_eq c q then with_count (settled T list c q) (count_in (T c) + bads T list)
    else settled T list c q

-- T with no code at each dot of the list
abbrev pub unsettled : Rows → List Dot → Rows
unsettled T list q = if has list q then without_code (T q) else T q

-- and with the bad dots of the list out of the count of c
abbrev pub cleared : Rows → List Dot → Dot → Rows
cleared T list c q =
    if dot_eq c q then with_count (unsettled T list q) (count_in (T c) - bads T list)
    else unsettled T list q

-- ---- the code that a link comes under

-- the code that a link comes under: the code of its parent, or its own dot if it names no dot
abbrev pub chain_by : Rows → Dot → Link → Option Dot → Option Dot
chain_by T d l None = Some d
chain_by T d l (Some p) = if fits_over l (link_in (T p)) then code_in (T p) else None

-- the code that the link l comes under at d
abbrev pub chain_code : Rows → Dot → Link → Option Dot
chain_code T d l = chain_by T d l (named_by l)
