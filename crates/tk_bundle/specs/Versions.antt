-- The versions of a bundle's bytes (own): which kinds of facts each has, and whether it has marks,
-- and runs of marks.
--   versions       the table, one row a version
--   kind_of        the number of the kind that a version must have for a body
--   newest_kind    the greatest number of a kind that the facts among items need
--   version_with   the digit of the first version that has kinds up to a number, marks, and runs
--   version_of     the digit of the first version that has all of the items, and runs
--   is_version     a digit is that of a version
--   has_horizon    a version has marks, and so a horizon
--   has_runs       a version has runs of marks
--   is_sign_out    an item is a sign-out
--   is_newer       an item is of a client that keeps its refresh token or has lives, or is a change
--                  of a secret, or a fact in which an operator is named
use Rattle.std.specs.Prelude.{ℕ, max, Bool, true, false, ◌&&◌, ◌||◌, not, nat_le, ◌==◌}
use Rattle.std.specs.Prelude.{List, [], ◌∷◌, Option, Some, None, if◌then◌else◌}
use Rattle.std.specs.List.{list_any}
use Rattle.tk_handle.specs.declared.dot.Dot.{Dot}
use Rattle.tk_fact.specs.declared.client_kind.ClientKind.{ClientKind}
use Rattle.tk_fact.specs.declared.client_lives.ClientLives.{ClientLives}
use Rattle.tk_fact.specs.Administered.{by_of}
use Rattle.tk_fact.specs.ClientKinds.{keeps_refresh}
use Rattle.tk_fact.specs.declared.by.By.{By}
use Rattle.tk_fact.specs.declared.body.Body.{Body}
use Rattle.tk_fact.specs.declared.body.Body.TheVariants as bodies
use Rattle.tk_store.specs.Slots.{Slot, Held, Skipped}
use Rattle.tk_bundle.specs.BundleFields.{Items, is_mark}
use Rattle.tk_bundle.specs.declared.version.Version.{Version}

-- The digit of each version, the number of its newest kind of facts, whether it has marks, and
-- whether it has runs of marks. A bundle keeps the version that it was written in: once a row is in
-- a release it never changes, and a later version is one row more. OTB1 has the kinds 1 to 9, OTB2
-- the kinds 1 to 10, OTB3 these and marks. OTB4 has all kinds, OTB5 all kinds and marks, OTB6 these
-- and runs
abbrev pub versions : List Version
versions =
    record { digit = 49; kinds = 9; marks = false; runs = false }
    ∷ record { digit = 50; kinds = 10; marks = false; runs = false }
    ∷ record { digit = 51; kinds = 10; marks = true; runs = false }
    ∷ record { digit = 52; kinds = 23; marks = false; runs = false }
    ∷ record { digit = 53; kinds = 23; marks = true; runs = false }
    ∷ record { digit = 54; kinds = 23; marks = true; runs = true }
    ∷ []

-- The number of the kind that a version must have for a client: that of clients with lives; that of
-- refreshed access tokens for a client that keeps its refresh token, since a build that does not
-- know this kind does not know such clients; otherwise that of clients without lives
abbrev pub kind_of_client : ClientKind → Option ClientLives → ℕ
kind_of_client client_kind (Some lives) = 13
kind_of_client client_kind None = if keeps_refresh client_kind then 12 else 1

-- the number of the kind that a version must have for a body in which no operator is named: that of
-- the client that it adds, or else the body's own
abbrev pub bare_kind_of : Body → ℕ
bare_kind_of (bodies.ClientAdded f) = kind_of_client f.client_kind f.lives
bare_kind_of (bodies.ClientRetired f) = 2
bare_kind_of (bodies.ConsentGiven f) = 3
bare_kind_of (bodies.ConsentWithdrawn f) = 4
bare_kind_of (bodies.CodeIssued f) = 5
bare_kind_of (bodies.CodeRedeemed f) = 6
bare_kind_of (bodies.RefreshRotated f) = 7
bare_kind_of (bodies.TokenRevoked f) = 8
bare_kind_of (bodies.ReuseSeen f) = 9
bare_kind_of (bodies.SubjectOut f) = 10
bare_kind_of (bodies.AccessRefreshed f) = 12
bare_kind_of (bodies.SecretSet f) = 15

-- the number of a kind, or the newest if an operator is named
abbrev pub kind_by : ℕ → Option By → ℕ
kind_by kind None = kind
kind_by kind (Some by) = 23

-- the number of the kind that a version must have for a body
abbrev pub kind_of : Body → ℕ
kind_of b = kind_by (bare_kind_of b) (by_of b)

-- the number of the kind that a version must have for a fact; 0 for a mark, which needs no kind
abbrev pub kind_in : Slot → ℕ
kind_in (Held b) = kind_of b
kind_in Skipped = 0

-- the newest kind that facts among the items need, or `last` if that is newer
abbrev pub newest_kind : ℕ → Items → ℕ
newest_kind last [] = last
newest_kind last (i ∷ more) = newest_kind (max last (kind_in i.1)) more

-- the version has the kinds up to a number, and marks and runs if they are needed
abbrev pub has_all : Version → ℕ → Bool → Bool → Bool
has_all v kind marked runs =
    nat_le kind v.kinds && (not marked || v.marks) && (not runs || v.runs)

-- the digit of the first version in the list that has the kinds up to a number, and marks and runs
-- if they are needed; 0, the digit of no version, if no version has
abbrev pub digit_in : List Version → ℕ → Bool → Bool → ℕ
digit_in [] kind marked runs = 0
digit_in (v ∷ vs) kind marked runs =
    if has_all v kind marked runs then v.digit else digit_in vs kind marked runs

-- the digit of the first version that has the kinds up to a number, and marks and runs if they are
-- needed
abbrev pub version_with : ℕ → Bool → Bool → ℕ
version_with kind marked runs = digit_in versions kind marked runs

-- the digit of the first version that has all of the items: the kinds of facts, marks if one of the
-- items is a mark, and runs if marks are spelled as runs
abbrev pub version_of : Bool → Items → ℕ
version_of runs items = version_with (newest_kind 0 items) (list_any is_mark items) runs

-- the digit is that of a version
unfoldable pub is_version : ℕ → Bool
is_version digit = list_any (λ v. v.digit == digit) versions

-- a bundle of this version has a horizon: the version has marks
unfoldable pub has_horizon : ℕ → Bool
has_horizon digit = list_any (λ v. (v.digit == digit) && v.marks) versions

-- a bundle of this version has runs
unfoldable pub has_runs : ℕ → Bool
has_runs digit = list_any (λ v. (v.digit == digit) && v.runs) versions

-- the item is a sign-out
abbrev pub is_sign_out : Dot × Slot → Bool
is_sign_out (d, Held (bodies.SubjectOut out)) = true
is_sign_out (d, Held b) = false
is_sign_out (d, Skipped) = false

-- the client keeps its refresh token, or has lives
abbrev pub is_newer_client : ClientKind → Option ClientLives → Bool
is_newer_client client_kind (Some lives) = true
is_newer_client client_kind None = keeps_refresh client_kind

-- the body is of a client that keeps its refresh token, or has lives: its registration, or an
-- access token that it refreshed; or it is a change of a client's secret
abbrev pub is_newer_bare : Body → Bool
is_newer_bare (bodies.ClientAdded f) = is_newer_client f.client_kind f.lives
is_newer_bare (bodies.AccessRefreshed f) = true
is_newer_bare (bodies.SecretSet f) = true
is_newer_bare b = false

-- the body is one of these, or an operator is named in it
abbrev pub is_newer_by : Bool → Option By → Bool
is_newer_by newer None = newer
is_newer_by newer (Some by) = true

-- the item is of a client that keeps its refresh token or has lives, or is a change of a secret, or
-- a fact in which an operator is named
abbrev pub is_newer : Dot × Slot → Bool
is_newer (d, Held b) = is_newer_by (is_newer_bare b) (by_of b)
is_newer (d, Skipped) = false
