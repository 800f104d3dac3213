-- The tables of what subjects have, beside the facts (own): codes by their starts, logins by the
-- dots of their codes, and sign-outs.
--   code_cmp, code_key          the keys of codes, and their order
--   codes_started               the keys of the codes that start in some seconds
--   dots_of                     the dots of codes
--   login_cmp, login_key        the keys of logins, and their order
--   logins_above                the keys of logins above a dot
--   out_cmp, out_key            the keys of sign-outs, and their order
--   outs_of                     the keys of the sign-outs of one subject
--   IsCodes, IsLogins, IsOuts   each table has what the set has
--   tells_of                    the sign-out of a key is one of the subject
use Rattle.std.specs.Prelude.{
  map as map_list,
  ◌≡◌,
  ◌≤◌,
  ◌-◌,
  ℕ,
  Bool,
  true,
  false,
  ◌&&◌,
  ◌==◌,
  List,
  Option,
  Some,
  None,
}
use Rattle.std.specs.Ordering.{nat_cmp, ordering_then}
use Rattle.std.specs.declared.cmp.Ordering.{Ordering}
use Rattle.std.specs.declared.ops.Bound.{Bound}
use Rattle.std.specs.declared.ops.Bound.TheVariants.{Included, Excluded}
use Rattle.std.specs.Cmp.Lexicographic.{slice_cmp}
use Rattle.std.specs.Str.{bytes_eq}
use Rattle.std.specs.BTreeSet as keys
use Rattle.std.specs.BTreeSet.{BTreeSet}
use Rattle.std.specs.FinMap as map
use Rattle.sha2.specs.Sha256.{sha256}
use Rattle.tk_handle.specs.declared.dot.Dot.{Dot}
use Rattle.tk_handle.specs.Dot.{IsDot, dot_cmp, least_dot, greatest_dot}
use Rattle.tk_handle.specs.Ranges.{max_moment}
use Rattle.tk_fact.specs.declared.code_issued.CodeIssued as issued
use Rattle.tk_fact.specs.declared.subject_out.SubjectOut as out
use Rattle.tk_store.specs.FactSet.{FactSet}
use Rattle.tk_ledger.specs.Changes.{digest_prefix}
use Rattle.tk_ledger.specs.SignOuts.{sign_out_at}
use Rattle.tk_ledger.specs.Tokens.{issued_at}
use Rattle.tk_ledger.specs.declared.subject_keys.CodeKey.{CodeKey}
use Rattle.tk_ledger.specs.declared.subject_keys.LoginKey.{LoginKey}
use Rattle.tk_ledger.specs.declared.subject_keys.OutKey.{OutKey}

-- ---- codes

-- the order of codes: by the prefix of the digest of the subject, then by start, then by dot
abbrev pub code_cmp : CodeKey → CodeKey → Ordering
code_cmp a b =
    ordering_then (nat_cmp a.prefix b.prefix)
    (ordering_then (nat_cmp a.start b.start) (dot_cmp a.code b.code))

-- the key of a code
abbrev pub code_key : ℕ → ℕ → Dot → CodeKey
code_key prefix start d = record { prefix = prefix; start = start; code = d }

-- the keys of the codes under a prefix that start in the seconds from `first` to `last`
abbrev pub codes_started : BTreeSet CodeKey → ℕ → ℕ → ℕ → List CodeKey
codes_started t prefix first last =
    keys.keys_between code_cmp (Included (code_key prefix first least_dot))
    (Included (code_key prefix last greatest_dot)) t

-- the dots of the codes
abbrev pub dots_of : List CodeKey → List Dot
dots_of ks = map_list (λ k. k.code) ks

-- the digest of the code's subject has the prefix
abbrev pub has_prefix : ℕ → issued.CodeIssued → Bool
has_prefix prefix code = digest_prefix (sha256 code.subject) == prefix

-- the code, if there is one, is of a subject whose digest has the prefix, and starts at `start`
abbrev pub is_to : ℕ → ℕ → Option issued.CodeIssued → Bool
is_to prefix start None = false
is_to prefix start (Some code) = has_prefix prefix code && (code.start == start)

-- the table has the code of the dot under the prefix and the start
abbrev pub is_listed_code : BTreeSet CodeKey → ℕ → ℕ → Dot → Bool
is_listed_code t prefix start d = keys.contains code_cmp t (code_key prefix start d)

-- the table has each code that was issued, under the prefix of the digest of its subject and its
-- start, and no other
pub record IsCodes (F : FactSet) (t : BTreeSet CodeKey) : Type 0 where
  pub listed : (prefix start : ℕ) (d : Dot)
      → is_listed_code t prefix start d ≡ is_to prefix start (issued_at (map.get F) d)
  pub ranged : (prefix start : ℕ) (d : Dot) → is_listed_code t prefix start d ≡ true
      → IsDot d

-- ---- logins

-- the order of logins: by the prefix of the digest of the subject, then by the dot of the code
abbrev pub login_cmp : LoginKey → LoginKey → Ordering
login_cmp a b = ordering_then (nat_cmp a.prefix b.prefix) (dot_cmp a.code b.code)

-- the key of the login that a code began
abbrev pub login_key : ℕ → Dot → LoginKey
login_key prefix d = record { prefix = prefix; code = d }

-- where the keys of the logins under a prefix begin that are above a dot, or above none
abbrev pub login_start : ℕ → Option Dot → Bound LoginKey
login_start prefix None = Included (login_key prefix least_dot)
login_start prefix (Some d) = Excluded (login_key prefix d)

-- the keys of the logins under a prefix that are above a dot, or above none
abbrev pub logins_above : BTreeSet LoginKey → ℕ → Option Dot → List LoginKey
logins_above t prefix after =
    keys.keys_between login_cmp (login_start prefix after)
    (Included (login_key prefix greatest_dot)) t

-- the code, if there is one, is of a subject whose digest has the prefix
abbrev pub begins_under : ℕ → Option issued.CodeIssued → Bool
begins_under prefix None = false
begins_under prefix (Some code) = has_prefix prefix code

-- the table has the login that the code of the dot began, under the prefix
abbrev pub is_listed_login : BTreeSet LoginKey → ℕ → Dot → Bool
is_listed_login t prefix d = keys.contains login_cmp t (login_key prefix d)

-- the table has the login that each code began which was issued, under the prefix of the digest of
-- its subject, and no other
pub record IsLogins (F : FactSet) (t : BTreeSet LoginKey) : Type 0 where
  pub listed : (prefix : ℕ) (d : Dot)
      → is_listed_login t prefix d ≡ begins_under prefix (issued_at (map.get F) d)
  pub ranged : (prefix : ℕ) (d : Dot) → is_listed_login t prefix d ≡ true → IsDot d

-- ---- sign-outs

-- the order of sign-outs: by the digest of the subject, then by the seconds left after the moment,
-- then by dot. The last sign-out of a subject is first
abbrev pub out_cmp : OutKey → OutKey → Ordering
out_cmp a b =
    ordering_then (slice_cmp nat_cmp a.subject b.subject)
    (ordering_then (nat_cmp a.left b.left) (dot_cmp a.place b.place))

-- the seconds from the moment to the greatest moment
abbrev pub left_after : ℕ → ℕ
left_after moment = max_moment - moment

-- the key of a sign-out
abbrev pub out_key : List ℕ → ℕ → Dot → OutKey
out_key subject left d = record { subject = subject; left = left; place = d }

-- the keys of the sign-outs of a subject with the digest
abbrev pub outs_of : BTreeSet OutKey → List ℕ → List OutKey
outs_of t subject =
    keys.keys_between out_cmp (Included (out_key subject 0 least_dot))
    (Included (out_key subject max_moment greatest_dot)) t

-- a subject with the digest signed out, with `left` seconds left after the moment
abbrev pub is_left_by : List ℕ → ℕ → Option out.SubjectOut → Bool
is_left_by subject left None = false
is_left_by subject left (Some f) =
    bytes_eq (sha256 f.subject) subject && (left_after f.moment == left)

-- the table has the sign-out of the dot under the digest and the seconds left
abbrev pub is_listed_out : BTreeSet OutKey → List ℕ → ℕ → Dot → Bool
is_listed_out t subject left d = keys.contains out_cmp t (out_key subject left d)

-- the table has each sign-out, under the digest of its subject and its moment, and no other
pub record IsOuts (F : FactSet) (t : BTreeSet OutKey) : Type 0 where
  pub listed : (subject : List ℕ) (left : ℕ) (d : Dot)
      → is_listed_out t subject left d ≡ is_left_by subject left (sign_out_at (map.get F) d)
  pub ranged : (subject : List ℕ) (left : ℕ) (d : Dot) → is_listed_out t subject left d ≡ true
      → IsDot d
  pub early : (d : Dot) (f : out.SubjectOut) → sign_out_at (map.get F) d ≡ Some f
      → f.moment ≤ max_moment

-- the sign-out, if there is one, is by the subject, with `left` seconds left after its moment
abbrev pub tells_by : List ℕ → ℕ → Option out.SubjectOut → Bool
tells_by subject left None = false
tells_by subject left (Some f) = bytes_eq f.subject subject && left_after f.moment == left

-- the sign-out at the key's dot is one of the subject, at the key's moment
abbrev pub tells_of : FactSet → List ℕ → OutKey → Bool
tells_of F subject k = tells_by subject k.left (sign_out_at (map.get F) k.place)
