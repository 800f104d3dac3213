-- The fields of a head that tokend reads (RFC 9110, 5.1, 7.6.1, 8.3, 8.6 and 11.6.2; RFC 9112, 6.1;
-- `X-Subject` and `X-Operator` are own).
--   values_named   the values under a name, in any case
--   IsField        a field is absent, has one value, or is repeated
--   AreFields      the seven fields, among names and values
--   has_repeats    one of the five fields is repeated that may be given only once
use Rattle.std.specs.Prelude.{◌≡◌, ℕ, ◌≤◌, ◌||◌, Bool, nat_le, List, [], ◌∷◌, length, map, filter}
use Rattle.std.specs.Prelude.{codes}
use Rattle.std.specs.Str.{str_eq_ignore_ascii_case}
use Rattle.tk_params.specs.Params.{Pairs}
use Rattle.tk_edge.specs.declared.field.Field.{Field}
use Rattle.tk_edge.specs.declared.field.Field.TheVariants.{Absent, Value, Twice}
use Rattle.tk_edge.specs.declared.field.Fields.{Fields}

-- the values under a name, in any case and in order (RFC 9110, 5.1)
abbrev pub values_named : List ℕ → Pairs → List (List ℕ)
values_named name pairs = map (λ p. p.1) (filter (λ p. str_eq_ignore_ascii_case p.0 name) pairs)

-- a field is absent, has the only value, or is repeated (own)
abbrev pub IsField : Field → List (List ℕ) → Type 0
IsField Absent values = values ≡ []
IsField (Value text) values = values ≡ text.now ∷ []
IsField Twice values = 2 ≤ length values

-- the values of Authorization (RFC 9110, 11.6.2)
abbrev pub authorization_in : Pairs → List (List ℕ)
authorization_in pairs = values_named (codes "authorization") pairs

-- the values of X-Subject (own)
abbrev pub subject_in : Pairs → List (List ℕ)
subject_in pairs = values_named (codes "x-subject") pairs

-- the values of X-Operator (own)
abbrev pub operator_in : Pairs → List (List ℕ)
operator_in pairs = values_named (codes "x-operator") pairs

-- the values of Content-Length (RFC 9110, 8.6)
abbrev pub length_in : Pairs → List (List ℕ)
length_in pairs = values_named (codes "content-length") pairs

-- the values of Content-Type (RFC 9110, 8.3)
abbrev pub type_in : Pairs → List (List ℕ)
type_in pairs = values_named (codes "content-type") pairs

-- the values of Transfer-Encoding (RFC 9112, 6.1)
abbrev pub coding_in : Pairs → List (List ℕ)
coding_in pairs = values_named (codes "transfer-encoding") pairs

-- the values of Connection (RFC 9110, 7.6.1)
abbrev pub connection_in : Pairs → List (List ℕ)
connection_in pairs = values_named (codes "connection") pairs

-- the seven fields that tokend reads, among the names and values of a head (own)
pub record AreFields (fields : Fields) (pairs : Pairs) : Type 0 where
  pub authorization : IsField fields.authorization (authorization_in pairs)
  pub subject : IsField fields.subject (subject_in pairs)
  pub operator : IsField fields.operator (operator_in pairs)
  pub size : IsField fields.length (length_in pairs)
  pub kind : IsField fields.kind (type_in pairs)
  pub coding : IsField fields.coding (coding_in pairs)
  pub connection : IsField fields.connection (connection_in pairs)

-- a field is given twice or more often (RFC 9110, 5.3)
abbrev pub repeats : List (List ℕ) → Bool
repeats values = nat_le 2 (length values)

-- Authorization, Content-Length, Content-Type, X-Subject or X-Operator is given twice or more often
-- (RFC 9110, 5.3; own)
abbrev pub has_repeats : Pairs → Bool
has_repeats pairs =
    repeats (authorization_in pairs)
    || (repeats (length_in pairs)
    || (repeats (type_in pairs) || (repeats (subject_in pairs) || repeats (operator_in pairs))))
