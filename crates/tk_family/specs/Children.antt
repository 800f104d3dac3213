-- The children of dots beside the first of each, in a set (own).
--   child_cmp, child_key      the entries of children, and their order
--   is_child                  two children are equal
--   Others, others_in         which children are in the set, by the token that the child uses
--   users_in, first_user      the children that use a token
--   token_at                  a token by its dot and kind
--   Drops, IsSame             a child is out of the set, or nothing has changed
--   TakesUser, Promotes       a child that uses a token, or any child of a dot, is out of the set
use Rattle.std.specs.Prelude.{◌≡◌, Bool, true, false, if◌then◌else◌, List, [], ◌∷◌, Option, Some}
use Rattle.std.specs.Prelude.{None}
use Rattle.std.specs.BTreeSet as keys
use Rattle.std.specs.BTreeSet.{BTreeSet}
use Rattle.std.specs.Ordering.{nat_cmp, ordering_then, eq_by_cmp}
use Rattle.std.specs.declared.cmp.Ordering.{Ordering}
use Rattle.std.specs.declared.ops.Bound.TheVariants.{Included}
use Rattle.tk_handle.specs.declared.dot.Dot.{Dot}
use Rattle.tk_handle.specs.declared.kind.Kind.{Kind}
use Rattle.tk_handle.specs.declared.kind.Kind.TheVariants as kind
use Rattle.tk_handle.specs.declared.token_id.TokenId.{TokenId}
use Rattle.tk_handle.specs.Dot.{dot_cmp, least_dot, greatest_dot}
use Rattle.tk_handle.specs.Kind.{kind_number}
use Rattle.tk_family.specs.declared.children.Child.{Child}

-- the order of children: by parent, then by the kind of the token that is used, then by child
abbrev pub child_cmp : Child → Child → Ordering
child_cmp a b =
    ordering_then (dot_cmp a.parent b.parent)
    (ordering_then (nat_cmp a.kind b.kind) (dot_cmp a.child b.child))

-- the entry of a child whose link uses a token
abbrev pub child_key : TokenId → Dot → Child
child_key k e = record { parent = k.dot; kind = kind_number k.kind; child = e }

-- the child c that uses t is the child e that uses k
abbrev pub is_child : TokenId → Dot → TokenId → Dot → Bool
is_child t c k e = eq_by_cmp child_cmp (child_key t c) (child_key k e)

-- whether a child that uses a token is in a set
abbrev pub Others : Type 0
Others = TokenId → Dot → Bool

-- the children that are in the set
abbrev pub others_in : BTreeSet Child → Others
others_in t k e = keys.contains child_cmp t (child_key k e)

-- the entries of the children that use a token
abbrev pub users_in : BTreeSet Child → TokenId → List Child
users_in t k =
    keys.keys_between child_cmp (Included (child_key k least_dot))
    (Included (child_key k greatest_dot)) t

-- the first child of a list
abbrev pub first_user : List Child → Option Dot
first_user [] = None
first_user (c ∷ cs) = Some c.child

-- the token of a kind at a dot
abbrev pub token_at : Dot → Kind → TokenId
token_at p k = record { dot = p; kind = k }

-- the child c that uses t is out of the set
abbrev pub Drops : Others → Others → TokenId → Dot → Type 0
Drops E N t c = (k : TokenId) (e : Dot) → N k e ≡ (if is_child t c k e then false else E k e)

-- nothing has changed
abbrev pub IsSame : Others → Others → Type 0
IsSame E N = (k : TokenId) (e : Dot) → N k e ≡ E k e

-- a child that uses t is out of the set, or there was none
abbrev pub TakesUser : Others → Others → TokenId → Option Dot → Type 0
TakesUser E N t None = ((e : Dot) → E t e ≡ false) × IsSame E N
TakesUser E N t (Some c) = (E t c ≡ true) × Drops E N t c

-- a child of p is out of the set, or there was none
abbrev pub Promotes : Others → Others → Dot → Option Dot → Type 0
Promotes E N p None =
    ((e : Dot) → E (token_at p kind.Code) e ≡ false)
    × ((e : Dot) → E (token_at p kind.Refresh) e ≡ false) × IsSame E N
Promotes E N p (Some c) =
    (k : Kind) × (E (token_at p k) c ≡ true) × Drops E N (token_at p k) c
