-- The body at each dot, which relations are about, and equality of dots and tokens (own).
--   Bodies                       the body at each dot
--   is_same_dot, is_same_token   two dots, or two tokens, are equal
--   names_dot, names_token       a dot or token, if there is one, is the given one
use Rattle.std.specs.Prelude.{Bool, false, ◌&&◌, ◌==◌, Option, Some, None}
use Rattle.tk_handle.specs.declared.dot.Dot.{Dot}
use Rattle.tk_handle.specs.declared.token_id.TokenId.{TokenId}
use Rattle.tk_handle.specs.Kind.{kind_number}
use Rattle.tk_fact.specs.declared.body.Body.{Body}

-- the body at each dot, if there is a fact
abbrev pub Bodies : Type 0
Bodies = Dot → Option Body

-- two dots are equal
abbrev pub is_same_dot : Dot → Dot → Bool
is_same_dot a b = (a.region == b.region) && (a.serial == b.serial)

-- two tokens are equal
abbrev pub is_same_token : TokenId → TokenId → Bool
is_same_token j k = is_same_dot j.dot k.dot && (kind_number j.kind == kind_number k.kind)

-- there is a dot, and it is the given one
abbrev pub names_dot : Option Dot → Dot → Bool
names_dot None d = false
names_dot (Some e) d = is_same_dot e d

-- there is a token, and it is the given one
abbrev pub names_token : Option TokenId → TokenId → Bool
names_token None k = false
names_token (Some j) k = is_same_token j k
