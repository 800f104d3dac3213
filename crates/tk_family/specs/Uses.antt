-- Whether a link uses a token (own).
--   uses_it, uses_by      a link uses a token
--   used_kind             the kind of the token that a link uses
use Rattle.std.specs.Prelude.{Bool, false, ◌&&◌, Option, Some, None}
use Rattle.tk_handle.specs.declared.kind.Kind.{Kind}
use Rattle.tk_handle.specs.declared.kind.Kind.TheVariants as kind
use Rattle.tk_handle.specs.Kind.{is_code, is_refresh}
use Rattle.tk_handle.specs.declared.token_id.TokenId.{TokenId}
use Rattle.tk_family.specs.declared.link.Link.{Link}
use Rattle.tk_family.specs.declared.link.Link.TheVariants.{Code, Redeems, Rotates}
use Rattle.tk_family.specs.Dots.{dot_eq}

-- the link uses the token
abbrev pub uses_it : Link → TokenId → Bool
uses_it Code k = false
uses_it (Redeems code) k = dot_eq code k.dot && is_code k.kind
uses_it (Rotates parent generation) k = dot_eq parent k.dot && is_refresh k.kind

-- the link at a dot, if there is one, uses the token
abbrev pub uses_by : Option Link → TokenId → Bool
uses_by None k = false
uses_by (Some link) k = uses_it link k

-- the kind of the token that a link uses; a code uses no token
abbrev pub used_kind : Link → Kind
used_kind Code = kind.Access
used_kind (Redeems code) = kind.Code
used_kind (Rotates parent generation) = kind.Refresh
