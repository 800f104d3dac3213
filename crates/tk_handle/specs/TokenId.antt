-- The order of tokens, and the name of a token in bytes (own): the dot of the fact that minted it,
-- and its kind.
--   token_cmp   the order of tokens: by dot, then by kind
--   token       the format of a token's name
use Rattle.std.specs.Ordering.{nat_cmp, ordering_then}
use Rattle.std.specs.declared.cmp.Ordering.{Ordering}
use Rattle.tk_format.specs.Format.{Format, ◌⊗◌, shaped}
use Rattle.tk_handle.specs.declared.token_id.TokenId.{TokenId}
use Rattle.tk_handle.specs.Kind.{kind, kind_number}
use Rattle.tk_handle.specs.Dot.{dot_cmp}
use Rattle.tk_handle.specs.DotBytes.{dot_field}

-- the order of tokens: by dot, then by kind (codes, access tokens, refresh tokens)
abbrev pub token_cmp : TokenId → TokenId → Ordering
token_cmp a b = ordering_then (dot_cmp a.dot b.dot)
    (nat_cmp (kind_number a.kind) (kind_number b.kind))

-- the format of a token's name: the dot, and then the kind
abbrev pub token : Format TokenId
token = shaped (λ p. record { dot = p.0; kind = p.1 }) (λ t. (t.dot, t.kind)) (dot_field ⊗ kind)
