-- The parameters of introspection and revocation (RFC 7662, 2.1; RFC 7009, 2.1; RFC 6749, 2.3.1).
--   known_names   the names of the parameters that both endpoints know
use Rattle.std.specs.Prelude.{ℕ, List, [], ◌∷◌, codes}

-- the names of the parameters that both endpoints know. Others are ignored, and a hint changes
-- nothing (RFC 7662, 2.1; RFC 7009, 2.1)
abbrev pub known_names : List (List ℕ)
known_names =
    codes "token" ∷ codes "token_type_hint" ∷ codes "client_id" ∷ codes "client_secret" ∷ []
