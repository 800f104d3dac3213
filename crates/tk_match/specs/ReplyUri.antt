-- The URI that a browser is sent back to (RFC 6749, 3.1.2 and 4.1.2).
--   joint      the byte between the URI and the parameters
--   reply_of   the URI with the parameters in its query
use Rattle.std.specs.Prelude.{ℕ, ◌==◌, List, [], ◌∷◌, ◌++◌, if◌then◌else◌}
use Rattle.std.specs.List.{list_any}
use Rattle.form_urlencoded.specs.Form.{extend_pairs}

-- the byte that joins parameters to a URI: `&` if the URI has a `?`, whose query is kept, otherwise
-- `?` (RFC 6749, 3.1.2)
abbrev pub joint : List ℕ → ℕ
joint uri = if list_any (λ b. b == 63) uri then 38 else 63

-- the URI, the joint, and the pairs of names and values in form encoding (RFC 6749, 4.1.2 and
-- appendix B)
abbrev pub reply_of : List ℕ → List (List ℕ × List ℕ) → List ℕ
reply_of uri pairs = uri ++ joint uri ∷ extend_pairs [] pairs
