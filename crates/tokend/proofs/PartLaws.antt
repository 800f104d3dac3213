-- A log that goes on in its next part keeps its bytes.
use Rattle.std.proofs.Common.{append-nil, subst, sym}
use Rattle.std.specs.Prelude.{◌≡◌, ℕ, List, ◌++◌, Option, Some, None}
use Rattle.std.specs.Io.KnownBytes.{Keeps}
use Rattle.tokend.specs.LogParts.{IsEmptyBehind, joined}

-- The bytes of all parts are those from before, once the last is closed and the next is empty.
pub turned : (closed file all next : Option (List ℕ)) → all ≡ joined closed file
    → IsEmptyBehind closed next
    → Keeps (joined closed file) (joined all next)
turned None file all next is empty = tt
turned (Some xs) None all next is empty = tt
turned (Some xs) (Some ys) all next is empty =
    subst (λ a. Keeps (Some (xs ++ ys)) (joined a next)) (sym is)
    (subst (λ n. Keeps (Some (xs ++ ys)) (joined (Some (xs ++ ys)) n)) (sym empty)
    (append-nil (xs ++ ys)))
