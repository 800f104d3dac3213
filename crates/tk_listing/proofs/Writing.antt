-- Writing the members of a client, and the lines of a vector region by region. Key results:
--   keeping_written   the members of a client that keeps its refresh token
--   no_region     no region, no line
--   none_written, next_written   these, behind what was written before
--   next_region   the line of one region more
use Rattle.std.proofs.Common.{◌≡◌, ℕ, ◌+◌, List, [], ◌++◌, codes, refl, sym, ap, ◌∙◌, add-one}
use Rattle.std.proofs.Common.{append_assoc, append-nil}
use Rattle.tk_vector.specs.VersionVector.{Vector}
use Rattle.tk_listing.specs.Members.{plain_member}
use Rattle.tk_listing.specs.FactMembers.{keeping_members, kept_members}
use Rattle.tk_listing.specs.Lines.{lines_up_to, region_line}

-- the client kind, and what is behind it, are the members of a client that keeps its refresh token
pub keeping_written : (kind digest old mid new : List ℕ)
    → mid ≡ old ++ plain_member (codes "client_kind") kind → new ≡ mid ++ kept_members digest
    → new ≡ old ++ keeping_members kind digest
unfolding keeping_members
keeping_written kind digest old mid new first next =
    next ∙ ap (λ (l : List ℕ). l ++ kept_members digest) first
    ∙ append_assoc old (plain_member (codes "client_kind") kind) (kept_members digest)

-- no region has no lines
pub no_region : (v : Vector) → lines_up_to v 0 ≡ []
unfolding lines_up_to
no_region v = refl

-- the lines up to one more region have its line
pub next_region : (v : Vector) (n : ℕ)
    → lines_up_to v (n + 1) ≡ lines_up_to v n ++ region_line v (n + 1)
unfolding lines_up_to
next_region v n = rw add-one refl

-- at first no line is written
pub none_written : (v : Vector) (old : List ℕ) → old ≡ old ++ lines_up_to v 0
none_written v old = sym (ap (λ (l : List ℕ). old ++ l) (no_region v) ∙ append-nil old)

-- one more line is written
pub next_written : (v : Vector) (n : ℕ) (old mid new : List ℕ) → mid ≡ old ++ lines_up_to v n
    → new ≡ mid ++ region_line v (n + 1)
    → new ≡ old ++ lines_up_to v (n + 1)
next_written v n old mid new so_far next =
    next ∙ ap (λ (l : List ℕ). l ++ region_line v (n + 1)) so_far
    ∙ append_assoc old (lines_up_to v n) (region_line v (n + 1))
    ∙ ap (λ (l : List ℕ). old ++ l) (sym (next_region v n))
