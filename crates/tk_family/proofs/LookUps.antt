-- What the calls of a forest do to look-ups, for the crates above: from a finite map and a finite
-- set to the link at each dot and the marked tokens.
--   link_put, mark_put    look-ups after `put` and `mark`
use Rattle.std.proofs.Common.{◌≡◌, ◌||◌, cond, Some, ap, ◌∙◌}
use Rattle.std.specs.FinMap as map
use Rattle.std.specs.FinSet as set
use Rattle.std.specs.Ordering.{eq_by_cmp}
use Rattle.tk_handle.specs.declared.dot.Dot.{Dot}
use Rattle.tk_handle.specs.declared.token_id.TokenId.{TokenId}
use Rattle.tk_handle.specs.Dot.{dot_cmp, dot_cmp_total}
use Rattle.tk_handle.specs.TokenId.{token_cmp}
use Rattle.tk_family.specs.declared.link.Link.{Link}
use Rattle.tk_family.specs.Dots.{dot_eq}
use Rattle.tk_family.proofs.Viewing.{tokens_total}

-- the link that was put is at its dot, and all other links are where they were
pub link_put : (m n : map.FinMap dot_cmp Link) (d : Dot) (l : Link) → n ≡ map.insert m d l
    → (q : Dot) → map.get n q ≡ cond (dot_eq q d) (Some l) (map.get m q)
link_put m n d l h q =
    ap (λ (x : map.FinMap dot_cmp Link). map.get x q) h ∙ map.get-insert dot_cmp_total m d l q

-- the token that was marked is marked, and so is each token that was marked before
pub mark_put : (s t : set.FinSet token_cmp) (j : TokenId) → t ≡ set.insert s j → (k : TokenId)
    → set.contains t k ≡ (eq_by_cmp token_cmp k j || set.contains s k)
mark_put s t j h k =
    ap (λ (x : set.FinSet token_cmp). set.contains x k) h ∙ set.contains-insert tokens_total s j k
