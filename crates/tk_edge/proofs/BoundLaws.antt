-- How many bytes a body may have. Key result:
--   size_within   a body that may be requested is within the limit of all bodies
use Rattle.std.proofs.Common.{ℕ, ◌≤◌, sym, subst, arith}
use Rattle.tk_edge.specs.Bounds.{body_limit}
use Rattle.tk_edge.specs.Judged.{MayPost, limit_of}
use Rattle.tk_edge.specs.declared.path.Posted.{Posted}
use Rattle.tk_edge.specs.declared.path.Posted.TheVariants.{Form, Pull, Push}
use Rattle.tk_edge.specs.declared.reach.Reach.{Reach}
use Rattle.tk_edge.specs.declared.reach.PathSet.{PathSet}
use Rattle.tk_edge.specs.declared.reach.PathSet.TheVariants.{Clients, Admin, All}

-- a body of at most 16,384 bytes is within the limit, whichever paths are served
form_within : (set : PathSet) (size : ℕ) → size ≤ 16384 → size ≤ body_limit set
form_within All size le = omega (arith, le)
form_within Clients size le = le
form_within Admin size le = le

-- a body that may be sent to a path is within the limit of the reach
pub size_within : (reach : Reach) (posted : Posted) (size : ℕ) → MayPost reach posted
    → size ≤ limit_of posted → size ≤ body_limit reach.paths
size_within reach (Form endpoint) size h le = form_within reach.paths size le
size_within reach (Pull pages) size h le = subst (λ (s : PathSet). size ≤ body_limit s) (sym h) le
size_within reach Push size h le = subst (λ (s : PathSet). size ≤ body_limit s) (sym h) le
