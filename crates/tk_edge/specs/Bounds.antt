-- How many bytes a request may have (own).
--   body_limit      the most bytes of a body, by which paths are served
--   request_limit   the most bytes of a head and a body
use Rattle.std.specs.Prelude.{ℕ, ◌+◌}
use Rattle.tk_edge.specs.Heads.{head_limit}
use Rattle.tk_edge.specs.declared.reach.Reach.{Reach}
use Rattle.tk_edge.specs.declared.reach.PathSet.{PathSet}
use Rattle.tk_edge.specs.declared.reach.PathSet.TheVariants.{All}

-- the most bytes of a body: 1,049,600 if all paths are served, 16,384 otherwise
abbrev pub body_limit : PathSet → ℕ
body_limit All = 1049600
body_limit paths = 16384

-- the most bytes of a head and a body, by which paths are served
abbrev pub request_limit : Reach → ℕ
request_limit reach = head_limit + body_limit reach.paths
