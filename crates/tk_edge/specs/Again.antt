-- The reply to a refresh that is repeated, as bytes (own).
--   repeat_at   the bytes of the reply, unless the edge is sealed
use Rattle.std.specs.Prelude.{ℕ, List, Option, None, if◌then◌else◌}
use Rattle.std.specs.Option.{option_map}
use Rattle.tk_handle.specs.declared.dot.Dot.{Dot}
use Rattle.tk_region.specs.Repeating.{repeat_in}
use Rattle.tk_edge.specs.EdgeFields.{EdgeFields}
use Rattle.tk_edge.specs.Rendering.{reply_bytes}

-- the bytes of the reply again with the two tokens that the fact at the dot minted of these random
-- words, if the region has such a reply and the edge isn't sealed
abbrev pub repeat_at : EdgeFields → ℕ → Dot → List ℕ → Option (List ℕ)
repeat_at edge now dot words =
    if edge.sealed then None
    else option_map (λ reply. reply_bytes reply None) (repeat_in edge.region now dot words)
