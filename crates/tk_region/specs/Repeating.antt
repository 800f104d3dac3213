-- The reply to a refresh that is repeated at a region (own).
--   repeat_in        the reply, from the horizon on, with the tokens of a fact if both are live
--   minted_refresh   the fact at a dot minted a refresh token
use Rattle.std.specs.Prelude.{ℕ, Bool, nat_lt, List, Option, None, is_some, if◌then◌else◌}
use Rattle.std.specs.FinMap as map
use Rattle.tk_handle.specs.declared.dot.Dot.{Dot}
use Rattle.tk_fact.specs.Keeping.{refresh_at}
use Rattle.tk_store.specs.StoreFields.{held_facts}
use Rattle.tk_ledger.specs.Tokens.{minted_in}
use Rattle.tk_grant.specs.Repeat.{repeat_of}
use Rattle.tk_message.specs.ReplyFields.{ReplyFields}
use Rattle.tk_region.specs.RegionFields.{RegionFields}

-- the reply again with the two tokens that the fact at the dot minted of these random words, if
-- both are live at the moment; before the horizon there is none
abbrev pub repeat_in : RegionFields → ℕ → Dot → List ℕ → Option ReplyFields
repeat_in r now dot words =
    if nat_lt now r.facts.horizon then None else repeat_of r.facts now dot words

-- the fact at the dot is held, and minted a refresh token (RFC 6749, 6)
abbrev pub minted_refresh : RegionFields → Dot → Bool
minted_refresh r dot = is_some (minted_in (map.get (held_facts r.facts)) (refresh_at dot))
