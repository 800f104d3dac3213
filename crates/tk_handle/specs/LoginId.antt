-- The id of a login as a text (own).
--   login_text     the id of the login that the code of a dot began: the letter l, and the dot
--   login_in       the dot whose login id a text is
--   ReadsLoginId   a reading gives the dot of a login id, and nothing for any other text
use Rattle.std.specs.Prelude.{ℕ, List, Option}
use Rattle.tk_handle.specs.declared.dot.Dot.{Dot}
use Rattle.tk_handle.specs.DotText.{id_text, id_in, ReadsId}

-- the letter l, for login, which begins a login id
abbrev pub login_letter : ℕ
login_letter = 108

-- the id of the login that the code of a dot began: l, the region, a dash, the serial, in decimals
-- without leading zeros
abbrev pub login_text : Dot → List ℕ
login_text d = id_text login_letter d

-- the dot whose login id the text is
abbrev pub login_in : List ℕ → Option Dot
login_in text = id_in login_letter text

-- a reading gives the dot of a login id, and nothing for any other text
abbrev pub ReadsLoginId : List ℕ → Option Dot → Type 0
ReadsLoginId text result = ReadsId login_letter text result
