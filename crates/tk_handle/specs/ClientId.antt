-- The id of a client as a text (own; RFC 6749, 2.2 leaves its form to the server).
--   client_text     the id of the client at a dot: the letter c, and the dot
--   client_in       the dot whose client id a text is
--   ReadsClientId   a reading gives the dot of a client id, and nothing for any other text
use Rattle.std.specs.Prelude.{ℕ, List, Option}
use Rattle.tk_handle.specs.declared.dot.Dot.{Dot}
use Rattle.tk_handle.specs.DotText.{id_text, id_in, ReadsId}

-- the letter c, which begins a client id (own)
abbrev pub client_letter : ℕ
client_letter = 99

-- the id of the client at a dot: c, the region, a dash, the serial, in decimals without leading
-- zeros (own)
abbrev pub client_text : Dot → List ℕ
client_text d = id_text client_letter d

-- the dot whose client id the text is (own)
abbrev pub client_in : List ℕ → Option Dot
client_in text = id_in client_letter text

-- a reading gives the dot of a client id, and nothing for any other text (own)
abbrev pub ReadsClientId : List ℕ → Option Dot → Type 0
ReadsClientId text result = ReadsId client_letter text result
