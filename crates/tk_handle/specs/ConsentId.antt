-- The id of a consent as a text (own).
--   consent_text     the id of the consent at a dot: the letter g, and the dot
--   consent_in       the dot whose consent id a text is
--   ReadsConsentId   a reading gives the dot of a consent id, and nothing for any other text
use Rattle.std.specs.Prelude.{ℕ, List, Option}
use Rattle.tk_handle.specs.declared.dot.Dot.{Dot}
use Rattle.tk_handle.specs.DotText.{id_text, id_in, ReadsId}

-- the letter g, for granted, which begins a consent id
abbrev pub consent_letter : ℕ
consent_letter = 103

-- the id of the consent at a dot: g, the region, a dash, the serial, in decimals without leading
-- zeros
abbrev pub consent_text : Dot → List ℕ
consent_text d = id_text consent_letter d

-- the dot whose consent id the text is
abbrev pub consent_in : List ℕ → Option Dot
consent_in text = id_in consent_letter text

-- a reading gives the dot of a consent id, and nothing for any other text
abbrev pub ReadsConsentId : List ℕ → Option Dot → Type 0
ReadsConsentId text result = ReadsId consent_letter text result
