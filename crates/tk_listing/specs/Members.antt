-- The members of a JSON object as texts (RFC 8259, 4), each with the comma before it.
--   quoted          a text in quotation marks (RFC 8259, 7)
--   hex_text        bytes as hexadecimal digits
--   plain_member    a member whose text needs no escapes
--   text_member     a member with any text of a fact
--   texts_member    a member with a list of texts
--   number_member   a member with a number
--   flag_member     a member with true or false
--   dot_member      a member with a dot
--   seconds_member  a member with the seconds of a moment
--   moment_member   two members with a moment: as RFC 3339 writes it, and in seconds
use Rattle.std.specs.Prelude.{ℕ, ◌+◌, ◌/◌, ◌%◌, nat_lt, Bool, ◌||◌, ◌==◌, List, [], ◌∷◌, ◌++◌}
use Rattle.std.specs.Prelude.{codes, decimal, if◌then◌else◌}
use Rattle.std.specs.List.{flat_map}
use Rattle.tk_handle.specs.declared.dot.Dot.{Dot}
use Rattle.tk_handle.specs.DotText.{dot_text}
use Rattle.tk_listing.specs.Calendar.{moment_text}

-- A byte in a JSON string: a quotation mark and a backslash have a backslash before them. Texts of
-- facts have no control characters, which need other escapes.
abbrev pub escaped : ℕ → List ℕ
escaped b = if (b == 34) || (b == 92) then 92 ∷ b ∷ [] else b ∷ []

-- a text in quotation marks
unfoldable pub quoted : List ℕ → List ℕ
quoted text = codes "\"" ++ (flat_map escaped text ++ codes "\"")

-- the digit of a number below 16
abbrev pub hex_digit : ℕ → ℕ
hex_digit n = if nat_lt n 10 then 48 + n else 87 + n

-- a byte as two hexadecimal digits
abbrev pub hex_byte : ℕ → List ℕ
hex_byte b = hex_digit (b / 16) ∷ hex_digit (b % 16) ∷ []

-- bytes as hexadecimal digits
unfoldable pub hex_text : List ℕ → List ℕ
hex_text bytes = flat_map hex_byte bytes

-- a comma, the name of a member, and a colon
unfoldable pub named : List ℕ → List ℕ
named name = codes ",\"" ++ (name ++ codes "\":")

-- a member whose text needs no escapes
unfoldable pub plain_member : List ℕ → List ℕ → List ℕ
plain_member name text = named name ++ (codes "\"" ++ (text ++ codes "\""))

-- a member with a text of a fact
unfoldable pub text_member : List ℕ → List ℕ → List ℕ
text_member name text = named name ++ quoted text

-- texts with a comma before each
abbrev pub more_texts : List (List ℕ) → List ℕ
more_texts texts = flat_map (λ text. codes "," ++ quoted text) texts

-- texts, with commas between them
abbrev pub texts_list : List (List ℕ) → List ℕ
texts_list [] = []
texts_list (text ∷ more) = quoted text ++ more_texts more

-- a member with a list of texts
unfoldable pub texts_member : List ℕ → List (List ℕ) → List ℕ
texts_member name texts = named name ++ (codes "[" ++ (texts_list texts ++ codes "]"))

-- a member with a number
unfoldable pub number_member : List ℕ → ℕ → List ℕ
number_member name n = named name ++ decimal n

-- a member with true or false
unfoldable pub flag_member : List ℕ → Bool → List ℕ
flag_member name flag = named name ++ (if flag then codes "true" else codes "false")

-- a member with a dot, as R:S
unfoldable pub dot_member : List ℕ → Dot → List ℕ
dot_member name d = plain_member name (dot_text d)

-- a member with the seconds of a moment
unfoldable pub seconds_member : List ℕ → ℕ → List ℕ
seconds_member name seconds =
    codes ",\"" ++ (name ++ (codes "_seconds\":" ++ decimal seconds))

-- a member with a moment as RFC 3339 writes it, and one with its seconds
unfoldable pub moment_member : List ℕ → ℕ → List ℕ
moment_member name seconds =
    plain_member name (moment_text seconds) ++ seconds_member name seconds
