-- The name of a subject is ASCII, and therefore UTF-8 (`subject_utf8`).
use Rattle.std.proofs.Common.{◌≡◌, ℕ, ◌<◌, true, zero, suc, List, [], ◌∷◌, arith}
use Rattle.std.specs.List.{list_all}
use Rattle.std.specs.Str.{IsAscii, IsUtf8}
use Rattle.std.proofs.lemmas.Str.{IsUtf8-from_ascii}
use Rattle.std.proofs.lemmas.Bool.Decides.{nat_tests}
use Rattle.tk_fact.specs.FieldLaws.{both_true}
use Rattle.tk_fact.specs.Subject.{is_subject, is_visible}

-- a visible character is ASCII
visible_ascii : (b : ℕ) → is_visible b ≡ true → b < 128
visible_ascii b h = grind (arith, nat_tests)

-- a text of visible characters is ASCII
all_ascii : (text : List ℕ) → list_all is_visible text ≡ true → IsAscii text
all_ascii [] h i = omega arith
all_ascii (b ∷ text) h zero = let s = visible_ascii b (both_true _ _ h).0 in omega arith
all_ascii (b ∷ text) h (suc i) = all_ascii text (both_true _ _ h).1 i

-- the name of a subject is UTF-8
pub subject_utf8 : (text : List ℕ) → is_subject text ≡ true → IsUtf8 text
subject_utf8 text h = IsUtf8-from_ascii text (all_ascii text (both_true _ _ h).1)
