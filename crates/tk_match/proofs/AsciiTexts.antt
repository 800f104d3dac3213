-- Texts that may be kept are ASCII, and therefore UTF-8.
--   uri_utf8         a redirection URI is UTF-8
--   verifier_utf8    a verifier is UTF-8
use Rattle.std.proofs.Common.{◌≡◌, ℕ, ◌<◌, Bool, true, zero, suc, List, [], ◌∷◌, arith}
use Rattle.std.specs.List.{list_all}
use Rattle.std.specs.Str.{IsAscii, IsUtf8}
use Rattle.std.proofs.lemmas.Str.{IsUtf8-from_ascii}
use Rattle.std.proofs.lemmas.Bool.Decides.{nat_tests}
use Rattle.tk_match.specs.Redirects.{is_uri, is_uri_byte}
use Rattle.tk_match.specs.Challenge.{is_verifier, is_unreserved}
use Rattle.std.proofs.lemmas.Bool.{and_parts as both_true}

-- a list of bytes is ASCII if each byte passes a test that only ASCII bytes pass
IsAscii-list_all : (p : ℕ → Bool) → ((b : ℕ) → p b ≡ true → b < 128) → (text : List ℕ)
    → list_all p text ≡ true → IsAscii text
IsAscii-list_all p below [] h i = omega arith
IsAscii-list_all p below (b ∷ text) h zero = let s = below b (both_true _ _ h).0 in omega arith
IsAscii-list_all p below (b ∷ text) h (suc i) = IsAscii-list_all p below text (both_true _ _ h).1 i

-- a byte of a URI is ASCII
uri_byte_ascii : (b : ℕ) → is_uri_byte b ≡ true → b < 128
uri_byte_ascii b h = grind (arith, nat_tests)

-- an unreserved byte is ASCII
unreserved_ascii : (b : ℕ) → is_unreserved b ≡ true → b < 128
unreserved_ascii b h = grind (arith, nat_tests)

-- a redirection URI is UTF-8
pub uri_utf8 : (text : List ℕ) → is_uri text ≡ true → IsUtf8 text
uri_utf8 text h =
    IsUtf8-from_ascii text (IsAscii-list_all is_uri_byte uri_byte_ascii text (both_true _ _ h).1)

-- a verifier is UTF-8; a challenge has the same grammar
pub verifier_utf8 : (text : List ℕ) → is_verifier text ≡ true → IsUtf8 text
verifier_utf8 text h = IsUtf8-from_ascii text
    (IsAscii-list_all is_unreserved unreserved_ascii text (both_true _ _ h).1)
