-- Challenges and verifiers (RFC 7636, 4.1 to 4.6).
--   ChallengeFields     what contracts see of a challenge
--   is_verifier         a text is a verifier, within its limits
--   challenge_refusal   the first rule of a challenge that a method and a text break
--   challenge_of        the challenge of a method and a text that break no rule
--   Meets               a verifier meets a challenge; is_met is its test
use Rattle.std.specs.Prelude.{◌≡◌, ℕ, Bool, true, false, ◌&&◌, ◌||◌, ◌==◌, not, nat_le, is_none}
use Rattle.std.specs.Prelude.{IsTrue, if◌then◌else◌, List, length, codes, bytes_eq, Option, None}
use Rattle.std.specs.Prelude.{Some}
use Rattle.std.specs.Char.{is_ascii_alphanumeric}
use Rattle.std.specs.List.{list_all}
use Rattle.base64.specs.Engines.{url_safe_no_pad}
use Rattle.base64.specs.GeneralPurpose.{encode_of}
use Rattle.sha2.specs.Sha256.{sha256}
use Rattle.tk_match.specs.declared.challenge.ChallengeError.{ChallengeError}
use Rattle.tk_match.specs.declared.challenge.ChallengeError.TheVariants.{Method, Malformed}

-- a challenge as contracts see it: whether the method is S256 (otherwise plain), and the text (RFC
-- 7636, 4.3)
pub record ChallengeFields : Type 0 where
  pub is_s256 : Bool
  pub text : List ℕ

-- a byte that a verifier may have: ALPHA / DIGIT / "-" / "." / "_" / "~" (RFC 7636, 4.1)
abbrev pub is_unreserved : ℕ → Bool
is_unreserved b = is_ascii_alphanumeric b || b == 45 || b == 46 || b == 95 || b == 126

-- the least length in bytes of a verifier and of a challenge (RFC 7636, 4.1 and 4.2)
abbrev pub min_verifier_bytes : ℕ
min_verifier_bytes = 43

-- the greatest length in bytes of a verifier and of a challenge (RFC 7636, 4.1 and 4.2)
abbrev pub max_verifier_bytes : ℕ
max_verifier_bytes = 128

-- a verifier (RFC 7636, 4.1): 43 to 128 unreserved bytes; a challenge has the same grammar (4.2)
abbrev pub is_verifier : List ℕ → Bool
is_verifier text =
    nat_le min_verifier_bytes (length text) && nat_le (length text) max_verifier_bytes
    && list_all is_unreserved text

-- the name of a method, byte for byte (RFC 7636, 4.3)
abbrev pub is_method : List ℕ → Bool
is_method method = bytes_eq method (codes "plain") || bytes_eq method (codes "S256")

-- the first rule of a challenge that is broken: its method is known, and its text has the grammar
-- (RFC 7636, 4.2 and 4.3)
abbrev pub challenge_refusal : List ℕ → List ℕ → Option ChallengeError
challenge_refusal method text =
    if not (is_method method) then Some Method
    else if is_verifier text then None
    else Some Malformed

-- the challenge of a method and a text, if they break no rule
abbrev pub challenge_of : List ℕ → List ℕ → Option ChallengeFields
challenge_of method text =
    if is_none (challenge_refusal method text)
    then Some (record { is_s256 = bytes_eq method (codes "S256"); text = text })
    else None

-- the challenge text of a verifier: the verifier, or the unpadded base64url of its SHA-256 (RFC
-- 7636, 4.2)
abbrev pub challenge_text : Bool → List ℕ → List ℕ
challenge_text false verifier = verifier
challenge_text true verifier = encode_of url_safe_no_pad (sha256 verifier)

-- a text is a verifier, and its challenge is this one (RFC 7636, 4.6)
abbrev pub Meets : ChallengeFields → List ℕ → Type 0
Meets challenge verifier =
    IsTrue (is_verifier verifier) × (challenge_text challenge.is_s256 verifier ≡ challenge.text)

-- `Meets` as a test
abbrev pub is_met : ChallengeFields → List ℕ → Bool
is_met challenge verifier =
    is_verifier verifier && bytes_eq (challenge_text challenge.is_s256 verifier) challenge.text
