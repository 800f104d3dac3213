-- Which lists of redirection URIs a client may have (RFC 6749, 3.1.2; the limits and `is_absolute`
-- are own).
--   is_uri                 a text may be kept: at most `max_uri_bytes`
--   redirects_refusal      the first rule that a list breaks: at most `max_uris` URIs
--   redirects_of           the list, if it breaks no rule
--   ReadsAsUrl, Refuses    the crate `url` reads a text as a URL, or refuses it
--   registration_refusal   the first rule that a list breaks if its URIs must be URLs too
--   client_refusal         the same, if URIs at any port are taken
use Rattle.std.specs.Prelude.{◌≡◌, ℕ, Bool, ◌&&◌, ◌||◌, ◌==◌, not, nat_lt, nat_le, is_none, is_some}
use Rattle.std.specs.Prelude.{is_ok, if◌then◌else◌, List, length, Option, None, Some, Ok, Err}
use Rattle.std.specs.List.{list_all}
use Rattle.url.specs.Parser.{parse_url, IsOutOfRoom}
use Rattle.url.specs.Parts.{Parts}
use Rattle.url.specs.declared.error.ParseError.{ParseError}
use Rattle.tk_match.specs.AnyPort.{is_any_port}
use Rattle.tk_match.specs.declared.redirects.RedirectError.{RedirectError}
use Rattle.tk_match.specs.declared.redirects.RedirectError.TheVariants.{Empty, TooMany, Malformed}

-- a visible ASCII byte other than `#`: a registered URI has no fragment (RFC 6749, 3.1.2)
abbrev pub is_uri_byte : ℕ → Bool
is_uri_byte b = nat_le 33 b && nat_le b 126 && not (b == 35)

-- the greatest length of a URI in bytes (own)
abbrev pub max_uri_bytes : ℕ
max_uri_bytes = 512

-- a text that may be kept as a URI: 1 to `max_uri_bytes` visible bytes without `#` (own)
abbrev pub is_uri : List ℕ → Bool
is_uri uri = nat_le 1 (length uri) && nat_le (length uri) max_uri_bytes && list_all is_uri_byte uri

-- the greatest number of URIs of a client, counting equal ones (own)
abbrev pub max_uris : ℕ
max_uris = 8

-- the first rule that a list of URIs breaks: 1 to `max_uris` texts, each of which may be kept
-- (own)
abbrev pub redirects_refusal : List (List ℕ) → Option RedirectError
redirects_refusal uris =
    if length uris == 0 then Some Empty
    else if nat_lt max_uris (length uris) then Some TooMany
    else if list_all is_uri uris then None
    else Some Malformed

-- the list itself, if it breaks no rule (RFC 6749, 3.1.2; own)
abbrev pub redirects_of : List (List ℕ) → Option (List (List ℕ))
redirects_of uris = if is_none (redirects_refusal uris) then Some uris else None

-- the URL Standard reads the text without a base
abbrev pub ReadsAsUrl : List ℕ → Type 0
ReadsAsUrl text = (url : Parts) × (parse_url None text ≡ Ok url)

-- the URL Standard refuses the text, and not because it is too long
abbrev pub Refuses : List ℕ → Type 0
Refuses text = (e : ParseError) × (parse_url None text ≡ Err e) × (IsOutOfRoom e → ⊥)

-- `ReadsAsUrl` as a test (own). The test is in place of RFC 3986, 4.3, and mostly laxer: any
-- scheme, `\` for `/`, bytes like `<`
abbrev pub is_absolute : List ℕ → Bool
is_absolute uri = is_ok (parse_url None uri)

-- the first rule that a list of URIs breaks if each must be read as a URL too (RFC 6749, 3.1.2;
-- own)
abbrev pub registration_refusal : List (List ℕ) → Option RedirectError
registration_refusal uris =
    if is_some (redirects_refusal uris) then redirects_refusal uris
    else if list_all is_absolute uris then None
    else Some Malformed

-- a URL, or a URI of this machine at any port (RFC 8252, 7.3)
abbrev pub is_registrable : List ℕ → Bool
is_registrable uri = is_any_port uri || is_absolute uri

-- the first rule that a list of URIs breaks if each must be a URL, or of this machine at any port
-- (RFC 6749, 3.1.2; RFC 8252, 7.3; own)
abbrev pub client_refusal : List (List ℕ) → Option RedirectError
client_refusal uris =
    if is_some (redirects_refusal uris) then redirects_refusal uris
    else if list_all is_registrable uris then None
    else Some Malformed
