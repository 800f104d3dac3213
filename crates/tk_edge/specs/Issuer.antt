-- The issuer of a server (RFC 8414, 2, by the syntax of RFC 3986, 3; the limits are own), and its
-- name in the redirects of replies (RFC 9207, 2).
--   is_issuer    a text is an issuer
--   issuer_in    the issuer that a text is
--   iss_behind   a location with the issuer behind its parameters
--   with_iss     a reply that names the issuer, if it is a redirect
use Rattle.std.specs.Prelude.{ℕ, Bool, true, false, ◌&&◌, ◌||◌, not, ◌==◌, ◌-◌, nat_le, List}
use Rattle.std.specs.Prelude.{length, take, drop, codes, Option, Some, None, if◌then◌else◌}
use Rattle.std.specs.Char.{is_ascii_alphanumeric}
use Rattle.std.specs.List.{list_all, list_any, position_or_len}
use Rattle.std.specs.Option.{option_map}
use Rattle.std.specs.Str.{bytes_eq}
use Rattle.form_urlencoded.specs.Form.{append_pair}
use Rattle.tk_match.specs.AnyPort.{behind, is_port_part}
use Rattle.tk_message.specs.ReplyFields.{ReplyFields}

-- the greatest length of an issuer in bytes (own)
abbrev pub max_issuer : ℕ
max_issuer = 512

-- a byte of a host that is a name or an IPv4 address: a letter, a digit, `-` or `.` (RFC 1123, 2.1)
abbrev pub is_host_byte : ℕ → Bool
is_host_byte b = is_ascii_alphanumeric b || b == 45 || b == 46

-- a byte of a path that is no escape (RFC 3986, 3.3)
abbrev pub is_path_byte : ℕ → Bool
is_path_byte b = is_ascii_alphanumeric b || list_any (λ c. c == b) (codes "-._~!$&'()*+,;=:@/")

-- the host, which is of this machine unless the scheme is secure (own)
abbrev pub is_host : Bool → List ℕ → Bool
is_host true host = not (length host == 0) && list_all is_host_byte host
is_host false host = bytes_eq host (codes "127.0.0.1") || bytes_eq host (codes "localhost")

-- a host, and behind it nothing, or a colon and a port (RFC 3986, 3.2); 58 is the colon
abbrev pub is_authority : Bool → List ℕ → Bool
is_authority secure text =
    let n = position_or_len (λ b. b == 58) text in
    is_host secure (take n text) && is_port_part (drop n text)

-- the last byte is a slash (own)
abbrev pub ends_in_slash : List ℕ → Bool
ends_in_slash text = bytes_eq (drop (length text - 1) text) (codes "/")

-- no path, or a path that doesn't end in a slash (RFC 3986, 3.3; own)
abbrev pub is_path : List ℕ → Bool
is_path text = list_all is_path_byte text && not (ends_in_slash text)

-- what follows a scheme is an authority and then a path, or no path; 47 is the slash (RFC 3986, 3)
abbrev pub is_place : Bool → Option (List ℕ) → Bool
is_place secure None = false
is_place secure (Some rest) =
    let n = position_or_len (λ b. b == 47) rest in
    is_authority secure (take n rest) && is_path (drop n rest)

-- a URL of the scheme `https`, or `http` on this machine, without a query and a fragment (RFC 8414,
-- 2; own)
abbrev pub is_issuer : List ℕ → Bool
is_issuer text = nat_le (length text) max_issuer
    && (is_place true (behind (codes "https://") text)
    || is_place false (behind (codes "http://") text))

-- the issuer that a text is (RFC 8414, 2; own)
abbrev pub issuer_in : List ℕ → Option (List ℕ)
issuer_in text = if is_issuer text then Some text else None

-- a location with the parameter `iss` behind those that it has, in form encoding (RFC 9207, 2)
abbrev pub iss_behind : List ℕ → List ℕ → List ℕ
iss_behind issuer location = append_pair location (codes "iss") issuer

-- a reply that names the issuer, if there is one and the reply is a redirect (RFC 9207, 2)
abbrev pub with_iss : Option (List ℕ) → ReplyFields → ReplyFields
with_iss None reply = reply
with_iss (Some issuer) reply = record {
  status = reply.status;
  location = option_map (iss_behind issuer) reply.location;
  asks = reply.asks;
  content = reply.content;
}
