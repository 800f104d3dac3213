-- The kinds of redirection URIs that a region registers (RFC 9700, 2.6; RFC 8252, 7 and 8.4).
--   is_https, is_loopback, is_app   what a URL of each kind is
--   is_among                        a URL is of one of some kinds
--   is_listed                       a text is read as a URL of one of some kinds, or is at any
--                                   port
use Rattle.std.specs.Prelude.{
  ℕ,
  Bool,
  false,
  ◌&&◌,
  ◌||◌,
  ◌==◌,
  List,
  codes,
  option_map,
  Option,
  Some,
  None,
  Ok,
  Err,
}
use Rattle.std.specs.List.{list_any}
use Rattle.std.specs.Str.{bytes_eq}
use Rattle.url.specs.Host.{host_text}
use Rattle.url.specs.Parser.{Parsed, parse_url}
use Rattle.url.specs.Parts.{Parts, nonempty_host}
use Rattle.tk_match.specs.AnyPort.{is_any_port}
use Rattle.tk_match.specs.declared.redirect_kinds.RedirectKinds.{RedirectKinds}

-- a page of an application: its scheme is `https` (RFC 8252, 7.2)
abbrev pub is_https : Parts → Bool
is_https url = bytes_eq url.scheme (codes "https")

-- the host is this machine (RFC 8252, 7.3; `localhost` is own)
abbrev pub is_this_machine : Option (List ℕ) → Bool
is_this_machine None = false
is_this_machine (Some host) = bytes_eq host (codes "127.0.0.1") || bytes_eq host (codes "[::1]")
    || bytes_eq host (codes "localhost")

-- a program on this machine: its scheme is `http`, and its host this machine (RFC 8252, 7.3)
abbrev pub is_loopback : Parts → Bool
is_loopback url = bytes_eq url.scheme (codes "http")
    && is_this_machine (option_map host_text (nonempty_host url))

-- an application on a device: its scheme has a dot, as the reversed name of a domain has (RFC 8252,
-- 7.1 and 8.4)
abbrev pub is_app : Parts → Bool
is_app url = list_any (λ b. b == 46) url.scheme

-- the URL is of one of the kinds
abbrev pub is_among : RedirectKinds → Parts → Bool
is_among kinds url = kinds.https && is_https url || kinds.loopback && is_loopback url
    || kinds.app && is_app url

-- what was read is a URL of one of the kinds
abbrev pub is_read_among : RedirectKinds → Parsed Parts → Bool
is_read_among kinds (Ok url) = is_among kinds url
is_read_among kinds (Err e) = false

-- the text is a URI of this machine at any port, and that is one of the kinds; or is read as a URL
-- of one of the kinds (RFC 8252, 7)
abbrev pub is_listed : RedirectKinds → List ℕ → Bool
is_listed kinds uri =
    kinds.loopback && is_any_port uri || is_read_among kinds (parse_url None uri)
