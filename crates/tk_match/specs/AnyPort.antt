-- URIs of a program on this machine, which listens at any port (RFC 8252, 7.3).
--   is_port             a text is a port
--   is_any_port         a registered URI has `*` in place of its port
--   matches_any_port    a sent URI is a registered one at some port
--   DiffersInPort       the same, as a relation
use Rattle.std.specs.Prelude.{
  ◌≡◌,
  ◌⊎◌,
  ℕ,
  ◌≤◌,
  Bool,
  true,
  false,
  ◌&&◌,
  ◌-◌,
  ◌==◌,
  nat_le,
  is_some,
  if◌then◌else◌,
  List,
  [],
  ◌∷◌,
  ◌++◌,
  length,
  take,
  drop,
  codes,
  decimal,
  Contains,
  Option,
  None,
  Some,
}
use Rattle.std.specs.List.{list_any}
use Rattle.std.specs.Option.{option_and_then}
use Rattle.std.specs.Str.{bytes_eq}
use Rattle.tk_format.specs.Decimals.{decimal_in}

-- what is before the port: `http` and a host that is this machine (RFC 8252, 7.3; `localhost` is
-- own)
abbrev pub hosts : List (List ℕ)
hosts = codes "http://127.0.0.1" ∷ codes "http://[::1]" ∷ codes "http://localhost" ∷ []

-- what follows the start in a text that begins with it
abbrev pub behind : List ℕ → List ℕ → Option (List ℕ)
behind start text =
    if bytes_eq (take (length start) text) start then Some (drop (length start) text) else None

-- the text, if it is empty or begins with a slash: a path and a query, or neither (RFC 3986, 3.3)
abbrev pub path_in : List ℕ → Option (List ℕ)
path_in [] = Some []
path_in (b ∷ text) = if b == 47 then Some (b ∷ text) else None

-- the path of an any-port URI of the host: what is behind the host and `:*`
abbrev pub any_port_path : List ℕ → List ℕ → Option (List ℕ)
any_port_path uri host =
    option_and_then path_in (option_and_then (behind (codes ":*")) (behind host uri))

-- a registered URI with `*` in place of its port (own)
abbrev pub is_any_port : List ℕ → Bool
is_any_port uri = list_any (λ host. is_some (any_port_path uri host)) hosts

-- the greatest port (RFC 9293, 3.1)
abbrev pub max_port : ℕ
max_port = 65535

-- a number of a port
abbrev pub is_port_number : Option ℕ → Bool
is_port_number None = false
is_port_number (Some n) = nat_le 1 n && nat_le n max_port

-- the text is a port, from 1 to `max_port`, as a decimal without leading zeros
abbrev pub is_port : List ℕ → Bool
is_port text = is_port_number (decimal_in text)

-- the text is nothing, or a colon and a port (RFC 3986, 3.2)
abbrev pub is_port_part : List ℕ → Bool
is_port_part [] = true
is_port_part (b ∷ text) = b == 58 && is_port text

-- the text is a port with its colon, or neither, and then the path
abbrev pub is_port_before : List ℕ → List ℕ → Bool
is_port_before path text =
    let n = length text - length path in
    bytes_eq (drop n text) path && is_port_part (take n text)

-- the rest of a sent URI is some port and the path of the registered one
abbrev pub is_rest : Option (List ℕ) → Option (List ℕ) → Bool
is_rest None rest = false
is_rest (Some path) None = false
is_rest (Some path) (Some rest) = is_port_before path rest

-- the sent URI is the any-port URI of one host at some port, or without a port (RFC 8252, 7.3)
abbrev pub matches_any_port : List ℕ → List ℕ → Bool
matches_any_port registered sent =
    list_any (λ host. is_rest (any_port_path registered host) (behind host sent)) hosts

-- the text is nothing, or a colon and a port from 1 to `max_port`
abbrev pub IsPortPart : List ℕ → Type 0
IsPortPart text = (text ≡ [])
    ⊎ ((n : ℕ) × (1 ≤ n) × (n ≤ max_port) × (text ≡ codes ":" ++ decimal n))

-- the sent URI has some port, or no port, in place of `:*` of the registered one. Both are of this
-- machine, and all else is equal (RFC 8252, 7.3)
pub record DiffersInPort (registered sent : List ℕ) : Type 0 where
  pub host : List ℕ
  pub port : List ℕ
  pub path : List ℕ
  pub is_host : Contains hosts host
  pub is_port : IsPortPart port
  pub is_path : path_in path ≡ Some path
  pub registered_is : registered ≡ host ++ codes ":*" ++ path
  pub sent_is : sent ≡ host ++ port ++ path
