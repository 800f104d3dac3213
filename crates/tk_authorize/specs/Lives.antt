-- The lives that a new client is registered with (own).
--   life_asked      a life of the client, by its parameter
--   lives_sent      the client's lives, if any are sent
--   lives_allowed   the lives of a client of a kind, which may have some
use Rattle.std.specs.Prelude.{
  ℕ,
  ◌&&◌,
  if◌then◌else◌,
  List,
  codes,
  Option,
  Some,
  None,
  is_none,
  Result,
  Ok,
  Err,
}
use Rattle.std.specs.Str.Parse.{digits_value}
use Rattle.tk_format.specs.Numerals.{is_numeral}
use Rattle.tk_fact.specs.declared.client_kind.ClientKind.{ClientKind}
use Rattle.tk_fact.specs.declared.client_kind.ClientKind.TheVariants.{Resource}
use Rattle.tk_fact.specs.declared.client_lives.ClientLives.{ClientLives}
use Rattle.tk_fact.specs.Check.{is_life, max_access_life, max_refresh_life, max_family_life}
use Rattle.tk_params.specs.Params.{Pairs, value_of}
use Rattle.tk_authorize.specs.declared.admin_refusal.AdminRefusal.{AdminRefusal}
use Rattle.tk_authorize.specs.declared.admin_refusal.AdminRefusal.TheVariants.{WrongLife}

-- a life of the client: decimal digits, 1 second to the longest. A life that isn't sent is the
-- longest, so that the server's alone bounds it (own)
abbrev pub life_asked : ℕ → Option (List ℕ) → Option ℕ
life_asked longest None = Some longest
life_asked longest (Some text) =
    let life = digits_value 10 text in
    if is_numeral text && is_life longest life then Some life else None

-- the client's lives, each of which must be one: of an access token, of a refresh token, of a
-- family (own)
abbrev pub lives_read : Option ℕ → Option ℕ → Option ℕ → Result (Option ClientLives) AdminRefusal
lives_read (Some access) (Some refresh) (Some family) =
    Ok (Some (record { access = access; refresh = refresh; family = family }))
lives_read access refresh family = Err WrongLife

-- the client's lives by their parameters: none if none of them is sent (own)
abbrev pub lives_asked : Option (List ℕ) → Option (List ℕ) → Option (List ℕ)
    → Result (Option ClientLives) AdminRefusal
lives_asked access refresh family =
    if is_none access && is_none refresh && is_none family then Ok None
    else lives_read (life_asked max_access_life access) (life_asked max_refresh_life refresh)
    (life_asked max_family_life family)

-- the client's lives, as the parameters send them (own)
abbrev pub lives_sent : Pairs → Result (Option ClientLives) AdminRefusal
lives_sent params =
    lives_asked (value_of (codes "access_life") params) (value_of (codes "refresh_life") params)
    (value_of (codes "family_life") params)

-- the lives of a client of the kind: a resource server, to which no token is issued, has none (own)
abbrev pub lives_allowed : ClientKind → Result (Option ClientLives) AdminRefusal
    → Result (Option ClientLives) AdminRefusal
lives_allowed (Resource digest) (Ok (Some lives)) = Err WrongLife
lives_allowed client_kind lives = lives
