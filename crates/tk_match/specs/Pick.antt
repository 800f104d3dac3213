-- Which URI a request means (RFC 6749, 3.1.2.3; RFC 8252, 7.3).
--   matches      a sent URI matches a registered one
--   Matches      the same, as a relation
--   Picked       the URI that a request means, or why it means no URI
--   picked       the outcome for a list of registered URIs and a sent URI
--   shown_pick   a `Pick` of the code as contracts see it
--   IfUri        a fact about the URI that a request means, if there is one
use Rattle.std.specs.Prelude.{◌≡◌, ◌⊎◌, ℕ, Bool, false, ◌&&◌, if◌then◌else◌, bytes_eq}
use Rattle.std.specs.Prelude.{List, [], ◌∷◌, Option, None, Some}
use Rattle.std.specs.List.{list_any}
use Rattle.tk_match.specs.AnyPort.{is_any_port, matches_any_port, DiffersInPort}
use Rattle.tk_match.specs.Redirects.{is_uri}
use Rattle.tk_match.specs.declared.pick.Pick.{Pick}
use Rattle.tk_match.specs.declared.pick.Pick.TheVariants as pick

-- the sent URI matches the registered one: byte for byte (RFC 6749, 3.1.2.3), or at any port if
-- that is what is registered (RFC 8252, 7.3)
abbrev pub matches : List ℕ → List ℕ → Bool
matches registered sent =
    if is_any_port registered then matches_any_port registered sent else bytes_eq registered sent

-- the URI is the registered one, which has a port of its own or the scheme's; or it differs from
-- the registered one in the port alone
abbrev pub Matches : List ℕ → List ℕ → Type 0
Matches registered uri = ((registered ≡ uri) × (is_any_port registered ≡ false))
    ⊎ DiffersInPort registered uri

-- the URI that a request means; or no URI was sent and no registered one is meant; or the sent URI
-- matches no registered one
pub data Picked : Type 0 where
  Uri : List ℕ → Picked
  Missing : Picked
  Unknown : Picked

-- the URI, unless it is at any port: no reply can be sent there
abbrev pub at_own_port : List ℕ → Picked
at_own_port uri = if is_any_port uri then Missing else Uri uri

-- the only URI of a list, if it has one element: equal URIs count as several (RFC 6749, 3.1.2.3)
abbrev pub only_uri : List (List ℕ) → Picked
only_uri [] = Missing
only_uri (uri ∷ []) = at_own_port uri
only_uri (uri ∷ other ∷ uris) = Missing

-- the sent URI, if it may be kept and matches a registered one; or the only URI if no URI was sent
-- (RFC 6749, 3.1.2.3)
abbrev pub picked : List (List ℕ) → Option (List ℕ) → Picked
picked uris None = only_uri uris
picked uris (Some sent) =
    if is_uri sent && list_any (λ uri. matches uri sent) uris then Uri sent else Unknown

-- a `Pick` of the code as contracts see it
abbrev pub shown_pick : Pick → Picked
shown_pick (pick.Uri uri) = Uri uri.now
shown_pick pick.Missing = Missing
shown_pick pick.Unknown = Unknown

-- P holds of the URI that a request means, if there is one
abbrev pub IfUri : Pick → (List ℕ → Type 0) → Type 0
IfUri (pick.Uri uri) P = P uri.now
IfUri pick.Missing P = Unit {0}
IfUri pick.Unknown P = Unit {0}
