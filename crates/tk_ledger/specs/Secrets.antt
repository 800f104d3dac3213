-- The secrets of a client, and which of them are good (own; RFC 6749, 2.3.1). The secret with which
-- a client was registered has turn 0. Each secret that is set has a later turn.
--   turn_in                   the turn at which a body sets a secret of a client
--   max_turn, last_turn  the last turn of a client
--   sets, is_set              a secret was set for a client at a turn
--   is_secret_at              a client has a secret at a turn
--   is_good_secret            a client has a secret at its last turn, or at the turn before
use Rattle.std.specs.Prelude.{
  ◌==◌,
  ◌-◌,
  ◌&&◌,
  ◌||◌,
  ℕ,
  Bool,
  false,
  max,
  nat_lt,
  List,
  [],
  ◌∷◌,
  Option,
  Some,
  None,
  if◌then◌else◌,
}
use Rattle.std.specs.FinMap as map
use Rattle.std.specs.List.{filter_map}
use Rattle.std.specs.Str.{bytes_eq}
use Rattle.tk_handle.specs.declared.dot.Dot.{Dot}
use Rattle.tk_fact.specs.declared.body.Body.{Body}
use Rattle.tk_fact.specs.declared.body.Body.TheVariants.{SecretSet}
use Rattle.tk_store.specs.FactSet.{FactSet, any_fact}
use Rattle.tk_ledger.specs.Bodies.{is_same_dot}

-- ---- the last turn

-- the turn at which the body sets a secret of the client, if it sets one (own)
abbrev pub turn_in : Dot → Body → Option ℕ
turn_in client (SecretSet f) = if is_same_dot f.client client then Some f.turn else None
turn_in client body = None

-- the greatest of some turns, or 0 (own)
abbrev pub max_turn : List ℕ → ℕ
max_turn [] = 0
max_turn (turn ∷ others) = max turn (max_turn others)

-- the last turn: the greatest at which a secret was set for the client, or 0 (own)
unfoldable pub last_turn : FactSet → Dot → ℕ
last_turn F client = max_turn (filter_map (λ f. turn_in client f.1) (map.entries F))

-- ---- the secrets of a turn

-- the body sets the secret with the digest for the client, at the turn (own)
abbrev pub sets_in : Dot → ℕ → List ℕ → Body → Bool
sets_in client turn digest (SecretSet f) =
    is_same_dot f.client client && ((f.turn == turn) && bytes_eq f.digest digest)
sets_in client turn digest body = false

-- the fact sets the secret with the digest for the client, at the turn (own)
abbrev pub sets : Dot → ℕ → List ℕ → Dot × Body → Bool
sets client turn digest f = sets_in client turn digest f.1

-- a secret with the digest was set for the client at the turn (own)
unfoldable pub is_set : FactSet → Dot → ℕ → List ℕ → Bool
is_set F client turn digest = any_fact (sets client turn digest) F

-- the client has the secret with the digest at the turn: the secret was set then, or, at turn 0, is
-- the first, with which the client was registered (own; RFC 6749, 2.3.1)
abbrev pub is_secret_at : FactSet → Dot → List ℕ → ℕ → List ℕ → Bool
is_secret_at F client first turn digest =
    ((turn == 0) && bytes_eq first digest) || is_set F client turn digest

-- the client has the secret with the digest at its last turn, or at the turn before (own)
abbrev pub is_good_secret : FactSet → Dot → List ℕ → List ℕ → Bool
is_good_secret F client first digest =
    is_secret_at F client first (last_turn F client) digest
    || (nat_lt 0 (last_turn F client)
    && is_secret_at F client first (last_turn F client - 1) digest)
