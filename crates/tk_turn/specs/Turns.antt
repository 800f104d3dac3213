-- One turn over many connections (own).
--   AreWithin      each place is a connection's
--   MayDecide      the requests of a connection are decided, unless none is read any more
--   AreDecidedAt   the requests of the connections at places are decided, one after the other
--   AreChangedAt   the connections at places are changed
--   IsKept         the records of a turn are written and kept, and its replies may be sent
--   IsLost         the log failed, and no reply of the turn is sent
--   IsTurn         what a turn does
--   NoneHeld       no connection has replies that are held back
--   IsOwnTurn      a connection's own requests are decided, and it is changed
--   OthersStay     the connections at other places stay as they are
--   EachIsOwn      each connection at the places has its own turn
use Rattle.std.specs.Prelude.{◌≡◌, ◌≢◌, ◌⊎◌, ⊤, ℕ, ◌<◌, true, List, [], ◌∷◌, ◌++◌, length}
use Rattle.std.specs.Prelude.{get_or, set}
use Rattle.std.specs.Prelude.{Option, Result, MatchResult}
use Rattle.std.specs.Io.KnownBytes.{Appends}
use Rattle.tk_put.specs.Put.{AppendsFront}
use Rattle.tk_turn.specs.Outcomes.{Decides}
use Rattle.tk_turn.specs.Links.{LinkFields, IsDecided, new_link, released, withheld}

-- each place is less than the number of connections
abbrev pub AreWithin : List ℕ → ℕ → Type 0
AreWithin places many = (k : ℕ) → k < length places → get_or places k 0 < many

-- the requests of a connection are decided, unless none is read any more
abbrev pub MayDecide : {S : Type 0} → Decides S → S → LinkFields → S → LinkFields → List ℕ
    → Type 0
MayDecide decides old before new after logged =
    IsDecided decides old before new after logged
    ⊎ ((before.is_last ≡ true) × (new ≡ old) × (after ≡ before) × (logged ≡ []))

-- the requests of the connections at places are decided, one connection after the other; the
-- records are theirs, in order
abbrev pub AreDecidedAt : {S : Type 0} → Decides S → List ℕ → S → List LinkFields → S
    → List LinkFields → List ℕ → Type 0
AreDecidedAt decides [] old before new after logged = (new ≡ old) × (after ≡ before) × (logged ≡ [])
AreDecidedAt {S = S} decides (place ∷ places) old before new after logged =
    (one : LinkFields) × (then : LinkFields) × (mid : S) × (first : List ℕ) × (rest : List ℕ)
    × (place < length before) × (one ≡ get_or before place one)
    × MayDecide decides old one mid then first × (logged ≡ first ++ rest)
    × AreDecidedAt decides places mid (set before place then) new after rest

-- the connections at places are changed, one after the other
abbrev pub AreChangedAt : (LinkFields → LinkFields) → List ℕ → List LinkFields → List LinkFields
    → Type 0
AreChangedAt change [] before after = after ≡ before
AreChangedAt change (place ∷ places) before after =
    (one : LinkFields) × (place < length before) × (one ≡ get_or before place one)
    × AreChangedAt change places (set before place (change one)) after

-- a service and its connections
pub record State (S : Type 0) : Type 0 where
  pub service : S
  pub links : List LinkFields

-- the bytes that were written to a log before and after, and those that are kept afterwards
pub record LogChange : Type 0 where
  pub before : Option (List ℕ)
  pub after : Option (List ℕ)
  pub kept : Option (List ℕ)

-- the records of a turn are written and all that is written is kept; the replies may be sent
pub record IsKept {S : Type 0} (places : List ℕ) (mid new : State S) (log : LogChange)
    (logged : List ℕ) : Type 0 where
  pub appended : Appends log.before log.after logged
  pub kept : logged ≢ [] → log.kept ≡ log.after
  pub service : new.service ≡ mid.service
  pub links : AreChangedAt released places mid.links new.links

-- the log failed, so that a beginning of the records is written; no reply of the turn is sent, and
-- the service is sealed
pub record IsLost {S : Type 0} (seals : S → S → Type 0) (places : List ℕ) (mid new : State S)
    (log : LogChange) (logged : List ℕ) : Type 0 where
  pub some : logged ≢ []
  pub appended : AppendsFront log.before log.after logged
  pub service : seals mid.service new.service
  pub links : AreChangedAt withheld places mid.links new.links

-- What a turn does: the requests of the connections at the places are decided, and only then are
-- their records written and kept, or lost. `still` is the statement that no call reached the log.
pub record IsTurn {S : Type 0} (decides : Decides S) (seals : S → S → Type 0) (places : List ℕ)
    (old new : State S) (log : LogChange) (still : Type 0) {A E : Type 0} (result : Result A E)
    : Type 0 where
  pub mid : State S
  pub logged : List ℕ
  pub decided : AreDecidedAt decides places old.service old.links mid.service mid.links logged
  pub end : MatchResult result (λ _. IsKept places mid new log logged)
      (λ _. IsLost seals places mid new log logged)
  pub unused : logged ≡ [] → still

-- no connection has replies that are held back
abbrev pub NoneHeld : List LinkFields → Type 0
NoneHeld links = (k : ℕ) → (get_or links k new_link).held ≡ []

-- a place is among these
abbrev pub IsIn : ℕ → List ℕ → Type 0
IsIn k [] = ⊥
IsIn k (place ∷ places) = (k ≡ place) ⊎ IsIn k places

-- no place is listed twice
abbrev pub AreDistinct : List ℕ → Type 0
AreDistinct [] = ⊤
AreDistinct (place ∷ places) = (IsIn place places → ⊥) × AreDistinct places

-- the requests of a connection, of its own bytes alone, are decided by the service as it then was,
-- and the connection is changed
pub record IsOwnTurn {S : Type 0} (decides : Decides S) (change : LinkFields → LinkFields)
    (before after : LinkFields) : Type 0 where
  pub old : S
  pub new : S
  pub decided : LinkFields
  pub logged : List ℕ
  pub made : MayDecide decides old before new decided logged
  pub changed : after ≡ change decided

-- the connections at other places stay as they are
abbrev pub OthersStay : List ℕ → List LinkFields → List LinkFields → Type 0
OthersStay places before after =
    (k : ℕ) → (IsIn k places → ⊥) → get_or after k new_link ≡ get_or before k new_link

-- each connection at the places has its own turn
abbrev pub EachIsOwn : {S : Type 0} → Decides S → (LinkFields → LinkFields) → List ℕ
    → List LinkFields → List LinkFields → Type 0
EachIsOwn decides change places before after =
    (k : ℕ) → IsIn k places
    → IsOwnTurn decides change (get_or before k new_link) (get_or after k new_link)
