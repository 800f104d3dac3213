-- What was made of the front of a connection's bytes (own).
--   taken_of       how many bytes a request took
--   goes_on        whether a request was decided behind which another may follow
--   is_end         whether no further request is read
--   max_requests   how many requests of a connection one turn decides at most
--   Decides        what a decision may be
use Rattle.std.specs.Prelude.{ℕ, Bool, true, false, not, List}
use Rattle.tk_turn.specs.declared.service.Outcome.{Outcome}
use Rattle.tk_turn.specs.declared.service.Outcome.TheVariants.{More, Decided, Ended}

-- how many bytes a request took
abbrev pub taken_of : Outcome → ℕ
taken_of More = 0
taken_of (Decided taken stays) = taken
taken_of Ended = 0

-- whether a request was decided behind which another may follow
abbrev pub goes_on : Outcome → Bool
goes_on More = false
goes_on (Decided taken stays) = stays
goes_on Ended = false

-- whether no further request is read
abbrev pub is_end : Outcome → Bool
is_end More = false
is_end (Decided taken stays) = not stays
is_end Ended = true

-- how many requests of a connection one turn decides at most
abbrev pub max_requests : ℕ
max_requests = 16

-- What a decision may be. The relation is between the service, the bytes that have come, whether
-- the client has ended its side, the outcome, the reply, the record, and the service afterwards.
abbrev pub Decides : Type 0 → Type 1
Decides S = S → List ℕ → Bool → Outcome → List ℕ → List ℕ → S → Type 0
