-- The requests of one connection in one turn, decided one after the other (own).
--   Request       a request with its reply and its record
--   Requests      the requests, with the last outcome
--   AreDecided    the requests are decided one after the other
--   AreRequests   they are all that one turn decides of the connection
use Rattle.std.specs.Prelude.{
  ◌≡◌,
  ℕ,
  ◌≤◌,
  Bool,
  true,
  List,
  [],
  ◌∷◌,
  ◌++◌,
  drop,
  length,
}
use Rattle.tk_turn.specs.declared.service.Outcome.{Outcome}
use Rattle.tk_turn.specs.Outcomes.{Decides, taken_of, goes_on, max_requests}

-- a decision, with its reply and its record
pub record Request : Type 0 where
  pub outcome : Outcome
  pub reply : List ℕ
  pub logged : List ℕ

-- decisions with the last outcome, and all their replies and all their records in order
pub record Requests : Type 0 where
  pub all : List Request
  pub last : Outcome
  pub replied : List ℕ
  pub logged : List ℕ

-- the requests at the front of bytes are decided, each by the service that the one before left, and
-- each of the bytes behind that one
abbrev pub AreDecided : {S : Type 0} → Decides S → S → List ℕ → Bool → List Request → Outcome
    → List ℕ → List ℕ → S → List ℕ → Type 0
AreDecided decides old input over [] last replied logged new rest = ⊥
AreDecided decides old input over (one ∷ []) last replied logged new rest =
    decides old input over one.outcome one.reply one.logged new
    × (last ≡ one.outcome) × (replied ≡ one.reply) × (logged ≡ one.logged)
    × (rest ≡ drop (taken_of one.outcome) input)
AreDecided {S = S} decides old input over (one ∷ next ∷ others) last replied logged new rest =
    (mid : S) × decides old input over one.outcome one.reply one.logged mid
    × (goes_on one.outcome ≡ true)
    × (more : List ℕ) × (later : List ℕ)
    × (replied ≡ one.reply ++ more) × (logged ≡ one.logged ++ later)
    × AreDecided decides mid (drop (taken_of one.outcome) input) over (next ∷ others) last more
    later new rest

-- one turn's requests of a connection: it decides the next one unless the last outcome allows none,
-- or they are as many as a turn may decide
pub record AreRequests {S : Type 0} (decides : Decides S) (old : S) (input : List ℕ) (over : Bool)
    (requests : Requests) (new : S) (rest : List ℕ) : Type 0 where
  pub decided : AreDecided decides old input over requests.all requests.last requests.replied
      requests.logged new rest
  pub most : length requests.all ≤ max_requests
  pub ends : goes_on requests.last ≡ true → length requests.all ≡ max_requests
