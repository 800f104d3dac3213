-- The bytes of a connection (own).
--   LinkFields   what contracts see of a connection
--   IsDecided    its requests are decided, and their replies are held back
--   released     its replies may be sent
--   withheld     its replies are dropped
use Rattle.std.specs.Prelude.{◌≡◌, ℕ, Bool, true, false, List, [], ◌∷◌, ◌++◌}
use Rattle.tk_turn.specs.Outcomes.{Decides, goes_on, is_end}
use Rattle.tk_turn.specs.Requests.{AreRequests, Requests}

-- A connection: the bytes of its client that aren't decided, the replies that are held back, those
-- that may be sent, whether the client has ended its side, whether no further request is read, and
-- whether its last turn stopped at the bound, so that a whole request may be left.
pub record LinkFields : Type 0 where
  pub input : List ℕ
  pub held : List ℕ
  pub ready : List ℕ
  pub is_over : Bool
  pub is_last : Bool
  pub is_cut : Bool

-- a connection on which nothing has come
abbrev pub new_link : LinkFields
new_link = record {
  input = [];
  held = [];
  ready = [];
  is_over = false;
  is_last = false;
  is_cut = false;
}

-- more bytes came from the client
abbrev pub with_input : LinkFields → List ℕ → LinkFields
with_input link bytes = record link { input = link.input ++ bytes }

-- the client has ended its side
abbrev pub ended : LinkFields → LinkFields
ended link = record link { is_over = true }

-- these replies are left to be sent
abbrev pub with_ready : LinkFields → List ℕ → LinkFields
with_ready link rest = record link { ready = rest }

-- the replies that are held back may be sent, behind those that might before
abbrev pub released : LinkFields → LinkFields
released link = record {
  input = link.input;
  held = [];
  ready = link.ready ++ link.held;
  is_over = link.is_over;
  is_last = link.is_last;
  is_cut = link.is_cut;
}

-- whether no further request is read if these replies are dropped
abbrev pub ends_without : List ℕ → Bool → Bool
ends_without [] is_last = is_last
ends_without (b ∷ bs) is_last = true

-- the replies that are held back are dropped
abbrev pub withheld : LinkFields → LinkFields
withheld link = record {
  input = link.input;
  held = [];
  ready = link.ready;
  is_over = link.is_over;
  is_last = ends_without link.held link.is_last;
  is_cut = link.is_cut;
}

-- the requests at the front of what has come are decided one after the other; their replies are
-- held back, in order, behind those that were before; what may be sent stays
pub record IsDecided {S : Type 0} (decides : Decides S) (old : S) (before : LinkFields) (new : S)
    (after : LinkFields) (logged : List ℕ) : Type 0 where
  pub reads : before.is_last ≡ false
  pub requests : Requests
  pub decided : AreRequests decides old before.input before.is_over requests new after.input
  pub replies : after.held ≡ before.held ++ requests.replied
  pub records : logged ≡ requests.logged
  pub sendable : after.ready ≡ before.ready
  pub over : after.is_over ≡ before.is_over
  pub ends : after.is_last ≡ is_end requests.last
  pub cut : after.is_cut ≡ goes_on requests.last
