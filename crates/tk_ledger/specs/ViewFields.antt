-- What contracts see of the views of clients, consents and logins (own).
--   ClientFields    a client as it was added, and whether it is live
--   ConsentFields   a consent as it was given, and whether it is live
--   LoginFields     a login as its code was issued, and its state
use Rattle.std.specs.Prelude.{ℕ, Bool, List, Option}
use Rattle.tk_handle.specs.declared.dot.Dot.{Dot}
use Rattle.tk_fact.specs.declared.client_kind.ClientKind.{ClientKind}
use Rattle.tk_fact.specs.declared.client_lives.ClientLives.{ClientLives}
use Rattle.tk_ledger.specs.declared.status.State.{State}

-- a client as it was added, and whether it is live
pub record ClientFields : Type 0 where
  pub client_kind : ClientKind
  pub scope : List ℕ
  pub redirects : List (List ℕ)
  pub lives : Option ClientLives
  pub live : Bool

-- a consent as it was given, and whether it is live
pub record ConsentFields : Type 0 where
  pub client : Dot
  pub subject : List ℕ
  pub scope : List ℕ
  pub live : Bool

-- a login as its code was issued: its client and scope, its start, the end of its family; and the
-- state of the code
pub record LoginFields : Type 0 where
  pub client : Dot
  pub scope : List ℕ
  pub start : ℕ
  pub family_end : ℕ
  pub state : State
