-- What contracts see of a standing (own).
--   StandingFields   what is known of a token under a code
use Rattle.std.specs.Prelude.{ℕ, List}
use Rattle.tk_handle.specs.declared.dot.Dot.{Dot}
use Rattle.tk_fact.specs.declared.code_issued.CodeIssued as issued
use Rattle.tk_ledger.specs.declared.status.State.{State}

-- what is known of a token under a code: texts as their bytes, moments as seconds
pub record StandingFields : Type 0 where
  pub client : Dot
  pub subject : List ℕ
  pub code : Dot
  pub issued : issued.CodeIssued
  pub scope : List ℕ
  pub start : ℕ
  pub expiry : ℕ
  pub family_end : ℕ
  pub generation : ℕ
  pub state : State
