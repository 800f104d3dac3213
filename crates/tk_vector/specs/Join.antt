-- Joining two values to the least one above both (own): the least upper bound of an order.
--   IsJoin     the least value above two
--   JoinLaws   the laws of an order in which values that agree have a least value above both
use Rattle.std.specs.Prelude.{◌≡◌}

-- c is above a and b, and below every value that is above both
pub record IsJoin {V : Type 0} (Below : V → V → Type 0) (a b c : V) : Type 0 where
  pub left : Below a c
  pub right : Below b c
  pub least : (d : V) → Below a d → Below b d → Below c d

-- `Below` is an order, and two values that agree have a least value above both
pub record JoinLaws {V : Type 0} (Below Agree : V → V → Type 0) : Type 0 where
  pub reflexive : (a : V) → Below a a
  pub transitive : (a b c : V) → Below a b → Below b c → Below a c
  pub antisymmetric : (a b : V) → Below a b → Below b a → a ≡ b
  pub joined : (a b : V) → Agree a b → (c : V) × IsJoin Below a b c
