-- The definitions of this crate, by file:
--   StandsFor   StandsFor, what a store that skipped facts stands for
--   Decides     DecidesFor, what is decided for the facts for which a store stands
--   Laws        the laws
pub mod Decides
pub mod Laws
pub mod StandsFor
pub use Rattle.tk_ledger.specs.Alike
pub use Rattle.tk_ledger.specs.Retention
pub use Rattle.tk_ledger.specs.Status
pub use Rattle.tk_store.specs.FactSet
