-- The definitions of this crate, by file, in reading order:
--   SettingsFields   SettingsFields, what contracts see of settings
--   RegionFields     RegionFields, what contracts see of a region; place_in, IsCapped,
--                    with_made, Gains
--   Decision         decision_of, the decision of a request; capped, the serial cap
--   Repeating        repeat_in, the reply to a refresh that is repeated; minted_refresh, a fact by
--                    which a refresh may be repeated
--   Step             prepared_of, what a region prepares for a request; Commits, adding the fact
--   Taking           TakesIn, the outcomes of taking in a bundle
pub mod Decision
pub mod RegionFields
pub mod Repeating
pub mod SettingsFields
pub mod Step
pub mod Taking
pub use Rattle.tk_bundle.specs.Bundle
pub use Rattle.tk_bundle.specs.BundleFields
pub use Rattle.tk_message.specs.ReplyFields
pub use Rattle.tk_store.specs.FactSet
pub use Rattle.tk_store.specs.Joining
pub use Rattle.tk_store.specs.SlotOrder
pub use Rattle.tk_store.specs.StoreFields
