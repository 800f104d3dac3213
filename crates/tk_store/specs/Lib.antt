-- The definitions of this crate, by file:
--   FactSet        FactSet, a set of facts; Agree, with_facts, joined, IsFactSet, IsSubset
--   Slots          Slot, what is known of a dot; held_in, joined_slot
--   StoreFields    StoreFields, what contracts see of a store; held_facts, IsWhole, IsKept
--   SlotShown      IsShown, what a look-up of a slot returns
--   SlotOrder      StoreBelow, the order of stores; StoresAgree
--   WholeStores    WholeAgree, whole_store, stores in which nothing is skipped
--   Joining        JoinsFacts, the set that results from joining facts to a set; SameFacts
--   SlotJoining    Compared, Joins, Sought over the slots of another store
--   Adding         Adds and AddsTo, the outcomes of adding a fact to a set and to a store
--   Skipping       Skips, the outcomes of skipping a dot
--   Walk           above, the facts above a dot, ascending
--   Beyond         beyond, the facts above a dot that a vector does not cover, ascending
--   Front          IsFront, up to which serial the facts of each region are all held
--   NextDot        next_dot, the dot of a region's next fact
--   Paging         PagingCompletes, what a receiver of all pages holds; page, last_dot
--   Seeking        Seeks, one step of the search for what a vector does not cover
--   Table          IsTable, slots kept in a map by dot
pub mod Adding
pub mod Beyond
pub mod FactSet
pub mod Front
pub mod Joining
pub mod NextDot
pub mod Paging
pub mod Seeking
pub mod Skipping
pub mod SlotJoining
pub mod SlotOrder
pub mod SlotShown
pub mod Slots
pub mod StoreFields
pub mod Table
pub mod Walk
pub mod WholeStores
pub use Rattle.tk_fact.specs.Check
pub use Rattle.tk_handle.specs.Dot
pub use Rattle.tk_vector.specs.Join
pub use Rattle.tk_vector.specs.VersionVector
