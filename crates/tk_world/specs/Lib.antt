-- The definitions of this crate, in reading order:
--   AskedFields   AskedFields, what reaches a region: a moment, random words, and bytes
--   Bundles       bundle_in_bytes, the bundle that bytes spell; IsReadable
--   WorldFields   WorldFields, what contracts see of a world: its regions' stores, and its bundles
--   Regions       entries_of, the numbers and stores of regions
--   Carrying      Way, what a request may be heard as and what its reply shows; Carries, what
--                 carrying a request does to an edge
--   Acts          ActBy, what one event does to a world, exactly; ActsBy, a list of them
--   Broken        BreaksOff, what a run leaves that ended with an error
--   State         State, regions with all facts that they made and took in; Consists, the set of
--                 all its facts
--   Pages         page_of, the page of a set of facts
--   Told          TellsBy, what a region answers and makes by all its facts
--   World         StepBy, one event of a state, in which no fact is skipped; RunBy, a list of them;
--                 seen_by, what a region has seen
--   WorldStands   WorldStands, the state that a world stands for
--   Headline      RunStands, a run of a world as a run of that state; AnswersFor, the answers
--   Promises      TellsOfSets, IntrospectAlike, RevokedInactive, FamiliesInactive: the promises
--                 about introspection
--   Parts         Opens, Pages, TakesBundle, PrunesTo, PrunesSomeTo: how the parts of a step may
--                 end
--   Fields        region_in, moment_in, IsCursorText: the numbers and texts of a line's fields
--   RequestLine   asked_of, the requests of lines, whole and short
--   Line          IsEventLine, the event of a line; HasWords, the random words of a request
--   Printed       lines_text, the lines of outcomes
pub mod Acts
pub mod AskedFields
pub mod Broken
pub mod Bundles
pub mod Carrying
pub mod Fields
pub mod Headline
pub mod Line
pub mod Pages
pub mod Parts
pub mod Printed
pub mod Promises
pub mod Regions
pub mod RequestLine
pub mod State
pub mod Told
pub mod World
pub mod WorldFields
pub mod WorldStands
pub use Rattle.tk_bundle.specs.Bundle
pub use Rattle.tk_bundle.specs.BundleFields
pub use Rattle.tk_bundle.specs.Page
pub use Rattle.tk_edge.specs.Answers
pub use Rattle.tk_edge.specs.Heard
pub use Rattle.tk_edge.specs.Rendering
pub use Rattle.tk_message.specs.RequestFields
pub use Rattle.tk_ledger.specs.Retention
pub use Rattle.tk_message.specs.StatusCode
pub use Rattle.tk_region.specs.SettingsFields
pub use Rattle.tk_region.specs.Taking
pub use Rattle.tk_retention.specs.StandsFor
pub use Rattle.tk_store.specs.FactSet
pub use Rattle.tk_store.specs.Joining
pub use Rattle.tk_store.specs.StoreFields
