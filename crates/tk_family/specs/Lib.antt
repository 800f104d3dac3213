-- The definitions of this crate, by file:
--   Families      families over links and marks: parent, under a code, uses, bad grants, dead
--                 families
--   Walks         the code that a dot is under, found from parent to parent
--   Laws          the laws that hold of all links and marks
--   Tops          where a dot is among families, and which dots a link raises
--   Dots          lists of dots
--   ForestFacts   a forest as contracts see it: a finite map of links, and a finite set of marks
--   View          the links and marks of the rows of a forest
--   Rows          the rows of a forest, and their columns
--   Packed        a row in little memory
--   Counts        how many dots of a family are bad
--   Children      the children of dots beside the first of each, in a set
--   Kept          what the rows of a forest and that set keep
--   Writes        what the steps of a forest write
--   Puts          what they do together
--   Uses          whether a link uses a token
--   Takes         what removing a link or a mark does to the rows of a forest
pub mod Children
pub mod Counts
pub mod Dots
pub mod Families
pub mod ForestFacts
pub mod Kept
pub mod Laws
pub mod Packed
pub mod Puts
pub mod Rows
pub mod Takes
pub mod Tops
pub mod Uses
pub mod View
pub mod Walks
pub mod Writes
pub use Rattle.tk_handle.specs.Dot
