-- The definitions of this crate:
--   Calendar      date_of, the date of a day; moment_text, a moment as RFC 3339 writes it
--   Members       the members of a JSON object, as texts
--   FactMembers   fields_of, the members of a fact's fields
--   Lines         fact_line, the line of a fact; item_lines, the lines of items
--   Pieces        Shows, the lines of the bundles and vectors at the front of bytes
--   Printing      PrintsInput, what printing an input leaves
pub mod Calendar
pub mod FactMembers
pub mod Members
pub mod Lines
pub mod Pieces
pub mod Printing
