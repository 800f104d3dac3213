-- The definitions of this crate:
--   Put   Prints, what writing leaves of an output; joined_text, the text of pieces; field_line
pub mod Put
