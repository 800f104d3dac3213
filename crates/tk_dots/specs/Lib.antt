-- The definitions of this crate, by file:
--   Pages   the pages of a map from dots, the map that they hold, and walks over it
--   Runs    a set of dots as runs, the set that they are, and walks over it
--   Marks   a map from dots to values or marks, and walks over it
pub mod Marks
pub mod Pages
pub mod Runs
