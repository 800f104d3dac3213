-- The definitions and laws of this crate, by file:
--   Format      formats, and the ways to make them
--   Reading     what a reader may return
--   Decimals    IsDecimalOf, numbers as texts of decimal digits
--   Numerals    numbers of any length as texts of decimal digits, compared with a limit
--   Exact       IsExact, the law of a format
--   NumberLaws, Laws, CaseLaws, KindLaws   the law of each way to make a format
--   Spellings   spellings are lists of bytes, and how long they are
pub mod CaseLaws
pub mod Decimals
pub mod Exact
pub mod Format
pub mod KindLaws
pub mod Laws
pub mod NumberLaws
pub mod Numerals
pub mod Reading
pub mod Spellings
