pub mod Ascii
pub mod Order
pub mod Printing
pub mod Within
