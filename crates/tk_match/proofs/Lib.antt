pub mod AnyPortLaws
pub mod AsciiTexts
pub mod PickLaws
pub mod UriLists
