pub mod ActiveLaws
pub mod AlikeLaws
pub mod MadeLaws
