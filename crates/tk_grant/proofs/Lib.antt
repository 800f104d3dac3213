pub mod AlikeLaws
pub mod GateLaws
pub mod MadeLaws
pub mod RepeatLaws
