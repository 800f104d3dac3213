pub mod CapLaws
pub mod FitsLaws
pub mod StepLaws
pub mod TakeLaws
