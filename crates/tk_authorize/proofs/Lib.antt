mod LoginLaws
pub mod MadeLaws
pub mod RedirectLaws
mod RegistrationLaws
pub mod SameLaws
