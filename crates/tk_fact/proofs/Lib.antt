pub mod BodyLaws
pub mod CheckLaws
pub mod ReadingLaws
pub mod SubjectLaws
