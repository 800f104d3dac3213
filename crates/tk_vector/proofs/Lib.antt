pub mod EntriesLaws
pub mod ListedLaws
pub mod OrderLaws
pub mod RemovalLaws
pub mod VectorTextLaws
pub mod VersionVectorLaws
