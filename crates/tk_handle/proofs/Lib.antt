pub mod DotTextLaws
pub mod FormatLaws
pub mod HandleLaws
pub mod SortedEntriesLaws
pub mod SpanLaws
pub mod TestLaws
