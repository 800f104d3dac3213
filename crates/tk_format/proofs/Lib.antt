pub mod DecimalLaws
pub mod NumeralLaws
pub mod Several
