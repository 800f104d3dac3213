pub mod FitLaws
pub mod NewsLaws
pub mod PageLaws
pub mod PagingLaws
pub mod PieceCountLaws
pub mod RunLaws
pub mod RunPageLaws
