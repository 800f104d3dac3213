-- The definitions of this crate, by file:
--   Join            IsJoin, the least value above two; JoinLaws, the laws of an order with such
--                   values
--   VectorBytes     vector, the format of a vector; vector_bytes, its bytes
--   VectorOrder     Below, the order of vectors
--   VectorText      IsVectorText, the text of a vector
--   VersionVector   Vector, a finite map from regions to serials; entry, raised, lowered, Covers
pub mod Join
pub mod VectorBytes
pub mod VectorBytesLaws
pub mod VectorOrder
pub mod VectorText
pub mod VersionVector
pub use Rattle.tk_handle.specs.Dot
