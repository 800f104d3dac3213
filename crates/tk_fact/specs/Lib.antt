-- The definitions of this crate, by file:
--   Subject     is_subject, the name of a resource owner
--   ClientKinds keeps_refresh, whether a client keeps its refresh token
--   Check       refusal_of, the rule that a fact breaks
--   Administered   with_by, a fact with by whom and when it was administered
--   Fields      the formats of the fields of facts
--   Followed    bare, followed: a value of which a field may stand behind the others
--   Kinds       the format of the fields of each kind together
--   FactBytes   fact_bytes, the spelling of a fact; framed, a fact behind its length
--   Tokens      minted_of, the tokens that a fact mints; uses_of, the token that it uses
--   Keeping     kept_for, the token for which a fact is kept; is_passing; names_of
--   FieldLaws, FactLaws   reading and spelling undo each other
--   LengthLaws  a fact that has a spelling has at most 8,192 bytes
pub mod Administered
pub mod Check
pub mod ClientKinds
pub mod FactBytes
pub mod FactLaws
pub mod FieldLaws
pub mod Fields
pub mod Followed
pub mod Keeping
pub mod Kinds
pub mod LengthLaws
pub mod Subject
pub mod Tokens
pub use Rattle.tk_format.specs.Format
pub use Rattle.tk_format.specs.Reading
pub use Rattle.tk_handle.specs.ClientId
pub use Rattle.tk_handle.specs.Dot
pub use Rattle.tk_match.specs.Redirects
pub use Rattle.tk_scope.specs.Scope
