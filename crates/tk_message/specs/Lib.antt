-- The definitions of this crate, by file:
--   RequestFields    RequestFields, what contracts see of a request
--   Authentication   authenticated, the client that credentials prove
--   Caller           caller_of, the client that sends a request
--   ScopeAsked       scope_asked, the scope that is requested
--   StatusCode       status_number, the number of a status
--   ErrorCode        error_row, the status and the name of an error
--   Bodies           the JSON bodies of replies, as values
--   Page             listed, cursor_of, a page of entries
--   ClientPage       clients_body, a page of clients
--   LastSignOut      last_sign_out, when a subject last signed out everywhere
--   SubjectPage      subject_page, what a subject has
--   Choices          profile_choices, what the profile does if it leaves a choice
--   ReplyFields      ReplyFields, what contracts see of a reply
--   Reply            json_reply, and the replies without JSON
--   JsonReply             reply_of, the reply that says something in JSON
--   Decision         answered, refused, postponed, decisions without a fact; Passes
--   Lives            lives_within, the lives of what a client gets
--   Place            next_in, the dot of the next fact
pub mod Authentication
pub mod Bodies
pub mod Caller
pub mod Choices
pub mod ClientPage
pub mod Decision
pub mod ErrorCode
pub mod LastSignOut
pub mod Lives
pub mod Page
pub mod Place
pub mod Reply
pub mod ReplyFields
pub mod RequestFields
pub mod ScopeAsked
pub mod StatusCode
pub mod SubjectPage
pub mod JsonReply
pub use Rattle.tk_fact.specs.Check
pub use Rattle.tk_handle.specs.ClientId
pub use Rattle.tk_handle.specs.ConsentId
pub use Rattle.tk_params.specs.Credentials
pub use Rattle.tk_params.specs.Params
pub use Rattle.tk_store.specs.FactSet
