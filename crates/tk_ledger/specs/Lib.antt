-- The definitions of this crate, by file:
--   Bodies           Bodies, the body at each dot; equality of dots and tokens
--   Clients          clients and consents of a fact set; consent_for
--   ClientWalk       clients_in, the clients by their dots, and a walk over them
--   Views            client_view, consent_view, the views of clients and consents
--   Logins           login_view, the login that a code began; ending_of, what ends it
--   SubjectWalk      consents_of, logins_of, what a subject has, and a walk over each
--   ViewFields       ClientFields, ConsentFields, LoginFields, what contracts see of the views
--   Secrets          is_good_secret, which secrets of a client are good
--   SignOuts         is_signed_out, who signed out everywhere, and when
--   Tokens           what is minted, used, revoked and stopped; is_dead, the dead families
--   Status           status_in, the status of a handle at a moment; IsActive
--   StandingFields   StandingFields, what contracts see of a standing
--   Standings        IsSound, what holds of every standing
--   Ends             FamilyEnds, the end of a whole family
--   Alike            AnsweredAlike, statuses that every endpoint answers alike
--   Laws             the laws, which hold of all sets of facts
--   Changes          change_in, the change that one fact makes in the tables
--   Index            IsIndexed, the tables beside the facts
--   SubjectTables    IsCodes, IsLogins, IsOuts, the tables of what subjects have
--   SecretTables     IsSecrets, the table of the secrets of clients
--   Losses           WasIndexed, the tables after the loss of a fact
--   Retention        MaySkip, the facts of families that are over
--   Slices           PrunesSome, the store after a slice of a prune
--   ByTop            by_top, the status of a token by the top of its dot
pub mod Alike
pub mod Bodies
pub mod ByTop
pub mod Changes
pub mod ClientWalk
pub mod Clients
pub mod Ends
pub mod Index
pub mod Laws
pub mod Logins
pub mod Losses
pub mod Retention
pub mod SecretTables
pub mod Secrets
pub mod SignOuts
pub mod Slices
pub mod StandingFields
pub mod Standings
pub mod Status
pub mod SubjectTables
pub mod SubjectWalk
pub mod Tokens
pub mod ViewFields
pub mod Views
pub use Rattle.tk_store.specs.FactSet
pub use Rattle.tk_family.specs.Families
pub use Rattle.tk_family.specs.Walks
