-- The definitions of this crate, by file. For authorization requests:
--   Refusal         refusal_code, the code of an error in place
--   Denial          denial_code, the code of an error at the client's URI
--   Challenge       challenge_sent, the challenge that a request sends
--   Asked           asked_of, the scope and challenge that are requested
--   Approval        approval_of, what a code is issued for
--   Judged          judged_of, the cases of a request in their order
--   Authorization   authorization_of, the decision of a request
--   Registered      LeadsToClient, a reply leads to a URI that matches a registered one, or to none
-- For administration requests:
--   Lives               lives_sent, the lives that a new client is registered with
--   Administered        administered_of, the cases of each endpoint in their order
--   Logouts             logged_out_of, the cases of the end of a login
--   ClientParams        client_asked, digest_asked, the client and the secret that are named
--   SecretChanges       changed_of, the cases of the change of a secret
--   Chosen              chosen, a judgement by the region's choices
--   Operators           by_asked, the operator that a request names
--   Administration      administration_of, the decision of a request
--   Listing             listing_of, the decision of a request for a page of clients
--   SubjectListing      subject_of, the decision of a request for what a subject has
--   SoundAdministered   IsSoundAdministered, the fact that a judgement makes passes its check
pub mod Administered
pub mod Administration
pub mod Approval
pub mod Asked
pub mod Authorization
pub mod Challenge
pub mod Chosen
pub mod ClientParams
pub mod Denial
pub mod Judged
pub mod Listing
pub mod Lives
pub mod Logouts
pub mod Operators
pub mod Refusal
pub mod Registered
pub mod SecretChanges
pub mod SoundAdministered
pub mod SubjectListing
