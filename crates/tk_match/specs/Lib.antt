-- The definitions of this crate, by file:
--   Redirects   is_uri, a text may be kept; redirects_refusal and registration_refusal, why a list
--               is refused
--   RedirectKinds   is_listed, a text is read as a URL of one of some kinds
--   AnyPort     matches_any_port, a sent URI is a registered one at some port
--   Pick        picked, which URI a request means
--   ReplyUri    reply_of, the URI that a browser is sent back to
--   Challenge   challenge_of, the challenge of a method and a text; Meets, a verifier meets a
--               challenge
pub mod AnyPort
pub mod Challenge
pub mod Pick
pub mod RedirectKinds
pub mod Redirects
pub mod ReplyUri
