-- The definitions of this crate, by file:
--   Params        params_of, the parameters that bytes give; value_of, the value of a name;
--                 has_twice, a name is repeated
--   Places        pairs_at, the pairs at places of the bytes of them all
--   One           IsOne, how often a name occurs
--   Basic         basic_of, the id and the secret of a Basic header
--   Credentials   presented_in, what a header and parameters present of a client
pub mod Basic
pub mod Credentials
pub mod One
pub mod Params
pub mod Places
