-- The definitions of this crate, by file:
--   Caller            known_names, the parameters that both endpoints know
--   Refusal           refusal_code, the error code of a refusal
--   Introspected      introspected_by_caller, the outcome of introspection
--   Introspection     introspection_of, the reply to an introspection request
--   Revoked           revoked_by_caller, the outcome of revocation
--   SoundRevocation   IsSoundRevocation, the fact that is made passes its check
--   Revocation        revocation_of, the decision of a revocation request
--   Anew              IsAnew, the revocation of an unseen token as if it was the first
--   Laws              SaysActive, SaysNothing, HidesRefresh, IntrospectionsAlike and
--                     RevocationsAlike, the laws
pub mod Anew
pub mod Caller
pub mod Introspected
pub mod Introspection
pub mod Laws
pub mod Refusal
pub mod Revocation
pub mod Revoked
pub mod SoundRevocation
