-- The definitions of this crate, by file:
--   Refusal       refusal_code, the error code of a refusal
--   Gate          gate_of, whether the code or refresh token that was sent can be redeemed
--   Redeemed      redeemed_of, the judgement of a code
--   ScopeGranted  grant_asked, what a refresh token is good for
--   Rotated       rotated_of, the judgement of a refresh token
--   Renewed       renewed_of, the judgement of a refresh request, by its client
--   Judged        judged_of, the cases of a token request in their order
--   Granted       grant_of, the decision of a token request
--   Repeat        is_again, a refresh that is repeated; repeat_of, the reply to it
--   Within        IsWithin, a fact whose tokens end with their family at the latest
--   Laws          GrantsAlike, two stores that answer each handle alike and have the same
--                 clients; GrantsWithin, the facts made; RefreshesAnew, no repeat of a refresh by a
--                 client that keeps its refresh token
--   SoundGate     IsSoundGate, what holds of every gate
--   SoundJudged   IsSoundJudged, what holds of every judgement
pub mod Gate
pub mod Granted
pub mod Judged
pub mod Laws
pub mod Redeemed
pub mod Refusal
pub mod Renewed
pub mod Repeat
pub mod Rotated
pub mod ScopeGranted
pub mod SoundGate
pub mod SoundJudged
pub mod Within
