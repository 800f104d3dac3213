-- The definitions of this crate, in reading order:
--   Failures     CountsFailure, how a device counts its failures
--   Heads        HasHead, the head at the front of a stream
--   HeadFields   values_named, the fields of a head; has_repeats, whether one is repeated
--   Paths        path_named, the paths that are reached; service_at, what each serves
--   MediaType    is_form, whether Content-Type is a form's
--   Judged       judged_of, what a head requests or the first rule that it breaks
--   Staying      stays_open, a connection stays behind the reply to a head
--   Bounds       request_limit, how many bytes a request may have
--   Heard        IsArrival, the meaning of a stream; IsHeard, without exchanges between regions
--   Pulls        wanted, the format of a pull
--   Rendering    reply_bytes, the bytes of a reply
--   Told         IsTold, the record is written and then the reply
--   Terms        is_out_of_range, a bundle has an item under a number that isn't accepted
--   Issuer       is_issuer, a text is an issuer; with_iss, a reply names it
--   Notices      metadata_of and health_of, what the server says of itself
--   Answers      answer_at, the reply to a request; notice_by, to one for a notice; fact_by, the
--                fact made for it
--   Ahead        is_ahead, a bundle's horizon is later than the moment; refused, by the terms
--   Exchanges    Exchanges, the reply to another region
--   Arrivals     Answers, the reply to what arrived
--   Pushes       TakesAndLogs, a pushed bundle with its log
--   EdgeFields   EdgeFields, what contracts see of an edge
--   Again        repeat_at, the reply to a refresh that is repeated
--   Served       IsServed, one connection is one step
--   Fronts       IsFront, what the front of a connection's bytes means while more may follow
--   FrontServed  IsFrontServed, what serving that front does
--   OpenReply    IsOpenReply, the reply over a connection that stays
--   Laws         HasOneMeaning, the meaning of a stream is unique
pub mod Again
pub mod Ahead
pub mod Answers
pub mod Arrivals
pub mod Bounds
pub mod EdgeFields
pub mod Exchanges
pub mod Failures
pub mod FrontServed
pub mod Fronts
pub mod HeadFields
pub mod Heads
pub mod Heard
pub mod Issuer
pub mod Judged
pub mod Laws
pub mod MediaType
pub mod Notices
pub mod OpenReply
pub mod Paths
pub mod PullLaws
pub mod Pulls
pub mod Pushes
pub mod Rendering
pub mod Served
pub mod Staying
pub mod Terms
pub mod Told
