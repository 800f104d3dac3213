-- The definitions of this crate, in reading order:
--   Outcomes   what was made of the front of a connection's bytes
--   Requests   AreRequests, the requests of one connection in one turn
--   Links      LinkFields, the bytes of a connection, with what a turn does to them
--   Turns      IsTurn, one turn over many connections
pub mod Links
pub mod Outcomes
pub mod Requests
pub mod Turns
