-- The lemmas of this crate:
--   Deciding   requests of one connection, one after the other
--   Views      what contracts see of a connection, by the bytes that it keeps
--   Places     the connections at places, one after the other
--   Holding    each connection has its own turn, and no reply is held back
mod Deciding
mod Holding
mod Places
mod Views
