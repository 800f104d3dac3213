-- The definitions of this crate, by file:
--   Ranges          max_region, max_serial, max_moment; IsRegion, IsSerial, IsMoment
--   DotFields       DotFields, a dot as contracts see it: region and serial
--   Dot             dot_cmp, the order of dots, from least_dot to greatest_dot; IsDot, their range
--   DotBytes        dot_field, a dot in bytes
--   Moment          moment_plus, a later moment; moment, a moment in bytes
--   DotText         dot_text, the text R:S of a dot; id_text, an id that names a dot, behind a
--                   letter
--   ClientId        client_text, the id of a client; client_in, the dot that such an id names
--   ConsentId       consent_text, the id of a consent; consent_in, the dot that such an id names
--   LoginId         login_text, the id of a login; login_in, the dot that such an id names
--   Kind            kind_number, the number of a kind; kind, a kind in bytes; is_code, is_access
--                   and is_refresh
--   TokenId         token_cmp, the order of tokens; token, the name of a token in bytes
--   Handle          handle_bytes and handle_text, the spellings of a handle
--   SortedEntries   IsAt and IsGap, the place of a key in a list of entries whose keys rise
pub mod ClientId
pub mod ConsentId
pub mod Dot
pub mod DotBytes
pub mod DotFields
pub mod DotText
pub mod Handle
pub mod Kind
pub mod LoginId
pub mod Moment
pub mod Ranges
pub mod SortedEntries
pub mod TokenId
