-- What contracts see of a reply (RFC 9110 for status and fields; RFC 6749, 5 for the content).
--   ReplyFields   status, redirect URI, what the reply asks of the client, content
--   Content       no content, a JSON text, or other bytes
--   content_of    the content of a payload
use Rattle.std.specs.Prelude.{ℕ, List, Option}
use Rattle.tk_message.specs.declared.status_code.StatusCode.{StatusCode}
use Rattle.tk_message.specs.declared.reply.Asks.{Asks}
use Rattle.tk_message.specs.declared.reply.Payload.{Payload}
use Rattle.tk_message.specs.declared.reply.Payload.TheVariants.{Empty, Json, Bytes}

-- no content, a JSON text, or other bytes
pub data Content : Type 0 where
  Nothing : Content
  JsonText : (bytes : List ℕ) → Content
  OtherBytes : (bytes : List ℕ) → Content

-- the status, the URI of a redirect, what the reply asks of the client, and the content
pub record ReplyFields : Type 0 where
  pub status : StatusCode
  pub location : Option (List ℕ)
  pub asks : Asks
  pub content : Content

-- the content of a payload
abbrev pub content_of : Payload → Content
content_of Empty = Nothing
content_of (Json bytes) = JsonText bytes.items
content_of (Bytes bytes) = OtherBytes bytes.items
