-- Replies (RFC 6749, 4.1.2 for redirects, 5.2 for errors; RFC 7662, 2.2, for introspection; RFC
-- 7009, 2.2, for a status alone; bytes are own).
--   asks_by          what a status asks of the client
--   json_reply       a status and a JSON body
--   error_reply      an error, by its code
--   later_reply      a request that may be sent again later
--   redirect_reply   a redirect to the client
--   inactive_reply   a token that is not active
--   empty_reply      a status alone
--   bytes_reply      other bytes, such as a bundle
use Rattle.std.specs.Prelude.{ℕ, List, [], ◌∷◌, codes, Option, Some, None}
use Rattle.serde_json.specs.Data.{Data}
use Rattle.serde_json.specs.Written.{compact_text}
use Rattle.tk_match.specs.ReplyUri.{reply_of}
use Rattle.tk_message.specs.declared.status_code.StatusCode.{StatusCode}
use Rattle.tk_message.specs.declared.status_code.StatusCode.TheVariants.{Ok, Found, Unauthorized}
use Rattle.tk_message.specs.declared.error_code.ErrorCode.{ErrorCode}
use Rattle.tk_message.specs.declared.error_code.ErrorCode.TheVariants.{TemporarilyUnavailable}
use Rattle.tk_message.specs.declared.reply.Asks.{Asks}
use Rattle.tk_message.specs.declared.reply.Asks.TheVariants as asks
use Rattle.tk_message.specs.ErrorCode.{error_status, error_name}
use Rattle.tk_message.specs.Bodies.{error_body, inactive_body}
use Rattle.tk_message.specs.ReplyFields.{ReplyFields, Nothing, JsonText, OtherBytes}

-- what a reply with the status asks of the client: every 401 asks for credentials (RFC 6749, 5.2)
abbrev pub asks_by : StatusCode → Asks
asks_by Unauthorized = asks.Credentials
asks_by status = asks.Nothing

-- a status and the body's text, without spaces and without a redirect (RFC 6749, 5.1 and 5.2; own)
abbrev pub json_reply : StatusCode → Data → ReplyFields
json_reply status body = record {
  status = status;
  location = None;
  asks = asks_by status;
  content = JsonText (compact_text body);
}

-- the reply for an error: its status and its name (RFC 6749, 5.2)
abbrev pub error_reply : ErrorCode → ReplyFields
error_reply code = json_reply (error_status code) (error_body (error_name code))

-- the reply for a request that may be sent again later (RFC 7009, 2.2.1)
abbrev pub later_reply : ReplyFields
later_reply = record (error_reply TemporarilyUnavailable) { asks = asks.Retry }

-- a pair, and the state behind it, if there is one (RFC 6749, 4.1.2 and 4.1.2.1)
abbrev pub with_state : List ℕ → List ℕ → Option (List ℕ) → List (List ℕ × List ℕ)
with_state name value None = (name, value) ∷ []
with_state name value (Some state) = (name, value) ∷ (codes "state", state) ∷ []

-- a redirect to the URI with a pair and the state in its query (RFC 6749, 4.1.2 and 4.1.2.1)
abbrev pub redirect_reply : List ℕ → List ℕ → List ℕ → Option (List ℕ) → ReplyFields
redirect_reply uri name value state = record {
  status = Found;
  location = Some (reply_of uri (with_state name value state));
  asks = asks.Nothing;
  content = Nothing;
}

-- the reply for a token that is not active (RFC 7662, 2.2)
abbrev pub inactive_reply : ReplyFields
inactive_reply = json_reply Ok inactive_body

-- a status without content (RFC 7009, 2.2)
abbrev pub empty_reply : StatusCode → ReplyFields
empty_reply status = record {
  status = status;
  location = None;
  asks = asks_by status;
  content = Nothing;
}

-- the reply with bytes that are no text, such as a bundle (own)
abbrev pub bytes_reply : List ℕ → ReplyFields
bytes_reply bytes = record {
  status = Ok;
  location = None;
  asks = asks.Nothing;
  content = OtherBytes bytes;
}
