-- The bytes of a reply (RFC 9112, 4; RFC 9110, 15 for the reasons; RFC 6749, 5.1 for what may not
-- be stored, 5.2 for the challenge; RFC 9110, 10.2.3 for the time of a retry).
--   reason_of       the reason phrase of a status
--   body_of         the bytes of a reply's body
--   reply_bytes     the whole reply, with the methods allowed, if it names them
--   metrics_bytes   the whole reply with metrics
use Rattle.std.specs.Prelude.{ℕ, List, [], ◌∷◌, length, codes, decimal, Option}
use Rattle.std.specs.List.{concat}
use Rattle.tk_put.specs.Put.{field_line}
use Rattle.tk_message.specs.ReplyFields.{ReplyFields, Content, Nothing, JsonText, OtherBytes}
use Rattle.tk_message.specs.StatusCode.{status_number}
use Rattle.tk_message.specs.declared.reply.Asks.{Asks}
use Rattle.tk_message.specs.declared.reply.Asks.TheVariants as asks
use Rattle.tk_message.specs.declared.status_code.StatusCode.{StatusCode}
use Rattle.tk_message.specs.declared.status_code.StatusCode.TheVariants.{
  Ok,
  Created,
  Found,
  BadRequest,
  Unauthorized,
  NotFound,
  MethodNotAllowed,
  Conflict,
  LengthRequired,
  ContentTooLarge,
  ServiceUnavailable,
}

-- the reason phrase of a status
abbrev pub reason_of : StatusCode → List ℕ
reason_of Ok = codes "OK"
reason_of Created = codes "Created"
reason_of Found = codes "Found"
reason_of BadRequest = codes "Bad Request"
reason_of Unauthorized = codes "Unauthorized"
reason_of NotFound = codes "Not Found"
reason_of MethodNotAllowed = codes "Method Not Allowed"
reason_of Conflict = codes "Conflict"
reason_of LengthRequired = codes "Length Required"
reason_of ContentTooLarge = codes "Content Too Large"
reason_of ServiceUnavailable = codes "Service Unavailable"

-- the bytes of a reply's body
abbrev pub body_of : Content → List ℕ
body_of Nothing = []
body_of (JsonText bytes) = bytes
body_of (OtherBytes bytes) = bytes

-- a line that is left out if the body is empty
abbrev pub where_any : List ℕ → List ℕ → List ℕ
where_any [] line = []
where_any (b ∷ body) line = line

-- the line of Content-Type, by the kind of body
abbrev pub type_line : Content → List ℕ
type_line Nothing = []
type_line (JsonText bytes) = where_any bytes (codes "Content-Type: application/json\r\n")
type_line (OtherBytes bytes) = where_any bytes (codes "Content-Type: application/octet-stream\r\n")

-- the line of what the reply asks of the client: the challenge, or the seconds until a retry (own:
-- ten, in which a carrier brings the facts of other regions)
abbrev pub asks_line : Asks → List ℕ
asks_line asks.Nothing = []
asks_line asks.Credentials = codes "WWW-Authenticate: Basic realm=\"tokend\"\r\n"
asks_line asks.Retry = codes "Retry-After: 10\r\n"

-- the parts of a reply, joined in their order
abbrev pub assembly : List ℕ → List ℕ → List ℕ → List ℕ → List ℕ → List ℕ → List ℕ → List ℕ → List ℕ
assembly number reason type_of_body len asks_of_client location allow body = concat (
    codes "HTTP/1.1 " ∷ number ∷ codes " " ∷ reason ∷ codes "\r\n" ∷ type_of_body
    ∷ codes "Content-Length: " ∷ len
    ∷ codes "\r\nCache-Control: no-store\r\nPragma: no-cache\r\nConnection: close\r\n"
    ∷ asks_of_client ∷ location ∷ allow ∷ codes "\r\n" ∷ body ∷ [])

-- the whole reply, with the methods allowed, if it names them
abbrev pub reply_bytes : ReplyFields → Option (List ℕ) → List ℕ
reply_bytes reply allowed =
    let body = body_of reply.content in
    assembly (decimal (status_number reply.status)) (reason_of reply.status)
    (type_line reply.content) (decimal (length body))
    (asks_line reply.asks) (field_line (codes "Location: ") reply.location)
    (field_line (codes "Allow: ") allowed) body

-- the whole reply with a text in the text format of Prometheus, version 0.0.4 (own)
abbrev pub metrics_bytes : List ℕ → List ℕ
metrics_bytes text =
    assembly (codes "200") (reason_of Ok) (codes "Content-Type: text/plain; version=0.0.4\r\n")
    (decimal (length text)) [] [] [] text
