-- The meaning of a stream of bytes that then ends (RFC 9112, 3, 5 and 6; the limits, `X-Subject`,
-- `X-Operator`, exchanges between regions and notices are own).
--   request_at   the request for an endpoint, with its form and the fields that a decision reads
--   arrival_of   the meaning of a head and the bytes behind it; the last refusal is `ShortBody`
--   IsArrival    the meaning of a stream, by which paths are served
--   IsHeard      the meaning of a stream if the paths of clients and of operators are served
--   Arrives      what may arrive over a connection, whose bytes may be unknown
--   MayArrive    what may arrive whatever the bytes are
use Rattle.std.specs.Prelude.{◌≡◌, ◌⊎◌, ⊤, ℕ, nat_le, List, [], ◌∷◌, length}
use Rattle.std.specs.Prelude.{take, map, Option, Some, if◌then◌else◌}
use Rattle.httparse.specs.Grammar.{RequestHead, ReadsRequest}
use Rattle.httparse.specs.Spans.{name_and_value}
use Rattle.tk_params.specs.Params.{Pairs, only, params_of}
use Rattle.tk_message.specs.RequestFields.{RequestFields}
use Rattle.tk_message.specs.declared.request.Endpoint.{Endpoint}
use Rattle.tk_edge.specs.HeadFields.{authorization_in, subject_in, operator_in}
use Rattle.tk_edge.specs.Heads.{HasHead, head_limit, field_limit}
use Rattle.tk_edge.specs.Judged.{MayTell, judged_of}
use Rattle.tk_edge.specs.Paths.{plain, query_of}
use Rattle.tk_edge.specs.declared.exchange.Exchange.TheVariants as exchange
use Rattle.tk_edge.specs.declared.hear.Arrival.{Arrival}
use Rattle.tk_edge.specs.declared.hear.Arrival.TheVariants.{Silence, Refused, Request, Exchange}
use Rattle.tk_edge.specs.declared.hear.Arrival.TheVariants.{Notice}
use Rattle.tk_edge.specs.declared.judge.Judged.{Judged}
use Rattle.tk_edge.specs.declared.judge.Judged.TheVariants as judged
use Rattle.tk_edge.specs.declared.path.Posted.{Posted}
use Rattle.tk_edge.specs.declared.path.Posted.TheVariants.{Form, Pull, Push}
use Rattle.tk_edge.specs.declared.reach.Reach.{Reach}
use Rattle.tk_edge.specs.declared.reach.PathSet.TheVariants.{Admin, All}
use Rattle.tk_edge.specs.declared.refusal.Refusal.TheVariants.{NoHead, ShortBody}

-- the request for an endpoint, with its form and the fields that a decision reads (own)
abbrev pub request_at : Endpoint → List ℕ → Pairs → RequestFields
request_at endpoint form pairs = record {
  endpoint = endpoint;
  params = params_of form;
  authorization = only (authorization_in pairs);
  subject = only (subject_in pairs);
  operator = only (operator_in pairs);
}

-- the meaning of a whole body, by its use (own)
abbrev pub posted_to : Posted → List ℕ → Pairs → Arrival
posted_to (Form endpoint) body pairs = Request (request_at endpoint body pairs)
posted_to (Pull pages) body pairs = Exchange (exchange.Pull pages body)
posted_to Push body pairs = Exchange (exchange.Push body)

-- the meaning of a head that was judged: the query of a GET, or the body of a POST (own)
abbrev pub arrival_by : List ℕ → Pairs → List ℕ → Judged → Arrival
arrival_by target pairs rest (judged.Refused why) = Refused why
arrival_by target pairs rest (judged.Query endpoint) =
    Request (request_at endpoint (query_of target) pairs)
arrival_by target pairs rest judged.Vector = Exchange exchange.Vector
arrival_by target pairs rest (judged.Notice notice) = Notice notice
arrival_by target pairs rest (judged.Body posted n) =
    if nat_le n (length rest) then posted_to posted (take n rest) pairs else Refused ShortBody

-- the meaning of a head and the bytes behind it (RFC 9112, 6)
abbrev pub arrival_of : Reach → RequestHead → List ℕ → Arrival
arrival_of reach h rest =
    arrival_by h.target (map name_and_value h.fields) rest
    (judged_of reach h.method h.target (map name_and_value h.fields))

-- the meaning of a stream without a head: silence if it is empty, `NoHead` otherwise (own)
abbrev pub headless : List ℕ → Arrival
headless [] = Silence
headless (b ∷ bytes) = Refused NoHead

-- The meaning of a stream, by which paths are served. At most one beginning of a stream is a head,
-- so that the meaning is unique (RFC 9112, 3, 5 and 6; own).
abbrev pub IsArrival : Reach → List ℕ → Arrival → Type 0
IsArrival reach bytes came =
    (((h : RequestHead) → HasHead bytes head_limit field_limit h → ⊥) × (came ≡ headless bytes))
    ⊎ ((h : RequestHead) × (rest : List ℕ) × ReadsRequest bytes h rest
    × HasHead bytes head_limit field_limit h
    × (came ≡ arrival_of reach h rest))

-- the meaning of a stream if the paths of clients and of operators are served, and no others (own)
abbrev pub IsHeard : List ℕ → Arrival → Type 0
IsHeard bytes came = IsArrival (plain Admin) bytes came

-- whatever the bytes are, an exchange arrives only if all paths are served, and a notice is
-- requested only if that is (own)
abbrev pub MayArrive : Reach → Arrival → Type 0
MayArrive reach Silence = ⊤
MayArrive reach (Refused why) = ⊤
MayArrive reach (Request request) = ⊤
MayArrive reach (Exchange asked) = reach.paths ≡ All
MayArrive reach (Notice notice) = MayTell reach notice

-- what may arrive over a connection: the meaning of its bytes, if these are known (own)
abbrev pub Arrives : Reach → Option (List ℕ) → Arrival → Type 0
Arrives reach known came =
    MayArrive reach came × ((bytes : List ℕ) → known ≡ Some bytes → IsArrival reach bytes came)
