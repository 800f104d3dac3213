-- What a head requests, or the first rule that it breaks. The cases in their order:
--   UnknownPath      no service that is reached has the path (RFC 9110, 15.5.5)
--   WrongMethod      the path has other methods (RFC 9110, 15.5.6)
--   DuplicateField   a field is repeated that may be given only once (own; RFC 9110, 5.3)
--   LengthRequired   the body is in chunks, or has no length (RFC 9110, 15.5.12)
--   MalformedLength  the length isn't one or more digits (RFC 9110, 8.6)
--   TooLarge         the length is above the limit (RFC 9110, 15.5.14)
--   WrongType        the type of a form's body isn't a form's (RFC 6749, 4.1.3)
--   ShortBody        the stream ends before the body does (RFC 9112, 8); specs/Heard has this case
-- The key definition is judged_of.
use Rattle.std.specs.Prelude.{◌≡◌, ⊤, ℕ, ◌≤◌, Bool, true, List, [], ◌∷◌, Option, None, Some}
use Rattle.std.specs.Prelude.{if◌then◌else◌}
use Rattle.tk_format.specs.Numerals.{numeral_up_to}
use Rattle.tk_format.specs.declared.numeral.Numeral.{Numeral}
use Rattle.tk_format.specs.declared.numeral.Numeral.TheVariants.{Malformed, Above, Within}
use Rattle.tk_params.specs.Params.{Pairs}
use Rattle.tk_message.specs.declared.error_code.ErrorCode.{ErrorCode}
use Rattle.tk_message.specs.declared.error_code.ErrorCode.TheVariants as code
use Rattle.tk_edge.specs.HeadFields.{length_in, type_in, coding_in, has_repeats}
use Rattle.tk_edge.specs.MediaType.{is_form}
use Rattle.tk_edge.specs.Paths.{path_of, query_of, path_named, method_named, service_at}
use Rattle.tk_edge.specs.Paths.{allowed_at, has_metrics}
use Rattle.tk_edge.specs.Pulls.{pages_by}
use Rattle.tk_edge.specs.declared.path.Path.{Path}
use Rattle.tk_edge.specs.declared.path.Method.{Method}
use Rattle.tk_edge.specs.declared.path.Posted.{Posted}
use Rattle.tk_edge.specs.declared.path.Posted.TheVariants.{Form, Pull, Push}
use Rattle.tk_edge.specs.declared.path.Service.{Service}
use Rattle.tk_edge.specs.declared.path.Service.TheVariants as service
use Rattle.tk_edge.specs.declared.notice.Notice.{Notice}
use Rattle.tk_edge.specs.declared.notice.Notice.TheVariants.{Discovery, Health, Metrics}
use Rattle.tk_edge.specs.declared.reach.Reach.{Reach}
use Rattle.tk_edge.specs.declared.reach.PathSet.TheVariants.{All}
use Rattle.tk_edge.specs.declared.refusal.Refusal.{Refusal}
use Rattle.tk_edge.specs.declared.refusal.Refusal.TheVariants.{Sealed, UnknownPath, WrongMethod}
use Rattle.tk_edge.specs.declared.refusal.Refusal.TheVariants.{DuplicateField, LengthRequired}
use Rattle.tk_edge.specs.declared.refusal.Refusal.TheVariants.{MalformedLength, TooLarge, WrongType}
use Rattle.tk_edge.specs.declared.judge.Judged.{Judged}
use Rattle.tk_edge.specs.declared.judge.Judged.TheVariants.{Refused, Query, Vector, Body}
use Rattle.tk_edge.specs.declared.judge.Judged.TheVariants as judged

-- the name of a refusal's error (own)
abbrev pub code_of : Refusal → ErrorCode
code_of Sealed = code.TemporarilyUnavailable
code_of UnknownPath = code.NotFound
code_of (WrongMethod path) = code.MethodNotAllowed
code_of LengthRequired = code.LengthRequired
code_of TooLarge = code.TooLarge
code_of why = code.BadRequest

-- the methods that a refusal names, if it names any (RFC 9110, 10.2.1)
abbrev pub allowed_by : Refusal → Option (List ℕ)
allowed_by (WrongMethod path) = Some (allowed_at path)
allowed_by why = None

-- the limit of a body in bytes (own): of a form, or of an exchange, which has room for a bundle of
-- the 128 largest facts
abbrev pub limit_of : Posted → ℕ
limit_of (Form endpoint) = 16384
limit_of (Pull pages) = 1049600
limit_of Push = 1049600

-- the type fits: a form's type may be absent, and an exchange may have any type (RFC 6749, 4.1.3;
-- own)
abbrev pub fits_type : Posted → List (List ℕ) → Bool
fits_type (Form endpoint) [] = true
fits_type (Form endpoint) (value ∷ more) = is_form value
fits_type (Pull pages) kinds = true
fits_type Push kinds = true

-- the judgement of a body by its length, then its type (RFC 9110, 8.6 and 15.5.14)
abbrev pub sized : Posted → Numeral → List (List ℕ) → Judged
sized posted Malformed kinds = Refused MalformedLength
sized posted Above kinds = Refused TooLarge
sized posted (Within n) kinds = if fits_type posted kinds then Body posted n else Refused WrongType

-- the judgement of a request with a body, by its values of Transfer-Encoding, Content-Length and
-- Content-Type (RFC 9110, 15.5.12)
abbrev pub with_body : Posted → List (List ℕ) → List (List ℕ) → List (List ℕ) → Judged
with_body posted (coding ∷ codings) lengths kinds = Refused LengthRequired
with_body posted [] [] kinds = Refused LengthRequired
with_body posted [] (text ∷ more) kinds = sized posted (numeral_up_to (limit_of posted) text) kinds

-- the judgement of a request for a service; the body of a GET isn't read (own)
abbrev pub asked : Service → Pairs → Judged
asked (service.Query endpoint) pairs = Query endpoint
asked service.Vector pairs = Vector
asked (service.Notice notice) pairs = judged.Notice notice
asked (service.Body posted) pairs =
    with_body posted (coding_in pairs) (length_in pairs) (type_in pairs)

-- the judgement from the method on: `WrongMethod`, then `DuplicateField` (RFC 9110, 15.5.6 and 5.3)
abbrev pub at_service : Path → Option Service → Pairs → Judged
at_service path None pairs = Refused (WrongMethod path)
at_service path (Some s) pairs = if has_repeats pairs then Refused DuplicateField else asked s pairs

-- the judgement from the path on, which begins with `UnknownPath` (RFC 9110, 15.5.5)
abbrev pub at_path : Option Path → Option Method → Pairs → Judged
at_path None method pairs = Refused UnknownPath
at_path (Some path) method pairs = at_service path (service_at path method) pairs

-- the judgement by a query: it names the pages of a pull, and changes nothing else (own)
abbrev pub by_query : List ℕ → Judged → Judged
by_query query (Body (Pull pages) n) = Body (Pull (pages_by query)) n
by_query query other = other

-- the judgement of a head, by which paths are served (RFC 9110, 15.5)
abbrev pub judged_of : Reach → List ℕ → List ℕ → Pairs → Judged
judged_of reach method target pairs =
    by_query (query_of target)
    (at_path (path_named reach (path_of target)) (method_named method) pairs)

-- an exchange is a use of a body only if all paths are served (own)
abbrev pub MayPost : Reach → Posted → Type 0
MayPost reach (Form endpoint) = ⊤
MayPost reach (Pull pages) = reach.paths ≡ All
MayPost reach Push = reach.paths ≡ All

-- a notice is given only over a connection where it is served (own)
abbrev pub MayTell : Reach → Notice → Type 0
MayTell reach Discovery = reach.discovery ≡ true
MayTell reach Health = reach.health ≡ true
MayTell reach Metrics = has_metrics reach ≡ true

-- a judgement requests an exchange only if all paths are served, a notice only if that is, and a
-- body within its limit (own)
abbrev pub MayAsk : Reach → Judged → Type 0
MayAsk reach (Refused why) = ⊤
MayAsk reach (Query endpoint) = ⊤
MayAsk reach Vector = reach.paths ≡ All
MayAsk reach (judged.Notice notice) = MayTell reach notice
MayAsk reach (Body posted n) = MayPost reach posted × (n ≤ limit_of posted)
