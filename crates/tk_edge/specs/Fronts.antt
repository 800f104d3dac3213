-- What the front of a connection's bytes means while more may follow (own; the size of a request is
-- that of RFC 9112, 6.3).
--   Follows        what may follow the bytes
--   IsCut          the meaning of a stream that ends too early
--   request_size   how many bytes a request takes
--   Takes          what was taken of what came, and whether the connection may stay
--   Names          the path that a stream names
--   IsPartial      no request is whole
--   IsFront        what the front of bytes is: a meaning whatever follows, or no whole request
--   IsFrontBy, IsTakenWithin, TakesIn, IsFewer, MayComeBy, NamesIn   parts of that
use Rattle.std.specs.Prelude.{◌≡◌, ◌⊎◌, ⊤, ℕ, ◌+◌, ◌<◌, ◌≤◌, Bool, true, false, List, [], ◌++◌}
use Rattle.std.specs.Prelude.{length, map, Option, None, Result, Ok, Err}
use Rattle.std.specs.declared.alloc.AllocError.{AllocError}
use Rattle.httparse.specs.Grammar.{RequestHead, ReadsRequest, print_request}
use Rattle.httparse.specs.Spans.{name_and_value}
use Rattle.tk_edge.specs.Bounds.{request_limit}
use Rattle.tk_edge.specs.Heads.{HasHead, head_limit, field_limit}
use Rattle.tk_edge.specs.Heard.{IsArrival, MayArrive}
use Rattle.tk_edge.specs.Judged.{judged_of}
use Rattle.tk_edge.specs.Paths.{path_named, path_of}
use Rattle.tk_edge.specs.Staying.{stays_open}
use Rattle.tk_edge.specs.declared.front.Front.{Front}
use Rattle.tk_edge.specs.declared.front.Front.TheVariants.{More, Came}
use Rattle.tk_edge.specs.declared.front.Taken.{Taken}
use Rattle.tk_edge.specs.declared.hear.Arrival.{Arrival}
use Rattle.tk_edge.specs.declared.hear.Arrival.TheVariants.{Silence, Refused, Request, Exchange}
use Rattle.tk_edge.specs.declared.hear.Arrival.TheVariants.{Notice}
use Rattle.tk_edge.specs.declared.judge.Judged.{Judged}
use Rattle.tk_edge.specs.declared.judge.Judged.TheVariants as judged
use Rattle.tk_edge.specs.declared.path.Path.{Path}
use Rattle.tk_edge.specs.declared.reach.Reach.{Reach}
use Rattle.tk_edge.specs.declared.refusal.Refusal.{Refusal}
use Rattle.tk_edge.specs.declared.refusal.Refusal.TheVariants.{NoHead, ShortBody}

-- what may follow the bytes: nothing once the client has ended its side (own)
abbrev pub Follows : Bool → List ℕ → Type 0
Follows over tail = over ≡ true → tail ≡ []

-- the refusal of a stream that ends too early (own)
abbrev pub IsCutBy : Refusal → Type 0
IsCutBy NoHead = ⊤
IsCutBy ShortBody = ⊤
IsCutBy why = ⊥

-- the meaning of a stream that ends too early (own)
abbrev pub IsCut : Arrival → Type 0
IsCut Silence = ⊤
IsCut (Refused why) = IsCutBy why
IsCut (Request request) = ⊥
IsCut (Exchange exchange) = ⊥
IsCut (Notice notice) = ⊥

-- how many bytes of a body a judged head requests; the body of a GET isn't read (RFC 9112, 6.3)
abbrev pub size_of : Judged → ℕ
size_of (judged.Refused why) = 0
size_of (judged.Query endpoint) = 0
size_of judged.Vector = 0
size_of (judged.Notice notice) = 0
size_of (judged.Body posted n) = n

-- how many bytes a request takes: its head, and the body that its length names (RFC 9112, 6.3)
abbrev pub request_size : Reach → RequestHead → ℕ
request_size reach h =
    length (print_request h)
    + size_of (judged_of reach h.method h.target (map name_and_value h.fields))

-- the bytes that were taken are one whole request, behind which the connection may stay as its head
-- says (own)
abbrev pub IsOneRequest : Reach → List ℕ → Taken → Type 0
IsOneRequest reach bytes taken =
    (h : RequestHead) × (rest : List ℕ) × ReadsRequest bytes h rest
    × (taken.size ≡ request_size reach h) × (taken.stays ≡ stays_open reach h)

-- What was taken of what came: the bytes of the request and no more. A refusal takes all bytes and
-- ends the connection, because nothing behind a refused request is read (own).
abbrev pub Takes : Reach → List ℕ → Arrival → Taken → Type 0
Takes reach bytes Silence taken = (taken.size ≡ 0) × (taken.stays ≡ false)
Takes reach bytes (Refused why) taken = (taken.size ≡ length bytes) × (taken.stays ≡ false)
Takes reach bytes (Request request) taken = IsOneRequest reach bytes taken
Takes reach bytes (Exchange exchange) taken = IsOneRequest reach bytes taken
Takes reach bytes (Notice notice) taken = IsOneRequest reach bytes taken

-- The path that a stream names: that of its head, if it is reached. A stream without a head names
-- none (RFC 9112, 3.2).
abbrev pub Names : Reach → List ℕ → Option Path → Type 0
Names reach bytes path =
    (((h : RequestHead) → HasHead bytes head_limit field_limit h → ⊥) × (path ≡ None))
    ⊎ ((h : RequestHead) × HasHead bytes head_limit field_limit h
    × (path ≡ path_named reach (path_of h.target)))

-- No request is whole: more bytes may follow, there are fewer than a request may have, and a stream
-- that ended here would end too early (own).
pub record IsPartial (reach : Reach) (bytes : List ℕ) (over : Bool) : Type 0 where
  pub unended : over ≡ false
  pub fewer : length bytes < request_limit reach
  pub cut : (came : Arrival) → IsArrival reach bytes came → IsCut came

-- what came at the front: it means the same, and names the same path, whatever follows the bytes
-- (own)
pub record HasCome (reach : Reach) (bytes : List ℕ) (over : Bool) (came : Arrival) (taken : Taken)
    : Type 0 where
  pub within : taken.size ≤ length bytes
  pub takes : Takes reach bytes came taken
  pub may : MayArrive reach came
  pub means : (tail : List ℕ) → Follows over tail → IsArrival reach (bytes ++ tail) came
  pub names : (tail : List ℕ) → Follows over tail → Names reach (bytes ++ tail) taken.path

-- what the front of bytes is (own)
abbrev pub IsFront : Reach → List ℕ → Bool → Front → Type 0
IsFront reach bytes over More = IsPartial reach bytes over
IsFront reach bytes over (Came came taken) = HasCome reach bytes over came taken

-- the front by the meaning of the bytes with what follows (own)
abbrev pub IsFrontBy : Bool → (List ℕ → Arrival) → Front → Type 0
IsFrontBy over meaning More = (over ≡ false) × (meaning [] ≡ Refused ShortBody)
IsFrontBy over meaning (Came came taken) =
    (tail : List ℕ) → Follows over tail → came ≡ meaning tail

-- what came takes at most the given number of bytes (own)
abbrev pub IsTakenWithin : ℕ → Front → Type 0
IsTakenWithin most More = ⊤
IsTakenWithin most (Came came taken) = taken.size ≤ most

-- what came takes its bytes and no more (own)
abbrev pub TakesIn : Reach → List ℕ → Front → Type 0
TakesIn reach bytes More = ⊤
TakesIn reach bytes (Came came taken) = Takes reach bytes came taken

-- if no request is whole, the bytes are fewer than the limit (own)
abbrev pub IsFewer : ℕ → ℕ → Front → Type 0
IsFewer many limit More = many < limit
IsFewer many limit (Came came taken) = ⊤

-- an exchange comes only if all paths are served, and a notice only if that is (own)
abbrev pub MayComeBy : Reach → Front → Type 0
MayComeBy reach More = ⊤
MayComeBy reach (Came came taken) = MayArrive reach came

-- what came names this path (own)
abbrev pub NamesIn : Option Path → Front → Type 0
NamesIn path More = ⊤
NamesIn path (Came came taken) = taken.path ≡ path

-- the front of a whole request, unless memory ran out for it (own)
abbrev pub front_of : Result Arrival AllocError → Taken → Result Front AllocError
front_of (Ok came) taken = Ok (Came came taken)
front_of (Err error) taken = Err error
