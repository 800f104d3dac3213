-- The meaning of a front doesn't depend on what follows. Key results:
--   front_heard     a head at the front, with what was read of the bytes behind it
--   full_none       as many bytes as a head may have, without a head
--   error_none      bytes that can't become a head
--   long_none       a head that is too long
--   front_arrives   what came at the front arrives in a stream of these bytes and what follows
--   size_at         the size of a request, by the parts of its head
--   stays_at        whether the connection may stay behind it, by the parts of its head
--   named_at        the path that it names, by the parts of its head
--   some_taken      a request behind which a connection stays took some bytes
use Rattle.std.proofs.Common.{◌≡◌, ℕ, ◌+◌, ◌-◌, ◌<◌, ◌≤◌, Bool, true, false, List, [], ◌∷◌, ◌++◌}
use Rattle.std.proofs.Common.{length, take, drop, map, Option, None, Some, Result, Ok, Err, IfOk}
use Rattle.std.proofs.Common.{nat_lt}
use Rattle.std.proofs.Common.{inl, inr, refl, sym, ap, ◌∙◌, subst, arith, append-nil, length-take}
use Rattle.std.proofs.lemmas.Bool.Decides.{nat_tests}
use Rattle.std.specs.declared.alloc.AllocError.{AllocError}
use Rattle.std.proofs.lemmas.List.{length-drop, length-map, take_rest}
use Rattle.httparse.specs.Grammar.{RequestHead, print_request, HasNoRequest}
use Rattle.httparse.specs.Grammar.{IsRequestHead}
use Rattle.httparse.specs.Spans.{IsRequestAt, IsRequestWithin, RequestOverflows, header_bytes}
use Rattle.httparse.specs.Spans.{name_and_value}
use Rattle.httparse.specs.declared.spans.HeaderSpan.{HeaderSpan}
use Rattle.httparse.specs.declared.spans.RequestSpans.{RequestSpans}
use Rattle.httparse.proofs.GrammarLemmas.{ReadsRequest-append, request_unique}
use Rattle.tk_params.specs.Params.{Pairs}
use Rattle.tk_edge.specs.Bounds.{request_limit}
use Rattle.tk_edge.specs.Fronts.{Follows, HasCome, IsCut, IsFewer, IsFront, IsFrontBy, IsOneRequest}
use Rattle.tk_edge.specs.Fronts.{IsTakenWithin, MayComeBy, Names, NamesIn}
use Rattle.tk_edge.specs.Fronts.{Takes, TakesIn, front_of, request_size, size_of}
use Rattle.tk_edge.specs.Heads.{HasHead, head_limit, field_limit}
use Rattle.tk_edge.specs.Heard.{Arrives, IsArrival, MayArrive, arrival_of, headless}
use Rattle.tk_edge.specs.Heard.{posted_to}
use Rattle.tk_edge.specs.Judged.{judged_of}
use Rattle.tk_edge.specs.Paths.{path_named, path_of}
use Rattle.tk_edge.specs.Staying.{stays_by, stays_open}
use Rattle.tk_edge.specs.declared.front.Front.{Front}
use Rattle.tk_edge.specs.declared.front.Front.TheVariants.{More, Came}
use Rattle.tk_edge.specs.declared.front.Taken.{Taken}
use Rattle.tk_edge.specs.declared.hear.Arrival.{Arrival}
use Rattle.tk_edge.specs.declared.hear.Arrival.TheVariants.{Silence, Refused, Request}
use Rattle.tk_edge.specs.declared.hear.Arrival.TheVariants as arrival
use Rattle.tk_message.specs.RequestFields.{RequestFields}
use Rattle.tk_edge.specs.declared.judge.Judged.{Judged}
use Rattle.tk_edge.specs.declared.path.Path.{Path}
use Rattle.tk_edge.specs.declared.path.Posted.{Posted}
use Rattle.tk_edge.specs.declared.path.Posted.TheVariants.{Form, Pull, Push}
use Rattle.tk_edge.specs.declared.reach.Reach.{Reach}
use Rattle.tk_edge.specs.declared.refusal.Refusal.TheVariants.{NoHead, ShortBody}
use Rattle.tk_edge.proofs.HeadLaws.{no_head_of_none, no_short_head}
use Rattle.tk_edge.proofs.StreamLaws.{has_one_meaning}

-- a stream without a head ends too early
cut_headless : (bytes : List ℕ) → IsCut (headless bytes)
cut_headless [] = tt
cut_headless (b ∷ bytes) = tt

-- bytes without a head end too early
pub partial_cut : (reach : Reach) (bytes : List ℕ) → HasNoRequest bytes
    → (came : Arrival) → IsArrival reach bytes came → IsCut came
partial_cut reach bytes none came (inl (n, e)) = subst IsCut (sym e) (cut_headless bytes)
partial_cut reach bytes none came (inr (h, rest, reads, has, e)) = absurd (none h rest reads)

-- no bytes, behind which nothing follows, are silence
pub silent_front : (reach : Reach) (tail : List ℕ) → tail ≡ [] → IsArrival reach tail Silence
silent_front reach tail e =
    subst (λ (x : List ℕ). IsArrival reach x Silence) (sym e)
    (inl (λ h has. no_head_of_none h has.0.0 has.0.1, refl))

-- no bytes, behind which nothing follows, name no path
silent_names : (reach : Reach) (tail : List ℕ) → tail ≡ [] → Names reach tail None
silent_names reach tail e =
    subst (λ (x : List ℕ). Names reach x None) (sym e)
    (inl (λ h has. no_head_of_none h has.0.0 has.0.1, refl))

-- no bytes, behind which nothing follows, come as silence
pub silent_comes : (reach : Reach) (over : Bool) → over ≡ true
    → HasCome reach [] over Silence (record { size = 0; stays = false; path = None })
silent_comes reach over is = record {
  within = omega arith;
  takes = (refl, refl);
  may = tt;
  means = λ tail follows. silent_front reach tail (follows is);
  names = λ tail follows. silent_names reach tail (follows is);
}

-- bytes that have no head, whatever follows
pub headless_arrives : (reach : Reach) (bytes tail : List ℕ) → 0 < length bytes
    → ((h : RequestHead) → HasHead (bytes ++ tail) head_limit field_limit h → ⊥)
    → IsArrival reach (bytes ++ tail) (Refused NoHead)
headless_arrives reach [] tail some none = absurd (omega arith)
headless_arrives reach (b ∷ bytes) tail some none = inl (none, refl)

-- bytes that have no head, whatever follows, are refused, and all of them are taken
pub headless_comes : (reach : Reach) (bytes : List ℕ) (over : Bool)
    → 0 < length bytes
    → ((tail : List ℕ) → Follows over tail
    → (h : RequestHead) → HasHead (bytes ++ tail) head_limit field_limit h → ⊥)
    → HasCome reach bytes over (Refused NoHead)
    (record { size = length bytes; stays = false; path = None })
headless_comes reach bytes over some none = record {
  within = omega arith;
  takes = (refl, refl);
  may = tt;
  means = λ tail follows. headless_arrives reach bytes tail some (none tail follows);
  names = λ tail follows. inl (none tail follows, refl);
}

-- at the limit of a head, bytes without one get none from what follows
pub full_none : (bytes tail : List ℕ) → HasNoRequest bytes → head_limit ≤ length bytes
    → (h : RequestHead) → HasHead (bytes ++ tail) head_limit field_limit h → ⊥
full_none bytes tail none full =
    no_short_head (bytes ++ tail) bytes tail head_limit field_limit refl full none

-- bytes with too many fields get no head from what follows
pub error_none : (bytes tail : List ℕ) → RequestOverflows field_limit bytes
    → (h : RequestHead) → HasHead (bytes ++ tail) head_limit field_limit h → ⊥
error_none bytes tail over h ((rest, reads), short, few) =
    absurd (omega (arith, over tail h rest reads, few))

-- a head that is too long
pub long_none : (bytes tail : List ℕ) (headers : List HeaderSpan) (spans : RequestSpans)
    (k : RequestHead) → IsRequestAt bytes headers spans k → head_limit < spans.len
    → (h : RequestHead) → HasHead (bytes ++ tail) head_limit field_limit h → ⊥
long_none bytes tail headers spans k at long h ((rest, reads), short, few) =
    let known = ReadsRequest-append bytes k (drop spans.len bytes) tail at.reads in
    let same = request_unique (bytes ++ tail) k h (drop spans.len bytes ++ tail) rest known reads in
    let e : length (print_request k) ≡ length (print_request h) =
    ap (λ (x : RequestHead). length (print_request x)) same.0 in
    absurd (omega (arith, at.len, long, short, e))

-- a head at the front is the head of the stream, with what follows
head_of : (bytes tail : List ℕ) (headers : List HeaderSpan) (spans : RequestSpans)
    (h : RequestHead) → IsRequestAt bytes headers spans h
    → spans.len ≤ head_limit → length headers ≡ field_limit
    → HasHead (bytes ++ tail) head_limit field_limit h
head_of bytes tail headers spans h at fits full =
    let count : length (take spans.headers headers) ≡ length h.fields =
    sym (length-map (take spans.headers headers) (header_bytes bytes)) ∙ ap length at.fields
    ∙ length-map h.fields name_and_value in
    let reads = ReadsRequest-append bytes h (drop spans.len bytes) tail at.reads in (
      (drop spans.len bytes ++ tail, reads),
      omega (arith, at.len, fits),
      omega (arith, count, full, length-take spans.headers headers),
    )

-- a head at the front, with what follows
pub head_arrives : (reach : Reach) (bytes tail : List ℕ) (headers : List HeaderSpan)
    (spans : RequestSpans) (h : RequestHead) (came : Arrival)
    → IsRequestWithin bytes headers spans → IsRequestAt bytes headers spans h
    → spans.len ≤ head_limit → length headers ≡ field_limit
    → came ≡ arrival_of reach h (drop spans.len bytes ++ tail)
    → IsArrival reach (bytes ++ tail) came
head_arrives reach bytes tail headers spans h came within at fits full e =
    let reads = ReadsRequest-append bytes h (drop spans.len bytes) tail at.reads in
    inr (h, drop spans.len bytes ++ tail, reads, head_of bytes tail headers spans h at fits full, e)

-- a head at the front, with what was read of the bytes behind it
pub front_heard : {E : Type 0} (reach : Reach) (bytes : List ℕ) (over : Bool)
    (headers : List HeaderSpan) (spans : RequestSpans) (h : RequestHead) (result : Result Front E)
    → IsRequestWithin bytes headers spans → IsRequestAt bytes headers spans h
    → spans.len ≤ head_limit → length headers ≡ field_limit
    → IfOk result (IsFrontBy over (λ tail. arrival_of reach h (drop spans.len bytes ++ tail)))
    → IfOk result (IsTakenWithin (length bytes)) → IfOk result (TakesIn reach bytes)
    → IfOk result (IsFewer (length bytes) (request_limit reach)) → IfOk result (MayComeBy reach)
    → IfOk result (NamesIn (path_named reach (path_of h.target)))
    → IfOk result (IsFront reach bytes over)
front_heard reach bytes over headers spans h (Ok More) within at fits full (open_yet, cut) taken
    takes fewer may names =
    let whole = head_arrives reach bytes [] headers spans h (Refused ShortBody) within at fits full
    (sym cut) in
    let ends =
    subst (λ (x : List ℕ). IsArrival reach x (Refused ShortBody)) (append-nil bytes) whole in
    record {
      unended = open_yet;
      fewer = fewer;
      cut =
          λ came is. subst IsCut (has_one_meaning reach bytes (Refused ShortBody) came ends is) tt;
    }
front_heard reach bytes over headers spans h (Ok (Came came count)) within at fits full by taken
    takes fewer may names = record {
      within = taken;
      takes = takes;
      may = may;
      means = λ tail follows. head_arrives reach bytes tail headers spans h came within at fits full
          (by tail follows);
      names = λ tail follows. inr (h, head_of bytes tail headers spans h at fits full, names);
    }
front_heard reach bytes over headers spans h (Err e) within at fits full by taken takes fewer may
    names = tt

-- a whole request without a body, whatever follows it
pub query_whole : (over : Bool) (taken : Taken) (request : RequestFields) (f : List ℕ → Arrival)
    (result : Result Arrival AllocError) → ((tail : List ℕ) → Request request ≡ f tail)
    → IfOk result (λ came. came ≡ Request request)
    → IfOk (front_of result taken) (IsFrontBy over f)
query_whole over taken request f (Ok came) same e = λ tail follows. e ∙ same tail
query_whole over taken request f (Err error) same e = tt

-- the same front, by another name of its meaning
pub same_front : {E : Type 0} (over : Bool) (f g : List ℕ → Arrival) (result : Result Front E)
    → ((tail : List ℕ) → f tail ≡ g tail) → IfOk result (IsFrontBy over f)
    → IfOk result (IsFrontBy over g)
same_front over f g (Ok More) e (open_yet, cut) = (open_yet, sym (e []) ∙ cut)
same_front over f g (Ok (Came came taken)) e by = λ tail follows. by tail follows ∙ e tail
same_front over f g (Err error) e by = tt

-- what comes of a whole request names the path of its head
pub names_come : (path : Option Path) (result : Result Arrival AllocError) (taken : Taken)
    → taken.path ≡ path → IfOk (front_of result taken) (NamesIn path)
names_come path (Ok came) taken is = is
names_come path (Err error) taken is = tt

-- what comes of a whole request
pub may_come : (reach : Reach) (result : Result Arrival AllocError) (taken : Taken)
    → IfOk result (MayArrive reach) → IfOk (front_of result taken) (MayComeBy reach)
may_come reach (Ok came) taken may = may
may_come reach (Err error) taken may = tt

-- a list of no length is empty
pub none_of : (xs : List ℕ) → length xs ≡ 0 → xs ≡ []
none_of [] e = refl
none_of (x ∷ xs) e = absurd (omega (arith, e))

-- what came at the front arrives in a stream of these bytes and what follows
pub front_arrives : (reach : Reach) (over : Bool) (bytes : List ℕ) (came : Arrival) (taken : Taken)
    → HasCome reach bytes over came taken → (tail : List ℕ) → Follows over tail
    → Arrives reach (Some (bytes ++ tail)) came
front_arrives reach over bytes came taken front tail follows = (
  front.may,
  λ known is.
      subst (λ (x : List ℕ). IsArrival reach x came) (some_inj is) (front.means tail follows),
)
  where
    some_inj : {a b : List ℕ} → Some a ≡ Some b → a ≡ b
    some_inj e = cc

-- the bytes from a place on are all but those before it
pub rest_is_all : (bytes : List ℕ) (len : ℕ) → len ≤ length bytes
    → length bytes ≡ len + length (take (length bytes - len) (drop len bytes))
rest_is_all bytes len fits =
    let long : length (take (length bytes - len) (drop len bytes)) ≡ length bytes - len =
    ap length (take_rest bytes len) ∙ length-drop len bytes in
    omega (arith, long, fits)

-- the size of a request, by the parts of its head and what was judged of them
pub size_at : (reach : Reach) (h : RequestHead) (len : ℕ) (method target : List ℕ) (judged : Judged)
    → len ≡ length (print_request h) → method ≡ h.method → target ≡ h.target
    → judged ≡ judged_of reach method target (map name_and_value h.fields)
    → len + size_of judged ≡ request_size reach h
size_at reach h len method target judged el em et ej =
    let pairs = map name_and_value h.fields in
    ap (λ n. n + size_of judged) el
    ∙ ap (λ j. length (print_request h) + size_of j)
    (ej ∙ ap (λ m. judged_of reach m target pairs) em
    ∙ ap (λ t. judged_of reach h.method t pairs) et)

-- whether the connection may stay behind a request, by the parts of its head and what was judged
pub stays_at : (reach : Reach) (h : RequestHead) (minor : ℕ) (method target : List ℕ)
    (pairs : Pairs)
    (judged : Judged) (stays : Bool) → minor ≡ h.minor → method ≡ h.method → target ≡ h.target
    → pairs ≡ map name_and_value h.fields → judged ≡ judged_of reach method target pairs
    → stays ≡ stays_by minor pairs judged → stays ≡ stays_open reach h
stays_at reach h minor method target pairs judged stays en em et ep ej es =
    es ∙ ap (stays_by minor pairs) ej ∙ rw (en, em, et, ep) refl

-- the path that a request names, by the parts of its head
pub named_at : (reach : Reach) (h : RequestHead) (target text : List ℕ) (path : Option Path)
    → target ≡ h.target → text ≡ path_of target → path ≡ path_named reach text
    → path ≡ path_named reach (path_of h.target)
named_at reach h target text path et ex ep = ep ∙ ap (path_named reach) (ex ∙ ap path_of et)

-- a whole request takes its size
pub request_takes : (reach : Reach) (bytes : List ℕ) (taken : Taken) (request : RequestFields)
    (result : Result Arrival AllocError) → IsOneRequest reach bytes taken
    → IfOk result (λ came. came ≡ Request request)
    → IfOk (front_of result taken) (TakesIn reach bytes)
request_takes reach bytes taken request (Ok came) one e =
    subst (λ (x : Arrival). Takes reach bytes x taken) (sym e) one
request_takes reach bytes taken request (Err error) one e = tt

-- a whole body is that of a request or of an exchange, which takes its size
pub posted_takes : (reach : Reach) (bytes : List ℕ) (taken : Taken) (posted : Posted)
    (body : List ℕ)
    (pairs : Pairs) (result : Result Arrival AllocError) → IsOneRequest reach bytes taken
    → IfOk result (λ came. came ≡ posted_to posted body pairs)
    → IfOk (front_of result taken) (TakesIn reach bytes)
posted_takes reach bytes taken posted body pairs (Ok came) one e =
    subst (λ (x : Arrival). Takes reach bytes x taken) (sym e) (of posted)
  where
    of : (p : Posted) → Takes reach bytes (posted_to p body pairs) taken
    of (Form endpoint) = one
    of (Pull pages) = one
    of Push = one
posted_takes reach bytes taken posted body pairs (Err error) one e = tt

-- a head has some bytes, as no bytes are none
some_head : (h : RequestHead) → IsRequestHead h → 0 < length (print_request h)
some_head h valid =
    elim (nat_lt 0 (length (print_request h))) as (λ t. nat_lt 0 (length (print_request h)) ≡ t
    → 0 < length (print_request h)) [
      | true ↦ λ e. grind (e, arith, nat_tests)
      | false ↦ λ e.
          let none : length (print_request h) ≡ 0 = grind (e, arith, nat_tests) in
          absurd (no_head_of_none h []
          (valid, sym (append-nil (print_request h) ∙ none_of (print_request h) none)))
    ] refl

-- a request behind which a connection stays took some bytes
pub some_taken : (reach : Reach) (bytes : List ℕ) (came : Arrival) (taken : Taken)
    → Takes reach bytes came taken → taken.stays ≡ true → 0 < taken.size
some_taken reach bytes Silence taken h stays = absurd (false_true (sym h.1 ∙ stays))
  where
    false_true : false ≡ true → ⊥
    false_true e = cc
some_taken reach bytes (Refused why) taken h stays = absurd (false_true (sym h.1 ∙ stays))
  where
    false_true : false ≡ true → ⊥
    false_true e = cc
some_taken reach bytes (Request request) taken h stays = omega (arith, h.3, some_head h.0 h.2.0)
some_taken reach bytes (arrival.Exchange exchange) taken h stays =
    omega (arith, h.3, some_head h.0 h.2.0)
some_taken reach bytes (arrival.Notice notice) taken h stays =
    omega (arith, h.3, some_head h.0 h.2.0)

-- fewer bytes than a limit are fewer than a greater one
pub fewer_within : {E : Type 0} (many all limit most : ℕ) (result : Result Front E) → many ≡ all
    → limit ≤ most → IfOk result (IsFewer many limit) → IfOk result (IsFewer all most)
fewer_within many all limit most (Ok More) same less fewer = omega (arith, same, less, fewer)
fewer_within many all limit most (Ok (Came came taken)) same less fewer = tt
fewer_within many all limit most (Err error) same less fewer = tt
