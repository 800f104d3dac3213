-- The meaning of a stream. Key results:
--   form_in_front     a body that came whole, whatever follows it
--   judged_same       the meaning of a head, by what was judged of its parts
--   has_one_meaning   a stream has at most one meaning
--   silent_is_empty   only an empty stream is silent
--   judged_may        an exchange is requested only if all paths are served, a notice only if that
--                     is, and a body is within its limit
--   all_heard         no exchange arrives unless all paths are served, and no notice unless that is
use Rattle.std.proofs.Common.{◌≡◌, ℕ, ◌≤◌, Bool, true, false, cond, List, [], ◌∷◌, ◌++◌, length}
use Rattle.std.proofs.Common.{take, Option, Some, None, map, sym, ap, ◌∙◌, subst, arith, nat_le}
use Rattle.std.proofs.Common.{inl, inr, refl}
use Rattle.std.specs.Option.{option_or}
use Rattle.std.specs.Str.{bytes_eq}
use Rattle.std.specs.Str.Parse.{digits_value}
use Rattle.std.specs.Prelude.{codes}
use Rattle.std.specs.Prelude.{◌&&◌}
use Rattle.std.proofs.lemmas.Bool.{le-leb, leb-true}
use Rattle.std.proofs.lemmas.List.{take-append-le, length-append}
use Rattle.httparse.specs.Grammar.{RequestHead}
use Rattle.httparse.specs.Spans.{name_and_value}
use Rattle.httparse.proofs.GrammarLemmas.{request_unique}
use Rattle.tk_edge.specs.HeadFields.{AreFields, has_repeats, coding_in, length_in, type_in}
use Rattle.tk_edge.specs.declared.field.Fields.{Fields}
use Rattle.tk_edge.specs.Heard.{posted_to, arrival_by, arrival_of, headless, IsArrival, MayArrive}
use Rattle.tk_edge.specs.Heard.{Arrives}
use Rattle.tk_edge.specs.Judged.{judged_of, at_path, at_service, asked, with_body, sized, fits_type}
use Rattle.tk_edge.specs.Judged.{limit_of, by_query, MayPost, MayTell, MayAsk}
use Rattle.tk_edge.specs.Laws.{HasOneMeaning, HearsAll}
use Rattle.tk_edge.specs.Paths.{path_of, query_of, path_named, client_named, admin_named}
use Rattle.tk_edge.specs.Paths.{logins_named, sync_named}
use Rattle.tk_edge.specs.Paths.{has_metrics, notice_named, beside_clients, inner_named}
use Rattle.tk_edge.specs.Paths.{method_named, service_at}
use Rattle.tk_format.specs.Numerals.{is_numeral, numeral_up_to}
use Rattle.tk_format.specs.declared.numeral.Numeral.{Numeral}
use Rattle.tk_format.specs.declared.numeral.Numeral.TheVariants as numeral
use Rattle.tk_params.specs.Params.{Pairs}
use Rattle.tk_edge.specs.declared.hear.Arrival.{Arrival}
use Rattle.tk_edge.specs.declared.hear.Arrival.TheVariants.{Silence}
use Rattle.tk_edge.specs.declared.hear.Arrival.TheVariants as arrival
use Rattle.tk_edge.specs.declared.judge.Judged.{Judged}
use Rattle.tk_edge.specs.declared.judge.Judged.TheVariants.{Refused, Query, Vector, Notice, Body}
use Rattle.tk_edge.specs.declared.path.Path.{Path}
use Rattle.tk_edge.specs.declared.path.Path.TheVariants as path
use Rattle.tk_edge.specs.declared.path.Method.{Method}
use Rattle.tk_edge.specs.declared.path.Method.TheVariants.{Get, Post}
use Rattle.tk_edge.specs.declared.path.Posted.{Posted}
use Rattle.tk_edge.specs.declared.path.Posted.TheVariants.{Form, Pull, Push}
use Rattle.tk_edge.specs.declared.path.Service.{Service}
use Rattle.tk_edge.specs.declared.path.Service.TheVariants as service
use Rattle.tk_edge.specs.declared.reach.Reach.{Reach}
use Rattle.tk_edge.specs.declared.notice.Notice.TheVariants.{Discovery, Health, Metrics}
use Rattle.tk_edge.specs.declared.reach.PathSet.{PathSet}
use Rattle.tk_edge.specs.declared.reach.PathSet.TheVariants.{Clients, Admin, All}
use Rattle.tk_edge.specs.declared.refusal.Refusal.TheVariants.{ShortBody}

-- a form is in the front of the bytes, whatever follows
pub form_in_front : (front rest : List ℕ) (size : ℕ) → size ≤ length front
    → (nat_le size (length (front ++ rest)) ≡ true) × (take size (front ++ rest) ≡ take size front)
form_in_front front rest size fits =
    let long : size ≤ length (front ++ rest) = omega (arith, fits, length-append front rest) in
    (le-leb size (length (front ++ rest)) long, take-append-le size front rest fits)

-- a head that is judged arrives as its judgement says
pub judged_same : (reach : Reach) (h : RequestHead) (rest method target : List ℕ) (judged : Judged)
    → method ≡ h.method → target ≡ h.target
    → judged ≡ judged_of reach method target (map name_and_value h.fields)
    → arrival_by target (map name_and_value h.fields) rest judged ≡ arrival_of reach h rest
judged_same reach h rest method target judged em et ej =
    let pairs = map name_and_value h.fields in
    ap (λ j. arrival_by target pairs rest j)
    (ej ∙ ap (λ m. judged_of reach m target pairs) em
    ∙ ap (λ t. judged_of reach h.method t pairs) et)
    ∙ ap (λ t. arrival_by t pairs rest (judged_of reach h.method h.target pairs)) et

-- bytes have one meaning
pub has_one_meaning : HasOneMeaning
has_one_meaning reach bytes a b (inl (none, p)) (inl (none-2, q)) = p ∙ sym q
has_one_meaning reach bytes a b (inl (none, p)) (inr (h, rest, reads, has, q)) = absurd (none h has)
has_one_meaning reach bytes a b (inr (h, rest, reads, has, p)) (inl (none, q)) = absurd (none h has)
has_one_meaning reach bytes a b (inr (h, rest, reads, has, p)) (inr (k, more, reads-2, has-2, q)) =
    let same = request_unique bytes h k rest more reads reads-2 in
    p ∙ ap (λ x. arrival_of reach x rest) same.0 ∙ ap (λ x. arrival_of reach k x) same.1 ∙ sym q

-- ---- silence

-- a whole body has a meaning other than silence
speaks_to : (posted : Posted) (body : List ℕ) (pairs : Pairs)
    → Silence ≡ posted_to posted body pairs → ⊥
speaks_to (Form endpoint) body pairs e = absurd (cc)
speaks_to (Pull pages) body pairs e = absurd (cc)
speaks_to Push body pairs e = absurd (cc)

-- a head that was judged has a meaning other than silence
speaks : (target : List ℕ) (pairs : Pairs) (rest : List ℕ) (judged : Judged)
    → Silence ≡ arrival_by target pairs rest judged → ⊥
speaks target pairs rest (Refused why) e = absurd (cc)
speaks target pairs rest (Query endpoint) e = absurd (cc)
speaks target pairs rest Vector e = absurd (cc)
speaks target pairs rest (Notice notice) e = absurd (cc)
speaks target pairs rest (Body posted n) e =
    (elim (nat_le n (length rest)) as
    (λ b. Silence ≡ cond b (posted_to posted (take n rest) pairs) (arrival.Refused ShortBody) → ⊥) [
      | true ↦ speaks_to posted (take n rest) pairs
      | false ↦ λ e. absurd (cc)
    ]) e

-- silence is no byte
pub silent_is_empty : (reach : Reach) (bytes : List ℕ) → IsArrival reach bytes Silence → bytes ≡ []
silent_is_empty reach [] came = refl
silent_is_empty reach (b ∷ bytes) (inl (none, e)) = absurd (cc)
silent_is_empty reach (b ∷ bytes) (inr (h, rest, reads, has, e)) =
    absurd (speaks h.target (map name_and_value h.fields) rest
    (judged_of reach h.method h.target (map name_and_value h.fields)) e)

-- where nothing is heard, no byte came
pub hears_nothing : (reach : Reach) (known : Option (List ℕ)) (came : Arrival) → came ≡ Silence
    → Arrives reach known came → (bytes : List ℕ) → known ≡ Some bytes → bytes ≡ []
hears_nothing reach known came silent arrives bytes is =
    silent_is_empty reach bytes (subst (IsArrival reach bytes) silent (arrives.1 bytes is))

-- ---- unless all paths are served

-- the paths that are served only if all are, or if their notice is
abbrev MayServe : Reach → Path → Type 0
MayServe reach path.Vector = reach.paths ≡ All
MayServe reach path.Pull = reach.paths ≡ All
MayServe reach path.Push = reach.paths ≡ All
MayServe reach (path.Notice notice) = MayTell reach notice
MayServe reach path = Unit {0}

-- the path, if there is one, may be served
abbrev MayServeIf : Reach → Option Path → Type 0
MayServeIf reach None = Unit {0}
MayServeIf reach (Some p) = MayServe reach p

-- one of two paths, chosen by a test, is allowed if both are
pick : (reach : Reach) (b : Bool) (o p : Option Path) → MayServeIf reach o → MayServeIf reach p
    → MayServeIf reach (cond b o p)
pick reach true o p h k = h
pick reach false o p h k = k

-- the first of two paths that is there is allowed if both are
either : (reach : Reach) (o p : Option Path) → MayServeIf reach o → MayServeIf reach p
    → MayServeIf reach (option_or o p)
either reach None p h k = k
either reach (Some x) p h k = h

-- a path of clients that is named is allowed
client_may : (reach : Reach) (text : List ℕ) → MayServeIf reach (client_named text)
client_may reach text =
    pick reach (bytes_eq text (codes "/authorize")) (Some path.Authorize) _ tt
    (pick reach (bytes_eq text (codes "/token")) (Some path.Token) _ tt
    (pick reach (bytes_eq text (codes "/introspect")) (Some path.Introspect) _ tt
    (pick reach (bytes_eq text (codes "/revoke")) (Some path.Revoke) None tt tt)))

-- a path for logins that is named is allowed
logins_may : (reach : Reach) (text : List ℕ) → MayServeIf reach (logins_named text)
logins_may reach text =
    pick reach (bytes_eq text (codes "/admin/subject")) (Some path.Subject) _ tt
    (pick reach (bytes_eq text (codes "/admin/logout")) (Some path.Logout) None tt tt)

-- a path of operators that is named is allowed
admin_may : (reach : Reach) (text : List ℕ) → MayServeIf reach (admin_named text)
admin_may reach text =
    pick reach (bytes_eq text (codes "/admin/client")) (Some path.Client) _ tt
    (pick reach (bytes_eq text (codes "/admin/clients")) (Some path.Clients) _ tt
    (pick reach (bytes_eq text (codes "/admin/retire")) (Some path.Retire) _ tt
    (pick reach (bytes_eq text (codes "/admin/secret")) (Some path.Secret) _ tt
    (pick reach (bytes_eq text (codes "/admin/consent")) (Some path.Consent) _ tt
    (pick reach (bytes_eq text (codes "/admin/withdraw")) (Some path.Withdraw) _ tt
    (pick reach (bytes_eq text (codes "/admin/signout")) (Some path.SignOut) _ tt
    (logins_may reach text)))))))

-- a path between regions that is named is allowed if all paths are served
sync_may : (reach : Reach) (text : List ℕ) → reach.paths ≡ All → MayServeIf reach (sync_named text)
sync_may reach text on =
    pick reach (bytes_eq text (codes "/sync/vector")) (Some path.Vector) _ on
    (pick reach (bytes_eq text (codes "/sync/pull")) (Some path.Pull) _ on
    (pick reach (bytes_eq text (codes "/sync/push")) (Some path.Push) None on tt))

-- a path of operators or regions that is named among those served is allowed
inner_may : (reach : Reach) (set : PathSet) (text : List ℕ) → reach.paths ≡ set
    → MayServeIf reach (inner_named set text)
inner_may reach Clients text is = tt
inner_may reach Admin text is = admin_may reach text
inner_may reach All text is = either reach (admin_named text) (sync_named text)
    (admin_may reach text) (sync_may reach text is)

-- a path that needs a flag is served only if the flag is set
flagged : (reach : Reach) (flag named : Bool) (p : Path) (o : Option Path)
    → (flag ≡ true → MayServe reach p) → MayServeIf reach o
    → MayServeIf reach (cond (flag && named) (Some p) o)
flagged reach true true p o h k = h refl
flagged reach true false p o h k = k
flagged reach false named p o h k = k

-- a path of a notice that is named is allowed
notice_may : (reach : Reach) (text : List ℕ) → MayServeIf reach (notice_named reach text)
notice_may reach text =
    flagged reach reach.discovery (bytes_eq text (codes "/.well-known/oauth-authorization-server"))
    (path.Notice Discovery) _ (λ on. on)
    (flagged reach reach.health (bytes_eq text (codes "/health")) (path.Notice Health) _ (λ on. on)
    (flagged reach (has_metrics reach) (bytes_eq text (codes "/metrics")) (path.Notice Metrics) None
    (λ on. on) tt))

-- a path beside those of clients that is named is allowed
beside_may : (reach : Reach) (text : List ℕ) → MayServeIf reach (beside_clients reach text)
beside_may reach text = either reach (notice_named reach text) (inner_named reach.paths text)
    (notice_may reach text) (inner_may reach reach.paths text refl)

-- a path that is named is allowed
may_serve : (reach : Reach) (text : List ℕ) → MayServeIf reach (path_named reach text)
may_serve reach text = either reach (client_named text) (beside_clients reach text)
    (client_may reach text) (beside_may reach text)

-- the services that exist only if all paths are served
abbrev MayDo : Reach → Service → Type 0
MayDo reach (service.Query e) = Unit {0}
MayDo reach service.Vector = reach.paths ≡ All
MayDo reach (service.Notice notice) = MayTell reach notice
MayDo reach (service.Body posted) = MayPost reach posted

-- the service, if there is one, may be done
abbrev MayDoIf : Reach → Option Service → Type 0
MayDoIf reach None = Unit {0}
MayDoIf reach (Some s) = MayDo reach s

-- the service of a path that is allowed is allowed, by any method
may_do : (reach : Reach) (p : Path) (m : Option Method) → MayServe reach p
    → MayDoIf reach (service_at p m)
may_do reach p None h = tt
may_do reach path.Vector (Some Get) h = h
may_do reach (path.Notice notice) (Some Get) h = h
may_do reach p (Some Get) h = tt
may_do reach path.Pull (Some Post) h = h
may_do reach path.Push (Some Post) h = h
may_do reach p (Some Post) h = tt

-- one of two judgements, chosen by a test, is allowed if both are
choose : (reach : Reach) (b : Bool) (j k : Judged) → MayAsk reach j → MayAsk reach k
    → MayAsk reach (cond b j k)
choose reach true j k h l = h
choose reach false j k h l = l

-- a number that was read is within its limit
abbrev pub IsBounded : ℕ → Numeral → Type 0
IsBounded limit numeral.Malformed = Unit {0}
IsBounded limit numeral.Above = Unit {0}
IsBounded limit (numeral.Within n) = n ≤ limit

-- a number that is read up to a limit is within it
bounded : (limit : ℕ) (text : List ℕ) → IsBounded limit (numeral_up_to limit text)
bounded limit text = of (is_numeral text) (nat_le n limit) refl
  where
    n : ℕ
    n = digits_value 10 text

    of : (a b : Bool) → nat_le n limit ≡ b
        → IsBounded limit (cond a (cond b (numeral.Within n) numeral.Above) numeral.Malformed)
    of false b e = tt
    of true false e = tt
    of true true e = leb-true n limit e

-- a body judged by its length and type is allowed if its use is
may_size : (reach : Reach) (posted : Posted) (told : Numeral) (kinds : List (List ℕ))
    → IsBounded (limit_of posted) told
    → MayPost reach posted → MayAsk reach (sized posted told kinds)
may_size reach posted numeral.Malformed kinds fits h = tt
may_size reach posted numeral.Above kinds fits h = tt
may_size reach posted (numeral.Within n) kinds fits h =
    choose reach (fits_type posted kinds) (Body posted n) _ (h, fits) tt

-- a body judged by its fields is allowed if its use is
may_post : (reach : Reach) (posted : Posted) (codings lengths kinds : List (List ℕ))
    → MayPost reach posted → MayAsk reach (with_body posted codings lengths kinds)
may_post reach posted (coding ∷ codings) lengths kinds h = tt
may_post reach posted [] [] kinds h = tt
may_post reach posted [] (text ∷ more) kinds h =
    may_size reach posted (numeral_up_to (limit_of posted) text) kinds
    (bounded (limit_of posted) text) h

-- a judgement of a service that is allowed is allowed
may_be_asked : (reach : Reach) (s : Service) (pairs : Pairs) → MayDo reach s
    → MayAsk reach (asked s pairs)
may_be_asked reach (service.Query e) pairs h = tt
may_be_asked reach service.Vector pairs h = h
may_be_asked reach (service.Notice notice) pairs h = h
may_be_asked reach (service.Body posted) pairs h =
    may_post reach posted (coding_in pairs) (length_in pairs) (type_in pairs) h

-- a judgement at a path is allowed if the path's service is
may_at : (reach : Reach) (p : Path) (s : Option Service) (pairs : Pairs) → MayDoIf reach s
    → MayAsk reach (at_service p s pairs)
may_at reach p None pairs h = tt
may_at reach p (Some s) pairs h =
    choose reach (has_repeats pairs) _ (asked s pairs) tt (may_be_asked reach s pairs h)

-- a judgement at a path, if one is named, is allowed if the path is
may_at_path : (reach : Reach) (o : Option Path) (m : Option Method) (pairs : Pairs)
    → MayServeIf reach o → MayAsk reach (at_path o m pairs)
may_at_path reach None m pairs h = tt
may_at_path reach (Some p) m pairs h = may_at reach p (service_at p m) pairs (may_do reach p m h)

-- a judgement that is allowed is allowed with its query judged too
may_by : (reach : Reach) (query : List ℕ) (judged : Judged) → MayAsk reach judged
    → MayAsk reach (by_query query judged)
may_by reach query (Refused why) h = h
may_by reach query (Query e) h = h
may_by reach query Vector h = h
may_by reach query (Notice notice) h = h
may_by reach query (Body (Form e) n) h = h
may_by reach query (Body (Pull pages) n) h = h
may_by reach query (Body Push n) h = h

-- a judgement of any request is allowed
may_ask : (reach : Reach) (method target : List ℕ) (pairs : Pairs)
    → MayAsk reach (judged_of reach method target pairs)
may_ask reach method target pairs =
    may_by reach (query_of target) _
    (may_at_path reach _ (method_named method) pairs (may_serve reach (path_of target)))

-- a judgement requests an exchange only if all paths are served, whatever fields were read
pub judged_may : (reach : Reach) (method target : List ℕ) (fields : Fields) (pairs : Pairs)
    (judged : Judged)
    → AreFields fields pairs
    → ((all : Pairs) → AreFields fields all → judged ≡ judged_of reach method target all)
    → MayAsk reach judged
judged_may reach method target fields pairs judged are told =
    subst (MayAsk reach) (sym (told pairs are)) (may_ask reach method target pairs)

-- a whole body has a meaning that is allowed if its use is
by_posted : (reach : Reach) (posted : Posted) (body : List ℕ) (pairs : Pairs) → MayPost reach posted
    → MayArrive reach (posted_to posted body pairs)
by_posted reach (Form e) body pairs h = tt
by_posted reach (Pull pages) body pairs h = h
by_posted reach Push body pairs h = h

-- a head whose judgement is allowed has a meaning that is allowed
by_judged : (reach : Reach) (target : List ℕ) (pairs : Pairs) (rest : List ℕ) (judged : Judged)
    → MayAsk reach judged → MayArrive reach (arrival_by target pairs rest judged)
by_judged reach target pairs rest (Refused why) h = tt
by_judged reach target pairs rest (Query e) h = tt
by_judged reach target pairs rest Vector h = h
by_judged reach target pairs rest (Notice notice) h = h
by_judged reach target pairs rest (Body posted n) h =
    elim (nat_le n (length rest)) as
    (λ b. MayArrive reach
    (cond b (posted_to posted (take n rest) pairs) (arrival.Refused ShortBody))) [
      | true ↦ by_posted reach posted (take n rest) pairs h.0
      | false ↦ tt
    ]

-- a stream without a head has a meaning that is allowed
headless_may : (reach : Reach) (bytes : List ℕ) → MayArrive reach (headless bytes)
headless_may reach [] = tt
headless_may reach (b ∷ bytes) = tt

-- no exchange arrives unless all paths are served, and no notice unless that is
pub all_heard : HearsAll
all_heard reach bytes came (inl (none, p)) =
    subst (MayArrive reach) (sym p) (headless_may reach bytes)
all_heard reach bytes came (inr (h, rest, reads, has, p)) =
    let pairs = map name_and_value h.fields in
    subst (MayArrive reach) (sym p)
    (by_judged reach h.target pairs rest (judged_of reach h.method h.target pairs)
    (may_ask reach h.method h.target pairs))
