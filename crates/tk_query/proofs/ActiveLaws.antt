-- Introspection reports exactly the active tokens. Key results:
--   says_active    the reply for an active token that the sender may see
--   says_nothing   the reply for a token that is not active
--   hides_refresh  the reply to a resource server for a refresh token, if it sees none
use Rattle.std.proofs.Common.{◌≡◌, ◌≢◌, ℕ, Bool, true, false, ◌||◌, not, cond, List, refl, sym, ap}
use Rattle.std.proofs.Common.{◌∙◌}
use Rattle.std.proofs.lemmas.Bool.{false_from_ne_true}
use Rattle.std.specs.FinMap as map
use Rattle.tk_handle.specs.declared.dot.Dot.{Dot}
use Rattle.tk_handle.specs.declared.kind.Kind.{Kind}
use Rattle.tk_handle.specs.declared.kind.Kind.TheVariants as kind
use Rattle.tk_handle.specs.declared.handle.Handle.{Handle}
use Rattle.tk_family.proofs.FamilyLaws.{IsUnder-one}
use Rattle.tk_fact.specs.declared.client_kind.ClientKind.{ClientKind}
use Rattle.tk_fact.specs.declared.client_kind.ClientKind.TheVariants.{Resource}
use Rattle.tk_fact.specs.declared.code_issued.CodeIssued as issued
use Rattle.tk_fact.specs.Tokens.{MintedFields}
use Rattle.tk_store.specs.StoreFields.{StoreFields, held_facts}
use Rattle.tk_store.proofs.PutLaws.{some_injective}
use Rattle.tk_ledger.specs.declared.status.State.{State}
use Rattle.tk_ledger.specs.declared.status.State.TheVariants as state
use Rattle.tk_ledger.specs.declared.status.Status.{Status}
use Rattle.tk_ledger.specs.declared.status.Status.TheVariants.{Unseen, Wrong, Broken, Known}
use Rattle.tk_ledger.specs.StandingFields.{StandingFields}
use Rattle.tk_ledger.specs.Tokens.{links_in, anchor_in, issued_at}
use Rattle.tk_ledger.specs.Status.{status_here, status_in, IsActive, is_live}
use Rattle.tk_ledger.proofs.HereLaws.{here_known, active_here}
use Rattle.tk_ledger.proofs.StatusCases.{Knows, known_parts}
use Rattle.tk_ledger.proofs.StatusLaws.{live_is_active, active_is_live}
use Rattle.tk_message.specs.Reply.{inactive_reply}
use Rattle.tk_message.specs.declared.choices.RefreshSeen.{RefreshSeen}
use Rattle.tk_message.specs.declared.choices.RefreshSeen.TheVariants.{ByClient}
use Rattle.tk_query.specs.declared.introspected.Introspected.{Introspected}
use Rattle.tk_query.specs.declared.introspected.Introspected.TheVariants.{Inactive}
use Rattle.tk_query.specs.Introspected.{sees, active, introspected_by_status, introspected_by_kind}
use Rattle.tk_query.specs.Introspection.{told}
use Rattle.tk_query.specs.Laws.{told_by_kind, told_to}

-- ---- the reply for a token that is not active

-- a state that is live by the test is Live
live_state : (x : State) → is_live x ≡ true → x ≡ state.Live
live_state state.Dead h = cc
live_state state.Withdrawn h = cc
live_state state.Over h = cc
live_state state.Used h = cc
live_state state.Past h = cc
live_state state.Ended h = cc
live_state state.Live h = refl

-- if the second of two tests fails, the outcome is that of a failure
pub second_fails : (b c : Bool) (x y : Introspected) → c ≡ false → cond (not b || not c) x y ≡ x
second_fails true c x y h = ap (λ t. cond (not t) x y) h
second_fails false c x y h = refl

-- the outcome for a token that is not active
quiet : (P : StoreFields) (seen : RefreshSeen) (now : ℕ) (client_kind : ClientKind) (asker : Dot)
    (h : Handle) (k : Kind) (x : Status)
    → status_here P now h ≡ x → h.id.kind ≢ kind.Code → ¬ IsActive (map.get (held_facts P)) now h
    → introspected_by_status seen client_kind asker k x ≡ Inactive
quiet P seen now client_kind asker h k Unseen e nc n = refl
quiet P seen now client_kind asker h k Wrong e nc n = refl
quiet P seen now client_kind asker h k (Broken t) e nc n = refl
quiet P seen now client_kind asker h k (Known s) e nc n =
    second_fails (sees seen client_kind k asker s.client) (is_live s.state) Inactive (active k s)
    (false_from_ne_true (is_live s.state)
    (λ l. n (live_is_active (held_facts P) now h s nc (here_known P now h s e)
    (live_state s.state l))))

-- an access token is no code
no_code : (k : Kind) → k ≡ kind.Access → k ≢ kind.Code
no_code k a c = let e : kind.Access ≡ kind.Code = sym a ∙ c in cc

-- a refresh token is no code
no_code_either : (k : Kind) → k ≡ kind.Refresh → k ≢ kind.Code
no_code_either k a c = let e : kind.Refresh ≡ kind.Code = sym a ∙ c in cc

-- for `says_nothing`: by the kind of the token
quiet_by_kind : (P : StoreFields) (seen : RefreshSeen) (now : ℕ) (client_kind : ClientKind)
    (asker : Dot) (h : Handle) (k : Kind)
    → h.id.kind ≡ k → ¬ IsActive (map.get (held_facts P)) now h
    → introspected_by_kind P seen now client_kind asker h k ≡ Inactive
quiet_by_kind P seen now client_kind asker h kind.Code e n = refl
quiet_by_kind P seen now client_kind asker h kind.Access e n =
    quiet P seen now client_kind asker h kind.Access (status_here P now h) refl
    (no_code h.id.kind e) n
quiet_by_kind P seen now client_kind asker h kind.Refresh e n =
    quiet P seen now client_kind asker h kind.Refresh (status_here P now h) refl
    (no_code_either h.id.kind e) n

-- a token that is not active is inactive to everybody
pub says_nothing : (P : StoreFields) (seen : RefreshSeen) (now : ℕ) (client_kind : ClientKind)
    (asker : Dot) (h : Handle)
    → ¬ IsActive (map.get (held_facts P)) now h
    → told_to P seen now client_kind asker h ≡ inactive_reply
says_nothing P seen now client_kind asker h n =
    ap told (quiet_by_kind P seen now client_kind asker h h.id.kind refl n)

-- ---- the reply for a refresh token that resource servers don't see

-- for `hides_refresh`: by the status of the token
hidden_by_status : (digest : List ℕ) (asker : Dot) (x : Status)
    → introspected_by_status ByClient (Resource digest) asker kind.Refresh x ≡ Inactive
hidden_by_status digest asker Unseen = refl
hidden_by_status digest asker Wrong = refl
hidden_by_status digest asker (Broken t) = refl
hidden_by_status digest asker (Known s) = refl

-- where clients alone see refresh tokens, one is inactive to a resource server
pub hides_refresh : (P : StoreFields) (now : ℕ) (digest : List ℕ) (asker : Dot) (h : Handle)
    → h.id.kind ≡ kind.Refresh → told_to P ByClient now (Resource digest) asker h ≡ inactive_reply
hides_refresh P now digest asker h is =
    ap (λ (k : Kind). told (introspected_by_kind P ByClient now (Resource digest) asker h k)) is
    ∙ ap told (hidden_by_status digest asker (status_here P now h))

-- ---- the reply for an active token

-- the fields of a standing that the reply for an active token has
pub record Tells (P : StoreFields) (now : ℕ) (h : Handle)
    (a : IsActive (map.get (held_facts P)) now h) (s : StandingFields) : Type 0 where
  pub is : status_here P now h ≡ Known s
  pub live : s.state ≡ state.Live
  pub client : s.client ≡ a.issued.client
  pub expiry : s.expiry ≡ a.minted.expiry
  pub start : s.start ≡ a.minted.start
  pub scope : s.scope ≡ a.minted.scope
  pub subject : s.subject ≡ a.issued.subject

-- an active token has a standing with the fields that the reply has
tells : (P : StoreFields) (now : ℕ) (h : Handle) (a : IsActive (map.get (held_facts P)) now h)
    → (s : StandingFields) × Tells P now h a s
tells P now h a =
    let y : (s : StandingFields) × (status_in (held_facts P) now h ≡ Known s)
    × (s.state ≡ state.Live) = active_is_live (held_facts P) now h a in
    let x : Knows (held_facts P) now h y.0 = known_parts (held_facts P) now h y.0 y.1 in
    let m : x.minted ≡ a.minted = some_injective x.minted a.minted (sym x.mints ∙ a.mints) in
    let c : x.root.code ≡ a.code = IsUnder-one (links_in (map.get (held_facts P)))
    (anchor_in (map.get (held_facts P)) h.id.dot) x.root.code a.code x.under a.under in
    let i : x.root.issued ≡ a.issued = some_injective x.root.issued a.issued
    (sym x.issues ∙ ap (issued_at (map.get (held_facts P))) c ∙ a.issues) in (
      y.0,
      record {
        is = active_here P now h a ∙ y.1;
        live = y.2;
        client = sym (ap (λ (z : StandingFields). z.client) x.standing)
            ∙ ap (λ (z : issued.CodeIssued). z.client) i;
        expiry = sym (ap (λ (z : StandingFields). z.expiry) x.standing)
            ∙ ap (λ (z : MintedFields). z.expiry) m;
        start = sym (ap (λ (z : StandingFields). z.start) x.standing)
            ∙ ap (λ (z : MintedFields). z.start) m;
        scope = sym (ap (λ (z : StandingFields). z.scope) x.standing)
            ∙ ap (λ (z : MintedFields). z.scope) m;
        subject = sym (ap (λ (z : StandingFields). z.subject) x.standing)
            ∙ ap (λ (z : issued.CodeIssued). z.subject) i;
      },
    )

-- if two tests hold, the outcome is that of success
both_hold : (a b : Bool) (x y : Introspected) → a ≡ true → b ≡ true → cond (not a || not b) x y ≡ y
both_hold a b x y h i = rw (h, i) refl

-- the outcome for an active token by its standing
loud_as : (P : StoreFields) (seen : RefreshSeen) (now : ℕ) (client_kind : ClientKind) (asker : Dot)
    (h : Handle) (a : IsActive (map.get (held_facts P)) now h) (s : StandingFields)
    → Tells P now h a s → (k : Kind) → sees seen client_kind k asker a.issued.client ≡ true
    → introspected_by_status seen client_kind asker k (status_here P now h) ≡ active k s
loud_as P seen now client_kind asker h a s t k may =
    ap (introspected_by_status seen client_kind asker k) t.is
    ∙ both_hold (sees seen client_kind k asker s.client) (is_live s.state) Inactive (active k s)
    (ap (sees seen client_kind k asker) t.client ∙ may) (ap is_live t.live)

-- the reply for an active token by the fields of its standing
told_fields : (k : Kind) (s : StandingFields)
    → told (active k s) ≡ told_by_kind k s.client s.expiry s.start s.scope s.subject
told_fields kind.Code s = refl
told_fields kind.Access s = refl
told_fields kind.Refresh s = refl

-- the reply by the fields of the standing is the reply by the token's own facts
same_fields : (P : StoreFields) (now : ℕ) (h : Handle) (a : IsActive (map.get (held_facts P)) now h)
    (s : StandingFields)
    → Tells P now h a s → (k : Kind)
    → told_by_kind k s.client s.expiry s.start s.scope s.subject
    ≡ told_by_kind k a.issued.client a.minted.expiry a.minted.start a.minted.scope a.issued.subject
same_fields P now h a s t k = rw (t.client, t.expiry, t.start, t.scope, t.subject) refl

-- the outcome for an active token by its kind
loud_by_kind : (P : StoreFields) (seen : RefreshSeen) (now : ℕ) (client_kind : ClientKind)
    (asker : Dot) (h : Handle) (a : IsActive (map.get (held_facts P)) now h) (s : StandingFields)
    → Tells P now h a s → (k : Kind) → sees seen client_kind k asker a.issued.client ≡ true
    → h.id.kind ≡ k → introspected_by_kind P seen now client_kind asker h k ≡ active k s
loud_by_kind P seen now client_kind asker h a s t kind.Code may e = absurd (a.no_code e)
loud_by_kind P seen now client_kind asker h a s t kind.Access may e =
    loud_as P seen now client_kind asker h a s t kind.Access may
loud_by_kind P seen now client_kind asker h a s t kind.Refresh may e =
    loud_as P seen now client_kind asker h a s t kind.Refresh may

-- the reply for an active token that the asker sees has its fields
pub says_active : (P : StoreFields) (seen : RefreshSeen) (now : ℕ) (client_kind : ClientKind)
    (asker : Dot) (h : Handle) (a : IsActive (map.get (held_facts P)) now h)
    → sees seen client_kind h.id.kind asker a.issued.client ≡ true
    → told_to P seen now client_kind asker h
    ≡ told_by_kind h.id.kind a.issued.client a.minted.expiry a.minted.start a.minted.scope
    a.issued.subject
says_active P seen now client_kind asker h a may =
    let x : (s : StandingFields) × Tells P now h a s = tells P now h a in
    ap told (loud_by_kind P seen now client_kind asker h a x.0 x.1 h.id.kind may refl)
    ∙ told_fields h.id.kind x.0
    ∙ same_fields P now h a x.0 x.1 h.id.kind
