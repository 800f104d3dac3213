-- The state Live is that of exactly the active tokens. Key results:
--   chain_live     a token that is live fails each test for another state
--   live_exactly   a token is live exactly if it is active
use Rattle.std.proofs.Common.{◌≡◌, ◌≢◌, ◌⊎◌, inl, inr, ℕ, ◌<◌, nat_le, Bool, true, false, ◌&&◌, not}
use Rattle.std.proofs.Common.{if◌then◌else◌, refl, sym, ap, subst, ◌∙◌, arith}
use Rattle.std.proofs.lemmas.Bool.{true≢false, false_from_ne_true}
use Rattle.std.proofs.lemmas.Bool.Decides.{nat_tests}
use Rattle.std.specs.FinMap as map
use Rattle.tk_handle.specs.declared.kind.Kind.{Kind}
use Rattle.tk_handle.specs.declared.kind.Kind.TheVariants as kind
use Rattle.tk_handle.specs.declared.handle.Handle.{Handle}
use Rattle.tk_handle.specs.Kind.{is_access}
use Rattle.tk_store.specs.FactSet.{FactSet}
use Rattle.tk_ledger.specs.declared.status.State.{State}
use Rattle.tk_ledger.specs.declared.status.State.TheVariants as state
use Rattle.tk_ledger.specs.declared.status.Status.{Status}
use Rattle.tk_ledger.specs.declared.status.Status.TheVariants.{Unseen, Wrong, Broken, Known}
use Rattle.tk_ledger.specs.StandingFields.{StandingFields}
use Rattle.tk_ledger.specs.Clients.{is_live_client, is_live_consent}
use Rattle.tk_ledger.specs.Tokens.{Root, is_dead, is_used, is_ended}
use Rattle.tk_ledger.specs.Status.{is_live, state_in, status_in, IsActive, IsLive}
use Rattle.tk_ledger.proofs.ClientLaws.{live_sound, live_complete, consent_sound, consent_complete}
use Rattle.tk_ledger.proofs.StatusCases.{Knows, known_parts, known_status}
use Rattle.tk_ledger.proofs.TokenLaws.{is_dead-sound, is_dead-complete, is_ended-sound}
use Rattle.tk_ledger.proofs.TokenLaws.{is_ended-complete, is_used-sound, is_used-complete}

-- ---- the first state that holds

-- the state by six tests for the other states, in their order
abbrev pub chain : Bool → Bool → Bool → Bool → Bool → Bool → State
chain a b c d e f = if a then state.Dead else if b then state.Withdrawn else if c then state.Over
    else if d then state.Used else if e then state.Past else if f then state.Ended else state.Live

-- none of six tests passes
pub record AllFalse (a b c d e f : Bool) : Type 0 where
  pub dead : a ≡ false
  pub withdrawn : b ≡ false
  pub over : c ≡ false
  pub used : d ≡ false
  pub past : e ≡ false
  pub ended : f ≡ false

-- a state that is not live, by the test, is not Live
not_live : (s : State) → is_live s ≡ false → s ≡ state.Live → ⊥
not_live s h same = true≢false (sym (ap is_live same) ∙ h)

-- a token that is live fails each test for another state
pub chain_live : (a b c d e f : Bool) → chain a b c d e f ≡ state.Live → AllFalse a b c d e f
chain_live true b c d e f h = absurd (not_live state.Dead refl h)
chain_live false true c d e f h = absurd (not_live state.Withdrawn refl h)
chain_live false false true d e f h = absurd (not_live state.Over refl h)
chain_live false false false true e f h = absurd (not_live state.Used refl h)
chain_live false false false false true f h = absurd (not_live state.Past refl h)
chain_live false false false false false true h = absurd (not_live state.Ended refl h)
chain_live false false false false false false h =
    record { dead = refl; withdrawn = refl; over = refl; used = refl; past = refl; ended = refl }

-- the state of a token that fails each test for another state is Live
live_chain : (a b c d e f : Bool) → AllFalse a b c d e f → chain a b c d e f ≡ state.Live
live_chain a b c d e f h = rw (h.dead, h.withdrawn, h.over, h.used, h.past, h.ended) refl

-- ---- live is active

-- a number that is not at most another is greater
pub above : (n t : ℕ) → nat_le n t ≡ false → t < n
above n t h = grind (arith, nat_tests)

-- a number above another is not at most the other
not_below : (n t : ℕ) → t < n → nat_le n t ≡ false
not_below n t h = grind (arith, nat_tests)

-- two tests hold if it is false that they don't both hold
both_live : (a b : Bool) → not (a && b) ≡ false → (a ≡ true) × (b ≡ true)
both_live true true h = (refl, refl)
both_live true false h = absurd (true≢false h)
both_live false b h = absurd (true≢false h)

-- if two tests hold, it is false that they don't both hold
live_both : (a b : Bool) → a ≡ true → b ≡ true → not (a && b) ≡ false
live_both a b h i = rw (h, i) refl

-- the second of two tests that don't both hold fails if the first holds
right_false : (a b : Bool) → (a && b) ≡ false → a ≡ true → b ≡ false
right_false true b h i = h
right_false false b h i = absurd (true≢false (sym i))

-- a kind that is not Code is Access or Refresh
pub no_code_is : (k : Kind) → k ≢ kind.Code → (k ≡ kind.Access) ⊎ (k ≡ kind.Refresh)
no_code_is kind.Code h = absurd (h refl)
no_code_is kind.Access h = inl refl
no_code_is kind.Refresh h = inr refl

-- an access or refresh token whose state is Live is active
pub live_is_active : (F : FactSet) (now : ℕ) (h : Handle) (s : StandingFields)
    → h.id.kind ≢ kind.Code → status_in F now h ≡ Known s → s.state ≡ state.Live
    → IsActive (map.get F) now h
live_is_active F now h s nc e live =
    let x : Knows F now h s = known_parts F now h s e in
    let a = chain_live _ _ _ _ _ _ (ap (λ (y : StandingFields). y.state) x.standing ∙ live) in
    let l = both_live (is_live_client F x.root.issued.client) (is_live_consent F x.root.issued)
    a.withdrawn in
    record {
      minted = x.minted;
      code = x.root.code;
      issued = x.root.issued;
      no_code = nc;
      mints = x.mints;
      digest = x.digest_is;
      early = above x.minted.expiry now a.past;
      under = x.under;
      issues = x.issues;
      client = live_sound F x.root.issued.client l.0;
      consent = consent_sound F x.root.issued l.1;
      family = above x.root.issued.family_end now a.over;
      alive = λ d. true≢false (sym (is_dead-complete F x.root.code d) ∙ a.dead);
      access = λ is en. true≢false
          (sym (is_ended-complete F h.id en)
          ∙ right_false (is_access h.id.kind) (is_ended F h.id) a.ended (ap is_access is));
      refresh = λ is u. true≢false
          (sym (is_used-complete F h.id u)
          ∙ right_false (not (is_access h.id.kind)) (is_used F h.id) a.used
          (ap (λ (k : Kind). not (is_access k)) is));
    }

-- two tests don't both hold if the second fails whenever the first holds
when : (a b : Bool) → (a ≡ true → b ≡ false) → (a && b) ≡ false
when true b h = h refl
when false b h = refl

-- a kind that is an access token's, by the test, is Access
access_is : (k : Kind) → is_access k ≡ true → k ≡ kind.Access
access_is kind.Code h = absurd (true≢false (sym h))
access_is kind.Access h = refl
access_is kind.Refresh h = absurd (true≢false (sym h))

-- a kind that is no code's and no access token's is Refresh
refresh_is : (k : Kind) → k ≢ kind.Code → not (is_access k) ≡ true → k ≡ kind.Refresh
refresh_is kind.Code nc h = absurd (nc refl)
refresh_is kind.Access nc h = absurd (true≢false (sym h))
refresh_is kind.Refresh nc h = refl

-- an active token is known, and its state is Live
pub active_is_live : (F : FactSet) (now : ℕ) (h : Handle) → IsActive (map.get F) now h
    → (s : StandingFields) × (status_in F now h ≡ Known s) × (s.state ≡ state.Live)
active_is_live F now h a =
    let o : Root = record { code = a.code; issued = a.issued } in
    let k : (s : StandingFields) × (status_in F now h ≡ Known s)
    × (s.state ≡ state_in F now h.id a.minted o) =
    known_status F now h a.minted o a.mints a.digest a.under a.issues in (
      k.0,
      k.1,
      k.2 ∙ live_chain _ _ _ _ _ _ (record {
        dead = false_from_ne_true (is_dead F a.code) (λ d. a.alive (is_dead-sound F a.code d));
        withdrawn = live_both (is_live_client F a.issued.client) (is_live_consent F a.issued)
            (live_complete F a.issued.client a.client) (consent_complete F a.issued a.consent);
        over = not_below a.issued.family_end now a.family;
        used = when (not (is_access h.id.kind)) (is_used F h.id)
            (λ is. false_from_ne_true (is_used F h.id)
            (λ u. a.refresh (refresh_is h.id.kind a.no_code is) (is_used-sound F h.id u)));
        past = not_below a.minted.expiry now a.early;
        ended = when (is_access h.id.kind) (is_ended F h.id)
            (λ is. false_from_ne_true (is_ended F h.id)
            (λ en. a.access (access_is h.id.kind is) (is_ended-sound F h.id en)));
      }),
    )

-- for `live_exactly`: a token whose status is live, whichever it is, is active
live_of : (F : FactSet) (now : ℕ) (h : Handle) (x : Status) → status_in F now h ≡ x
    → h.id.kind ≢ kind.Code → IsLive x → IsActive (map.get F) now h
live_of F now h Unseen e nc l = absurd l
live_of F now h Wrong e nc l = absurd l
live_of F now h (Broken t) e nc l = absurd l
live_of F now h (Known s) e nc l = live_is_active F now h s nc e l

-- a token is live exactly if it is active: the clause of `status`
pub live_exactly : (F : FactSet) (now : ℕ) (h : Handle) → h.id.kind ≢ kind.Code
    → (IsLive (status_in F now h) → IsActive (map.get F) now h)
    × (IsActive (map.get F) now h → IsLive (status_in F now h))
live_exactly F now h nc = (
  live_of F now h (status_in F now h) refl nc,
  λ a. let k : (s : StandingFields) × (status_in F now h ≡ Known s) × (s.state ≡ state.Live) =
      active_is_live F now h a in subst IsLive (sym k.1) k.2,
)
