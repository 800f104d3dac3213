-- The tokens that the token endpoint mints end with their family, and it uses what was minted. Key
-- results:
--   IsGrantFor      what is granted is of a code that was issued, or of a minted refresh token
--   by_caller       the judgement of a request grants no more
--   grants_within   the decisions
use Rattle.std.proofs.Common.{◌≡◌, ◌≢◌, ℕ, ◌≤◌, ◌==◌, ◌+◌, nat_le, Bool, true, false, not, cond}
use Rattle.std.proofs.Common.{List, codes, Option, None, Some, IfSome, refl}
use Rattle.std.proofs.Common.{arith}
use Rattle.std.proofs.lemmas.Bool.Decides.{nat_tests}
use Rattle.std.specs.FinMap as map
use Rattle.std.specs.Str.{bytes_eq}
use Rattle.tk_handle.specs.Handle.{handle_in}
use Rattle.tk_handle.specs.Kind.{kind_number}
use Rattle.tk_handle.specs.Moment.{moment_plus}
use Rattle.tk_handle.specs.declared.dot.Dot.{Dot}
use Rattle.tk_handle.specs.declared.handle.Handle.{Handle}
use Rattle.tk_handle.specs.declared.kind.Kind.{Kind}
use Rattle.tk_handle.specs.declared.kind.Kind.TheVariants as kind
use Rattle.tk_handle.specs.declared.token_id.TokenId.{TokenId}
use Rattle.tk_family.specs.declared.link.Link.{Link}
use Rattle.tk_family.specs.declared.link.Link.TheVariants.{Redeems, Rotates}
use Rattle.tk_family.specs.Families.{IsUnder}
use Rattle.tk_fact.specs.Check.{max_generations}
use Rattle.tk_store.specs.FactSet.{FactSet}
use Rattle.tk_store.specs.StoreFields.{StoreFields, held_facts}
use Rattle.tk_ledger.specs.Bodies.{is_same_dot}
use Rattle.tk_ledger.specs.StandingFields.{StandingFields}
use Rattle.tk_ledger.specs.Status.{status_here}
use Rattle.tk_ledger.specs.Tokens.{links_in, minted_in}
use Rattle.tk_ledger.specs.Views.{client_view}
use Rattle.tk_ledger.specs.declared.status.State.{State}
use Rattle.tk_ledger.specs.declared.status.State.TheVariants as state
use Rattle.tk_ledger.specs.declared.status.Status.{Status}
use Rattle.tk_ledger.specs.declared.status.Status.TheVariants.{Unseen, Wrong, Broken, Known}
use Rattle.tk_fact.specs.declared.client_lives.ClientLives.{ClientLives}
use Rattle.tk_ledger.specs.ViewFields.{ClientFields}
use Rattle.tk_params.specs.Params.{Pairs, value_of}
use Rattle.tk_message.specs.Caller.{caller_of}
use Rattle.tk_message.specs.RequestFields.{RequestFields}
use Rattle.tk_message.specs.ScopeAsked.{scope_asked}
use Rattle.tk_message.specs.declared.caller.Caller.{Caller}
use Rattle.tk_message.specs.declared.caller.Caller.TheVariants as caller
use Rattle.tk_message.specs.declared.decision.Decision.{Decision}
use Rattle.tk_message.specs.declared.place.Place.{Place}
use Rattle.tk_grant.specs.Gate.{gate_by_state, gate_by_status}
use Rattle.tk_grant.specs.Gate.{gate_by_text, gate_of}
use Rattle.tk_grant.specs.Granted.{earlier, ends_at, granted_by, grant_of, lives_at}
use Rattle.tk_grant.specs.Judged.{judged_by_type, judged_by_caller, judged_of, known_names}
use Rattle.tk_grant.specs.Redeemed.{meets_challenge, names_uri, redeemed_of}
use Rattle.tk_grant.specs.Renewed.{is_keeping, registered_lives, refreshed_by, refreshed_of}
use Rattle.tk_grant.specs.Renewed.{renewed_of}
use Rattle.tk_grant.specs.Rotated.{rotated_by, rotated_of}
use Rattle.tk_grant.specs.ScopeGranted.{grant_by}
use Rattle.tk_grant.specs.Within.{IsCodeOf, IsRotatable, IsWithin}
use Rattle.tk_grant.specs.declared.gate.Gate.{Gate}
use Rattle.tk_grant.specs.declared.gate.Gate.TheVariants.{Shut, Reuse, Open}
use Rattle.tk_grant.specs.declared.judged.Judged.{Judged}
use Rattle.tk_grant.specs.declared.judged.Judged.TheVariants as judged
use Rattle.tk_grant.specs.declared.refusal.Refusal.TheVariants as refusal
use Rattle.tk_grant.proofs.GateLaws.{IsOpenFor, OpensFor, by_gate}

-- ---- the judgement

-- what is granted is of a code that was issued, or of a minted refresh token
abbrev IsGrantFor : FactSet → Judged → Type 0
IsGrantFor F (judged.Refused why) = Unit {0}
IsGrantFor F (judged.Reused id) = minted_in (map.get F) id ≢ None
IsGrantFor F (judged.Redeems grant) = IsCodeOf F grant.from grant.family_end
IsGrantFor F (judged.Rotates generation grant) =
    IsRotatable F grant.from generation × (c : Dot) × IsUnder (links_in (map.get F)) grant.from c
    × IsCodeOf F c grant.family_end
IsGrantFor F (judged.Refreshes grant) =
    (l : Link) × (links_in (map.get F) grant.from ≡ Some l) × (c : Dot)
    × IsUnder (links_in (map.get F)) grant.from c × IsCodeOf F c grant.family_end

module _ (F : FactSet) where
  -- a choice of two judgements grants no more than they do
  either : (t : Bool) (a b : Judged) → IsGrantFor F a → IsGrantFor F b → IsGrantFor F (cond t a b)
  either true a b x y = x
  either false a b x y = y

  -- what is redeemed is of the code that the gate opens for
  redeems : (lives : Option ClientLives) (params : Pairs) (g : Gate) → OpensFor F g
      → IsGrantFor F (redeemed_of lives params g)
  redeems lives params (Shut why) o = tt
  redeems lives params (Reuse id) o = o
  redeems lives params (Open id s) o =
      either (not (names_uri s.issued.sent s.issued.uri (value_of (codes "redirect_uri") params)))
      (judged.Refused refusal.WrongRedirect) _ tt
      (either (not (meets_challenge s.issued.challenge (value_of (codes "code_verifier") params)))
      (judged.Refused refusal.WrongVerifier) _ tt o.issued)

  -- a rotation is of the token that the gate opens for
  rotates_by : (id : TokenId) (lives : Option ClientLives) (s : StandingFields)
      (scope : Option (List ℕ)) → id.kind ≡ kind.Refresh → IsOpenFor F id s
      → IsGrantFor F (rotated_by (s.generation + 1) (grant_by id.dot lives s scope))
  rotates_by id lives s None k o = tt
  rotates_by id lives s (Some scope) k o = (
    o.rotates k,
    s.code,
    o.under k,
    o.issued,
  )

  -- a refresh without rotation is of the token that the gate opens for
  refreshes_by : (id : TokenId) (lives : Option ClientLives) (s : StandingFields)
      (scope : Option (List ℕ)) → id.kind ≡ kind.Refresh → IsOpenFor F id s
      → IsGrantFor F (refreshed_by (grant_by id.dot lives s scope))
  refreshes_by id lives s None k o = tt
  refreshes_by id lives s (Some scope) k o = (
    (o.rotates k).0,
    (o.rotates k).1,
    s.code,
    o.under k,
    o.issued,
  )

  -- a gate that opens does so for a token of the kind
  abbrev IsOfKind : Kind → Gate → Type 0
  IsOfKind k (Shut why) = Unit {0}
  IsOfKind k (Reuse id) = Unit {0}
  IsOfKind k (Open id s) = id.kind ≡ k

  -- what is rotated is of a minted refresh token
  rotates : (lives : Option ClientLives) (params : Pairs) (g : Gate) → IsOfKind kind.Refresh g
      → OpensFor F g → IsGrantFor F (rotated_of lives params g)
  rotates lives params (Shut why) k o = tt
  rotates lives params (Reuse id) k o = o
  rotates lives params (Open id s) k o =
      either (nat_le max_generations s.generation) (judged.Refused refusal.LastGeneration) _ tt
      (rotates_by id lives s (scope_asked s.scope (value_of (codes "scope") params)) k o)

  -- what is refreshed is of a minted refresh token
  refreshes : (lives : Option ClientLives) (params : Pairs) (g : Gate) → IsOfKind kind.Refresh g
      → OpensFor F g → IsGrantFor F (refreshed_of lives params g)
  refreshes lives params (Shut why) k o = tt
  refreshes lives params (Reuse id) k o = o
  refreshes lives params (Open id s) k o =
      refreshes_by id lives s (scope_asked s.scope (value_of (codes "scope") params)) k o

  -- what is renewed, by rotation or without, is of a minted refresh token
  renews : (client : Option ClientFields) (params : Pairs) (g : Gate) → IsOfKind kind.Refresh g
      → OpensFor F g → IsGrantFor F (renewed_of client params g)
  renews client params g k o =
      either (is_keeping client) (refreshed_of (registered_lives client) params g)
      (rotated_of (registered_lives client) params g)
      (refreshes (registered_lives client) params g k o)
      (rotates (registered_lives client) params g k o)

module _ (P : StoreFields) (now : ℕ) where
  -- the gate by the state of a token opens for its kind
  kind_by_state : (id : TokenId) (s : StandingFields) (x : State)
      → IsOfKind (held_facts P) id.kind (gate_by_state id s x)
  kind_by_state id s state.Dead = tt
  kind_by_state id s state.Withdrawn = tt
  kind_by_state id s state.Over = tt
  kind_by_state id s state.Used = tt
  kind_by_state id s state.Past = tt
  kind_by_state id s state.Ended = tt
  kind_by_state id s state.Live = refl

  -- the gate by the status of a handle opens for the kind of the token
  kind_by_status : (id : TokenId) (client : Dot) (s : Status)
      → IsOfKind (held_facts P) id.kind (gate_by_status id client s)
  kind_by_status id client Unseen = tt
  kind_by_status id client Wrong = tt
  kind_by_status id client (Broken expiry) = tt
  kind_by_status id client (Known s) = elim (is_same_dot s.client client) as
      (λ t. IsOfKind (held_facts P) id.kind
      (cond t (gate_by_state id s s.state) (Shut refusal.ForeignGrant))) [
        | true ↦ kind_by_state id s s.state
        | false ↦ tt
      ]

  -- the gate by a text opens for the kind that is wanted
  kind_by_text : (client : Dot) (k : Kind) (o : Option Handle)
      → IsOfKind (held_facts P) k (gate_by_text P now client k o)
  kind_by_text client k None = tt
  kind_by_text client k (Some h) = elim (kind_number h.id.kind == kind_number k) as
      (λ t. IsOfKind (held_facts P) k
      (cond t (gate_by_status (record { dot = h.id.dot; kind = k }) client (status_here P now h))
      (Shut refusal.UnknownGrant))) [
        | true ↦ kind_by_status (record { dot = h.id.dot; kind = k }) client (status_here P now h)
        | false ↦ tt
      ]

  -- the gate by a parameter opens for the kind that is wanted
  kind_by_gate : (client : Dot) (k : Kind) (o : Option (List ℕ))
      → IsOfKind (held_facts P) k (gate_of P now client k o)
  kind_by_gate client k None = tt
  kind_by_gate client k (Some text) = kind_by_text client k (handle_in text)

  -- the judgement by the grant type
  by_type : (params : Pairs) (client : Dot) (o : Option (List ℕ))
      → IsGrantFor (held_facts P) (judged_by_type P now params client o)
  by_type params client None = tt
  by_type params client (Some name) =
      either (held_facts P) (bytes_eq name (codes "authorization_code")) _ _
      (redeems (held_facts P) (registered_lives (client_view (held_facts P) client)) params
      (gate_of P now client kind.Code (value_of (codes "code") params))
      (by_gate P now client kind.Code (value_of (codes "code") params)))
      (either (held_facts P) (bytes_eq name (codes "refresh_token")) _ _
      (renews (held_facts P) (client_view (held_facts P) client) params
      (gate_of P now client kind.Refresh (value_of (codes "refresh_token") params))
      (kind_by_gate client kind.Refresh (value_of (codes "refresh_token") params))
      (by_gate P now client kind.Refresh (value_of (codes "refresh_token") params)))
      tt)

  -- the judgement by the caller
  by_caller : (params : Pairs) (c : Caller)
      → IsGrantFor (held_facts P) (judged_by_caller P now params c)
  by_caller params caller.DuplicateParameter = tt
  by_caller params caller.MixedCredentials = tt
  by_caller params caller.InvalidClient = tt
  by_caller params (caller.Client client) =
      by_type params client (value_of (codes "grant_type") params)

-- ---- the fact that is made

-- a decision makes a fact that is within its family, if it makes one
abbrev MakesWithin : FactSet → Decision → Type 0
MakesWithin F d = IfSome d.made (IsWithin F)

-- the end of a token is cut at the end of its family
cut : (now life moment : ℕ) → ends_at now life moment ≤ moment
cut now life moment = earlier_le (moment_plus now life) moment
  where
    earlier_le : (a b : ℕ) → earlier a b ≤ b
    earlier_le a b = grind (arith, nat_tests)

-- the decision by a judgement makes a fact that is within its family
granted_within : (F : FactSet) (place : Place) (now : ℕ) (words : List ℕ) (j : Judged)
    → IsGrantFor F j → MakesWithin F (granted_by place now words j)
granted_within F place now words (judged.Refused why) g = tt
granted_within F place now words (judged.Reused id) g = g
granted_within F place now words (judged.Redeems grant) g = (
  grant.family_end,
  g,
  cut now (lives_at place grant).access grant.family_end,
  cut now (lives_at place grant).refresh grant.family_end,
)
granted_within F place now words (judged.Rotates generation grant) g = (
  g.0,
  g.1,
  g.2,
  grant.family_end,
  g.3,
  cut now (lives_at place grant).access grant.family_end,
  cut now (lives_at place grant).refresh grant.family_end,
)
granted_within F place now words (judged.Refreshes grant) g = (
  g.0,
  g.1,
  g.2,
  g.3,
  grant.family_end,
  g.4,
  cut now (lives_at place grant).access grant.family_end,
)

-- what a grant mints ends with its family at the latest
pub grants_within : (P : StoreFields) (place : Place) (now : ℕ) (words : List ℕ)
    (request : RequestFields)
    → IfSome (grant_of P place now words request).made (IsWithin (held_facts P))
grants_within P place now words request =
    granted_within (held_facts P) place now words (judged_of P now request)
    (by_caller P now request.params (caller_of (held_facts P) known_names request))
