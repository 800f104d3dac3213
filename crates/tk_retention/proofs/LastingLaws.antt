-- What facts that last determine is the same over the facts that a store holds and over those for
-- which it stands. Key results:
--   any_lasting, at_lasting        a test, and what a fact has
--   client_view_same, consent_view_same, consent_for_same, signed_out_same
--                                  clients, consents and sign-outs
--   is_set_same, last_turn_same    the secrets of clients
--   revoked_up                     a revocation that is held is one of all facts
--   caller_same                    the sender of a request
use Rattle.std.proofs.Common.{◌≡◌, ◌==◌, ◌-◌, ◌&&◌, ◌||◌, inl, inr, ℕ, Bool, true, not, cond, List}
use Rattle.std.proofs.Common.{Option, None, Some, is_some, option_map, refl, sym, ap, ◌∙◌}
use Rattle.std.proofs.lemmas.Bool.{cases_Bool}
use Rattle.std.specs.Option.{option_and_then}
use Rattle.std.specs.FinMap as map
use Rattle.std.specs.Prelude.{nat_lt}
use Rattle.std.specs.Str.{bytes_eq}
use Rattle.tk_handle.specs.declared.dot.Dot.{Dot}
use Rattle.tk_handle.specs.declared.token_id.TokenId.{TokenId}
use Rattle.tk_fact.specs.Keeping.{kept_for}
use Rattle.tk_fact.specs.declared.body.Body.{Body}
use Rattle.tk_fact.specs.declared.body.Body.TheVariants as body
use Rattle.tk_fact.specs.declared.client_kind.ClientKind.{ClientKind}
use Rattle.tk_fact.specs.declared.client_kind.ClientKind.TheVariants.{Public, Confidential}
use Rattle.tk_fact.specs.declared.client_kind.ClientKind.TheVariants.{Resource, Keeping}
use Rattle.tk_store.specs.FactSet.{FactSet, any_fact}
use Rattle.tk_store.specs.Slots.{is_skipped}
use Rattle.tk_store.specs.StoreFields.{StoreFields, held_facts}
use Rattle.tk_store.proofs.EntryLaws.{Passing, any_fact-held, any_fact-of}
use Rattle.tk_store.proofs.PutLaws.{none_is_not_some}
use Rattle.tk_ledger.specs.Clients.{client_at, added_in, is_retired, retires, is_live_client}
use Rattle.tk_ledger.specs.Clients.{consent_at, given_in, is_withdrawn, withdraws, IsWithdrawn}
use Rattle.tk_ledger.specs.Clients.{IsConsentFor, IsLeastConsent, consent_for}
use Rattle.tk_ledger.specs.Secrets.{turn_in, last_turn, sets, is_set, is_secret_at}
use Rattle.tk_ledger.specs.Secrets.{is_good_secret}
use Rattle.tk_ledger.specs.SignOuts.{signs_out, is_signed_out}
use Rattle.tk_ledger.specs.Tokens.{revokes, is_revoked}
use Rattle.tk_ledger.specs.ViewFields.{ClientFields}
use Rattle.tk_ledger.specs.Views.{client_view, consent_view}
use Rattle.tk_ledger.proofs.ConsentLaws.{least_consent}
use Rattle.tk_ledger.proofs.KeyLaws.{same_tests}
use Rattle.tk_ledger.proofs.LastTurnLaws.{HasTurn, last_turn-is, last_unique}
use Rattle.tk_ledger.proofs.LastTurnLaws.{is_set-held, is_set-of}
use Rattle.tk_ledger.proofs.SpanLaws.{first_is}
use Rattle.tk_params.specs.Credentials.{Presented, Mixed, Unreadable, Presents, presented_in}
use Rattle.tk_params.specs.Params.{has_twice}
use Rattle.tk_message.specs.Authentication.{accepts, proves, authenticated_at, authenticated_as}
use Rattle.tk_message.specs.Authentication.{if_proved}
use Rattle.tk_message.specs.Caller.{caller_by, caller_by_auth, caller_of}
use Rattle.tk_message.specs.RequestFields.{RequestFields}
use Rattle.tk_message.specs.declared.caller.Caller.{Caller}
use Rattle.tk_message.specs.declared.caller.Caller.TheVariants.{DuplicateParameter}
use Rattle.tk_retention.specs.StandsFor.{StandsFor}
use Rattle.tk_retention.proofs.OverLaws.{none_some}
use Rattle.tk_retention.proofs.StandingLaws.{at_skipped, at_held, apart, may_skip}
use Rattle.tk_retention.proofs.StandingLaws.{held_part, lasting_held}

module _ (P : StoreFields) (U F : FactSet) (S : StandsFor P U F) where
  -- the facts that the store holds
  abbrev H : FactSet
  H = held_facts P

  -- a test that only facts that last pass
  pub any_lasting : (p : Dot × Body → Bool)
      → ((d : Dot) (b : Body) → p (d, b) ≡ true → kept_for d b ≡ None) → any_fact p H ≡ any_fact p F
  any_lasting p lasts = same_tests (any_fact p H) (any_fact p F)
      (λ h. (let x : Passing p H = any_fact-held p H h in
      any_fact-of p F x.dot x.body (held_part P U F S x.dot x.body x.held) x.passes))
      (λ h. (let x : Passing p F = any_fact-held p F h in
      any_fact-of p H x.dot x.body
      (lasting_held P U F S x.dot x.body (lasts x.dot x.body x.passes) x.held) x.passes))

  -- a part of a body that is no value is None
  none_of : {A : Type 0} (f : Body → Option A) (o : Option A) (b : Body) → f b ≡ o
      → ((y : A) → f b ≡ Some y → ⊥) → f b ≡ None
  none_of f None b h never = h
  none_of f (Some y) b h never = absurd (never y h)

  -- what a fact that lasts has
  pub at_lasting : {A : Type 0} (f : Body → Option A)
      → ((d : Dot) (b : Body) (y : A) → f b ≡ Some y → kept_for d b ≡ None) → (d : Dot)
      → option_and_then f (map.get H d) ≡ option_and_then f (map.get F d)
  at_lasting f lasts d = elim (cases_Bool (is_skipped P.slots d)) [
    | inl skipped ↦
        let may = may_skip P U F S d skipped in
        let none : f may.fact ≡ None = none_of f (f may.fact) may.fact refl
        (λ y h. none_some (kept_for d may.fact) may.token (lasts d may.fact y h) may.kept) in
        ap (option_and_then f) (apart P U F S d skipped)
        ∙ sym (ap (option_and_then f) (at_skipped P U F S d skipped ∙ may.here) ∙ none)
    | inr held ↦ ap (option_and_then f) (sym (at_held P U F S d held))
  ]

  -- ---- clients and consents

  -- the client added at a dot is the same by the facts held and by those that the store stands for
  pub client_same : (d : Dot) → client_at H d ≡ client_at F d
  client_same d = at_lasting added_in lasts d
    where
      lasts : (d : Dot) (b : Body) (y : _) → added_in b ≡ Some y → kept_for d b ≡ None
      lasts d (body.ClientAdded c) y h = refl
      lasts d b y h = absurd (none_is_not_some y h)

  -- whether a client is retired is the same by the facts held and by those that the store stands
  -- for
  pub retired_same : (d : Dot) → is_retired H d ≡ is_retired F d
  retired_same d = any_lasting (retires d) lasts
    where
      lasts : (q : Dot) (b : Body) → retires d (q, b) ≡ true → kept_for q b ≡ None
      lasts q (body.ClientRetired c) h = refl
      lasts q b h = absurd (cc)

  -- the consent given at a dot is the same by the facts held and by those that the store stands for
  pub consent_same : (d : Dot) → consent_at H d ≡ consent_at F d
  consent_same d = at_lasting given_in lasts d
    where
      lasts : (d : Dot) (b : Body) (y : _) → given_in b ≡ Some y → kept_for d b ≡ None
      lasts d (body.ConsentGiven c) y h = refl
      lasts d b y h = absurd (none_is_not_some y h)

  -- whether a consent is withdrawn is the same by the facts held and by those that the store stands
  -- for
  pub withdrawn_same : (d : Dot) → is_withdrawn H d ≡ is_withdrawn F d
  withdrawn_same d = any_lasting (withdraws d) lasts
    where
      lasts : (q : Dot) (b : Body) → withdraws d (q, b) ≡ true → kept_for q b ≡ None
      lasts q (body.ConsentWithdrawn c) h = refl
      lasts q b h = absurd (cc)

  -- whether a client is live is the same by the facts held and by those that the store stands for
  pub live_client_same : (d : Dot) → is_live_client H d ≡ is_live_client F d
  live_client_same d = λ i. is_some (client_same d i) && not (retired_same d i)

  -- what is known of a client is the same by the facts held and by those that the store stands for
  pub client_view_same : (d : Dot) → client_view H d ≡ client_view F d
  client_view_same d = λ i. option_map (λ c. record {
    client_kind = c.client_kind;
    scope = c.scope;
    redirects = c.redirects;
    lives = c.lives;
    live = live_client_same d i;
  }) (client_same d i)

  -- what is known of a consent is the same by the facts held and by those that the store stands for
  pub consent_view_same : (d : Dot) → consent_view H d ≡ consent_view F d
  consent_view_same d = λ i. option_map (λ c. record {
    client = c.client;
    subject = c.subject;
    scope = c.scope;
    live = not (withdrawn_same d i);
  }) (consent_same d i)

  -- a consent that is withdrawn by the facts held is withdrawn by all facts
  withdrawal_up : (d : Dot) → IsWithdrawn (map.get H) d → IsWithdrawn (map.get F) d
  withdrawal_up d x = record {
    place = x.place;
    withdrawal = x.withdrawal;
    held = held_part P U F S x.place (body.ConsentWithdrawn x.withdrawal) x.held;
    names = x.names;
  }

  -- a consent that is withdrawn by all facts is withdrawn by those that are held
  withdrawal_down : (d : Dot) → IsWithdrawn (map.get F) d → IsWithdrawn (map.get H) d
  withdrawal_down d x = record {
    place = x.place;
    withdrawal = x.withdrawal;
    held = lasting_held P U F S x.place (body.ConsentWithdrawn x.withdrawal) refl x.held;
    names = x.names;
  }

  -- a live consent by the facts held, which covers the scope, is one by all facts
  consent_up : (client : Dot) (subject scope : List ℕ) (d : Dot)
      → IsConsentFor (map.get H) client subject scope d
      → IsConsentFor (map.get F) client subject scope d
  consent_up client subject scope d x = record {
    live = record {
      consent = x.live.consent;
      given = held_part P U F S d (body.ConsentGiven x.live.consent) x.live.given;
      client_is = x.live.client_is;
      subject_is = x.live.subject_is;
      unwithdrawn = λ w. x.live.unwithdrawn (withdrawal_down d w);
    };
    includes = x.includes;
  }

  -- a live consent by all facts, which covers the scope, is one by those that are held
  consent_down : (client : Dot) (subject scope : List ℕ) (d : Dot)
      → IsConsentFor (map.get F) client subject scope d
      → IsConsentFor (map.get H) client subject scope d
  consent_down client subject scope d x = record {
    live = record {
      consent = x.live.consent;
      given = lasting_held P U F S d (body.ConsentGiven x.live.consent) refl x.live.given;
      client_is = x.live.client_is;
      subject_is = x.live.subject_is;
      unwithdrawn = λ w. x.live.unwithdrawn (withdrawal_up d w);
    };
    includes = x.includes;
  }

  -- the least live consent by the facts held is the least by all facts
  least_up : (client : Dot) (subject scope : List ℕ) (o : Option Dot)
      → IsLeastConsent (map.get H) client subject scope o
      → IsLeastConsent (map.get F) client subject scope o
  least_up client subject scope None h = λ d x. h d (consent_down client subject scope d x)
  least_up client subject scope (Some d) h =
      (consent_up client subject scope d h.0, λ q x. h.1 q (consent_down client subject scope q x))

  -- the consent of a subject to a client for a scope is the same by the facts held and by those
  -- that the store stands for
  pub consent_for_same : (client : Dot) (subject scope : List ℕ)
      → consent_for H client subject scope ≡ consent_for F client subject scope
  consent_for_same client subject scope = first_is F client subject scope
      (consent_for H client subject scope)
      (least_up client subject scope (consent_for H client subject scope)
      (least_consent H client subject scope))

  -- whether a subject is signed out at a moment is the same by the facts held and by those that the
  -- store stands for
  pub signed_out_same : (subject : List ℕ) (moment : ℕ)
      → is_signed_out H subject moment ≡ is_signed_out F subject moment
  signed_out_same subject moment = any_lasting (signs_out subject moment) lasts
    where
      lasts : (q : Dot) (b : Body) → signs_out subject moment (q, b) ≡ true → kept_for q b ≡ None
      lasts q (body.SubjectOut f) h = refl
      lasts q b h = absurd (cc)

  -- ---- secrets

  -- a fact that sets a client's secret is kept for no token
  set_lasts : (d q : Dot) (turn : ℕ) (digest : List ℕ) (b : Body)
      → sets d turn digest (q, b) ≡ true → kept_for q b ≡ None
  set_lasts d q turn digest (body.SecretSet f) h = refl
  set_lasts d q turn digest b h = absurd (cc)

  -- whether a secret was set at a turn is the same by the facts held and by those that the store
  -- stands for
  pub is_set_same : (d : Dot) (turn : ℕ) (digest : List ℕ)
      → is_set H d turn digest ≡ is_set F d turn digest
  is_set_same d turn digest = same_tests (is_set H d turn digest) (is_set F d turn digest)
      (λ h. (let x : Passing (sets d turn digest) H = is_set-held H d turn digest h in
      is_set-of F d turn digest x.dot x.body (held_part P U F S x.dot x.body x.held) x.passes))
      (λ h. (let x : Passing (sets d turn digest) F = is_set-held F d turn digest h in
      is_set-of H d turn digest x.dot x.body
      (lasting_held P U F S x.dot x.body (set_lasts d x.dot turn digest x.body x.passes) x.held)
      x.passes))

  -- a fact that has a turn of a client's secret is kept for no token
  turn_lasts : (d q : Dot) (turn : ℕ) (b : Body) → turn_in d b ≡ Some turn → kept_for q b ≡ None
  turn_lasts d q turn (body.SecretSet f) h = refl
  turn_lasts d q turn b h = absurd (none_is_not_some turn h)

  -- a turn of a client's secret by the facts held is one by all facts
  turn_up : (d : Dot) (turn : ℕ) → HasTurn H d turn → HasTurn F d turn
  turn_up d turn x = record {
    dot = x.dot;
    body = x.body;
    held = held_part P U F S x.dot x.body x.held;
    sets = x.sets;
  }

  -- a turn of a client's secret by all facts is one by those that are held
  turn_down : (d : Dot) (turn : ℕ) → HasTurn F d turn → HasTurn H d turn
  turn_down d turn x = record {
    dot = x.dot;
    body = x.body;
    held = lasting_held P U F S x.dot x.body (turn_lasts d x.dot turn x.body x.sets) x.held;
    sets = x.sets;
  }

  -- the last turn of a client is the same by the facts held and by those that the store stands for
  pub last_turn_same : (d : Dot) → last_turn H d ≡ last_turn F d
  last_turn_same d = last_unique H d (last_turn H d) (last_turn F d) (last_turn-is H d) (record {
    above = λ turn x. (last_turn-is F d).above turn (turn_up d turn x);
    held = elim (last_turn-is F d).held [
      | inl none ↦ inl none
      | inr some ↦ inr (turn_down d (last_turn F d) some)
    ];
  })

  -- a revocation that is held is one of all facts
  pub revoked_up : (k : TokenId) (digest : List ℕ) (client : Dot)
      → is_revoked H k digest client ≡ true → is_revoked F k digest client ≡ true
  revoked_up k digest client h =
      let x : Passing (revokes k digest client) H = any_fact-held (revokes k digest client) H h in
      any_fact-of (revokes k digest client) F x.dot x.body (held_part P U F S x.dot x.body x.held)
      x.passes

  -- ---- the sender of a request

  -- a digest is that of a client's secret at a turn by both sets or by neither
  secret_same : (d : Dot) (first : List ℕ) (turn : ℕ) (digest : List ℕ)
      → is_secret_at H d first turn digest ≡ is_secret_at F d first turn digest
  secret_same d first turn digest =
      ap (λ t. ((turn == 0) && bytes_eq first digest) || t) (is_set_same d turn digest)

  -- a digest is that of a good secret of a client by both sets or by neither
  good_same : (d : Dot) (first digest : List ℕ)
      → is_good_secret H d first digest ≡ is_good_secret F d first digest
  good_same d first digest =
      ap (λ turn. is_secret_at H d first turn digest
      || (nat_lt 0 turn && is_secret_at H d first (turn - 1) digest)) (last_turn_same d)
      ∙ (λ i. secret_same d first (last_turn F d) digest i
      || (nat_lt 0 (last_turn F d) && secret_same d first (last_turn F d - 1) digest i))

  -- a secret, or its absence, is accepted of a client by both sets or by neither
  accepts_same : (d : Dot) (first : List ℕ) (secret : Option (List ℕ))
      → accepts H d first secret ≡ accepts F d first secret
  accepts_same d first None = refl
  accepts_same d first (Some secret) = good_same d first _

  -- a client of each kind is proved by its secret in both sets or in neither
  proves_same : (d : Dot) (client_kind : ClientKind) (secret : Option (List ℕ))
      → proves H d client_kind secret ≡ proves F d client_kind secret
  proves_same d Public None = refl
  proves_same d Public (Some secret) = refl
  proves_same d (Confidential first) secret = accepts_same d first secret
  proves_same d (Resource first) secret = accepts_same d first secret
  proves_same d (Keeping first) secret = accepts_same d first secret

  -- how a client authenticates is the same by both sets
  authenticated_same : (secret : Option (List ℕ)) (o : Option Dot)
      → authenticated_at H secret o ≡ authenticated_at F secret o
  authenticated_same secret None = refl
  authenticated_same secret (Some d) =
      ap (authenticated_as H d secret) (client_view_same d) ∙ as_same (client_view F d)
    where
      as_same : (o : Option ClientFields)
          → authenticated_as H d secret o ≡ authenticated_as F d secret o
      as_same None = refl
      as_same (Some client) =
          ap (λ (t : Bool). if_proved d (client.live && t))
          (proves_same d client.client_kind secret)

  -- the sender by the credentials presented is the same by both sets
  caller_by_same : (x : Presented) → caller_by H x ≡ caller_by F x
  caller_by_same Mixed = refl
  caller_by_same Unreadable = refl
  caller_by_same (Presents c) = ap caller_by_auth (authenticated_same c.secret _)

  -- the sender of a request is the same by the facts held and by those that the store stands for
  pub caller_same : (names : List (List ℕ)) (request : RequestFields)
      → caller_of H names request ≡ caller_of F names request
  caller_same names request = ap (λ (x : Caller).
      cond (has_twice names request.params) DuplicateParameter x)
      (caller_by_same (presented_in request.authorization request.params))
