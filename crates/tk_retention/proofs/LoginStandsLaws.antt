-- From the horizon on, what a subject has by a store is what it has by the facts for which the
-- store stands. Key results:
--   subject_consents_same   the live consents of a subject
--   login_view_same         the login of a code
--   subject_logins_same     the logins of a subject
--   ending_same             what ends a login whose state is Used
--   logout_same             the judgement of the end of a login
use Rattle.std.proofs.Common.{◌≡◌, ◌⊎◌, inl, inr, ℕ, ◌≤◌, ◌<◌, nat_le, Bool, true, false}
use Rattle.std.proofs.Common.{cond, List, Option, None, Some, refl, sym, ap, ◌∙◌}
use Rattle.std.proofs.lemmas.Bool.{cases_lt, le-leb, lt-leb, cond-true, cond-false}
use Rattle.std.proofs.lemmas.Bool.{false_from_ne_true}
use Rattle.std.specs.FinMap as map
use Rattle.std.specs.Option.{option_and_then}
use Rattle.tk_handle.specs.declared.dot.Dot.{Dot}
use Rattle.tk_family.specs.Families.{use_of}
use Rattle.tk_family.proofs.FamilyLaws.{use_of-within}
use Rattle.tk_fact.specs.declared.body.Body.{Body}
use Rattle.tk_fact.specs.declared.code_issued.CodeIssued as issued
use Rattle.tk_store.specs.FactSet.{FactSet}
use Rattle.tk_store.specs.StoreFields.{StoreFields, held_facts}
use Rattle.tk_store.proofs.EntryLaws.{AllIn-entries}
use Rattle.tk_store.proofs.PutLaws.{some_injective}
use Rattle.tk_ledger.specs.Logins.{code_token, minted_code, login_of, login_by_code, login_view}
use Rattle.tk_ledger.specs.Logins.{revocation_by, redemption_of, ending_by, ending_of}
use Rattle.tk_ledger.specs.Status.{state_in}
use Rattle.tk_ledger.specs.SubjectWalk.{live_by, consents_of, is_issued_to, logins_of}
use Rattle.tk_ledger.specs.SubjectWalk.{login_by as subject_login}
use Rattle.tk_ledger.specs.Tokens.{issued_at, links_in, link_of, uses, is_dead, Root}
use Rattle.tk_ledger.specs.ViewFields.{LoginFields}
use Rattle.tk_ledger.specs.declared.status.State.{State}
use Rattle.tk_ledger.specs.declared.status.State.TheVariants as state
use Rattle.tk_ledger.proofs.ConsentLaws.{found_in, none_passes}
use Rattle.tk_ledger.proofs.LoginLaws.{once}
use Rattle.tk_ledger.proofs.RootLaws.{links-below, under-minted}
use Rattle.tk_ledger.proofs.SameLaws.{names_token-true, names_token-of}
use Rattle.tk_ledger.proofs.SubjectWalkLaws.{consents_same, logins_same}
use Rattle.tk_ledger.proofs.TokenLaws.{use_at, use_from}
use Rattle.tk_authorize.specs.Logouts.{ended_by, ended_in, ended_at}
use Rattle.tk_ledger.proofs.EndingLaws.{under_itself as code_under}
use Rattle.tk_retention.specs.StandsFor.{StandsFor, AreSound}
use Rattle.tk_retention.proofs.LastingLaws.{consent_view_same}
use Rattle.tk_retention.proofs.OverLaws.{none_some}
use Rattle.tk_retention.proofs.StandingLaws.{held_part, made_up, code_held, use_held}
use Rattle.tk_retention.proofs.StatusParts.{issued_below}
use Rattle.tk_retention.proofs.StatusStandsLaws.{never_over, state_same}

module _ (P : StoreFields) (U F : FactSet) (S : StandsFor P U F) where
  -- the facts that the store holds
  abbrev H : FactSet
  H = held_facts P

  -- ---- consents

  -- the live consents of a subject are the same by the facts held and by those that the store
  -- stands for
  pub subject_consents_same : (subject : List ℕ) → consents_of H subject ≡ consents_of F subject
  subject_consents_same subject = consents_same H F subject
      (λ d. ap (live_by subject) (consent_view_same P U F S d))

  -- ---- logins

  -- a code that is held is one of the facts
  issued_up : (d : Dot) (code : issued.CodeIssued) → issued_at (map.get H) d ≡ Some code
      → issued_at (map.get F) d ≡ Some code
  issued_up d code h = issued_below H F (held_part P U F S) d code h

  -- no code is held where the facts have none
  none_held : (d : Dot) → issued_at (map.get F) d ≡ None → issued_at (map.get H) d ≡ None
  none_held d none = by_code (issued_at (map.get H) d) refl
    where
      by_code : (o : Option issued.CodeIssued) → issued_at (map.get H) d ≡ o
          → issued_at (map.get H) d ≡ None
      by_code None is = is
      by_code (Some code) is =
          absurd (none_some (issued_at (map.get F) d) code none (issued_up d code is))

  module _ (sound : AreSound U) (now : ℕ) (soon : P.horizon ≤ now) (d : Dot) where
    -- the root that the code is
    abbrev root_at : issued.CodeIssued → Root
    root_at code = record { code = d; issued = code }

    -- ---- a family that is not over

    module _ (code : issued.CodeIssued) (is : issued_at (map.get F) d ≡ Some code)
        (early : now < code.family_end) where
      -- a code whose family is not over is held
      issued_same : issued_at (map.get H) d ≡ Some code
      issued_same = elim (code_held P U F S d code is) [
        | inl held ↦ held
        | inr over ↦ absurd (never_over P U F S now soon (root_at code) is early over)
      ]

      -- the login of a code is the same by both sets
      login_same : login_of H now d code ≡ login_of F now d code
      login_same =
          let s : state_in H now (code_token d) (minted_code code) (root_at code)
          ≡ state_in F now (code_token d) (minted_code code) (root_at code) =
          state_same P U F S now soon (root_at code) is early sound (code_token d)
          (under-minted (map.get F) d d (code_under F d code is)) (minted_code code) in
          λ i. record {
            client = code.client;
            scope = code.scope;
            start = code.start;
            family_end = code.family_end;
            state = s i;
          }

      -- ---- the fact that redeems the code

      -- the redemption of a code that isn't dead is the same by both sets
      redemption_same : is_dead F d ≡ false → redemption_of H d ≡ redemption_of F d
      redemption_same alive = by_all (redemption_of F d) refl
        where
          -- what redeems the code in the store redeems it in the facts
          use_up : (p : Dot) → use_of (links_in (map.get H) p) ≡ Some (code_token d)
              → use_of (links_in (map.get F) p) ≡ Some (code_token d)
          use_up p h = use_of-within (links_in (map.get H)) (links_in (map.get F))
              (links-below H F (held_part P U F S)) p (links_in (map.get H) p) (code_token d) refl h

          by_held : (e : Dot × Body) → redemption_of F d ≡ Some e
              → (e_uses : use_of (links_in (map.get F) e.0) ≡ Some (code_token d))
              → map.get F e.0 ≡ Some e.1 → (o : Option (Dot × Body)) → redemption_of H d ≡ o
              → redemption_of H d ≡ redemption_of F d
          by_held e at user here None none =
              let down : use_of (links_in (map.get H) e.0) ≡ Some (code_token d) =
              elim (use_held P U F S e.0 d (code_token d) user
              (made_up P U F S d d (code_under F d code is))) [
                | inl held ↦ held
                | inr over ↦ absurd (never_over P U F S now soon (root_at code) is early over)
              ] in
              let b : (b : Body) × (map.get H e.0 ≡ Some b)
              × (use_of (link_of b) ≡ Some (code_token d)) =
              use_from (map.get H e.0) (code_token d) down in
              absurd (none_passes (uses (code_token d)) (map.entries H) none e.0 b.0
              (sym (map.get-entries H e.0) ∙ b.1)
              (names_token-of (use_of (link_of b.0)) (code_token d) b.2))
          by_held e at user here (Some h) found =
              let p = found_in (uses (code_token d)) H (map.entries H) h (AllIn-entries H) found in
              let low : use_of (links_in (map.get H) h.0) ≡ Some (code_token d) =
              use_at H h.0 h.1 (code_token d) p.0
              (names_token-true (use_of (link_of h.1)) (code_token d) p.1) in
              let same : h.0 ≡ e.0 = once F d code is alive h.0 e.0 (use_up h.0 low) user in
              let body : h.1 ≡ e.1 = some_injective h.1 e.1
              (sym (held_part P U F S h.0 h.1 p.0) ∙ ap (map.get F) same ∙ here) in
              found ∙ (λ i. Some (same i, body i)) ∙ sym at

          by_none : redemption_of F d ≡ None → (o : Option (Dot × Body)) → redemption_of H d ≡ o
              → redemption_of H d ≡ redemption_of F d
          by_none none None is = is ∙ sym none
          by_none none (Some h) found =
              let p = found_in (uses (code_token d)) H (map.entries H) h (AllIn-entries H) found in
              absurd (none_passes (uses (code_token d)) (map.entries F) none h.0 h.1
              (sym (map.get-entries F h.0) ∙ held_part P U F S h.0 h.1 p.0) p.1)

          by_all : (o : Option (Dot × Body)) → redemption_of F d ≡ o
              → redemption_of H d ≡ redemption_of F d
          by_all None at = by_none at (redemption_of H d) refl
          by_all (Some e) at =
              let p = found_in (uses (code_token d)) F (map.entries F) e (AllIn-entries F) at in
              by_held e at
              (use_at F e.0 e.1 (code_token d) p.0
              (names_token-true (use_of (link_of e.1)) (code_token d) p.1))
              p.0 (redemption_of H d) refl

      -- what ends the login of a code that isn't dead is the same by both sets
      ends_same : is_dead F d ≡ false → ending_of H d ≡ ending_of F d
      ends_same alive =
          ap (ending_by H d) issued_same
          ∙ ap (option_and_then (revocation_by code.client)) (redemption_same alive)
          ∙ sym (ap (ending_by F d) is)

    -- ---- any family

    -- a login of a family that is over isn't there
    gone : (G : FactSet) (code : issued.CodeIssued) → code.family_end ≤ now
        → (o : Option issued.CodeIssued) → (o ≡ None) ⊎ (o ≡ Some code)
        → login_by_code G now d o ≡ None
    gone G code over o (inl none) = ap (login_by_code G now d) none
    gone G code over o (inr some) =
        ap (login_by_code G now d) some
        ∙ cond-true (nat_le code.family_end now) None (Some (login_of G now d code))
        (le-leb code.family_end now over)

    -- at the dot of a code the store holds no code or that one
    none_or : (code : issued.CodeIssued) → issued_at (map.get F) d ≡ Some code
        → (issued_at (map.get H) d ≡ None) ⊎ (issued_at (map.get H) d ≡ Some code)
    none_or code is = by_code (issued_at (map.get H) d) refl
      where
        by_code : (o : Option issued.CodeIssued) → issued_at (map.get H) d ≡ o
            → (issued_at (map.get H) d ≡ None) ⊎ (issued_at (map.get H) d ≡ Some code)
        by_code None at = inl at
        by_code (Some x) at = inr (at ∙ sym (issued_up d x at) ∙ is)

    -- the login of a code is the same by the facts held and by those that the store stands for
    pub login_view_same : login_view H now d ≡ login_view F now d
    login_view_same = by_code (issued_at (map.get F) d) refl
      where
        by_code : (o : Option issued.CodeIssued) → issued_at (map.get F) d ≡ o
            → login_view H now d ≡ login_view F now d
        by_code None at =
            ap (login_by_code H now d) (none_held d at) ∙ sym (ap (login_by_code F now d) at)
        by_code (Some code) at = elim (cases_lt now code.family_end) [
          | inl early ↦
              ap (login_by_code H now d) (issued_same code at early)
              ∙ ap (λ (l : LoginFields).
              cond (nat_le code.family_end now) None (Some l)) (login_same code at early)
              ∙ sym (ap (login_by_code F now d) at)
          | inr over ↦
              gone H code over (issued_at (map.get H) d) (none_or code at)
              ∙ sym (gone F code over (issued_at (map.get F) d) (inr at))
        ]

    -- the login of the subject at the dot
    subject_login_same : (subject : List ℕ)
        → subject_login H now subject d ≡ subject_login F now subject d
    subject_login_same subject = by_code (issued_at (map.get F) d) refl
      where
        none_there : (b : Bool) (l : Option LoginFields) → l ≡ None → cond b l None ≡ None
        none_there true l h = h
        none_there false l h = refl

        by_code : (o : Option issued.CodeIssued) → issued_at (map.get F) d ≡ o
            → subject_login H now subject d ≡ subject_login F now subject d
        by_code None at =
            ap (λ o. cond (is_issued_to subject o) (login_view H now d) None) (none_held d at)
            ∙ sym (ap (λ o. cond (is_issued_to subject o) (login_view F now d) None) at)
        by_code (Some code) at = elim (cases_lt now code.family_end) [
          | inl early ↦ λ i. cond
              (is_issued_to subject ((issued_same code at early ∙ sym at) i)) (login_view_same i)
              None
          | inr over ↦
              let left : login_view H now d ≡ None =
              gone H code over (issued_at (map.get H) d) (none_or code at) in
              let right : login_view F now d ≡ None =
              gone F code over (issued_at (map.get F) d) (inr at) in
              none_there (is_issued_to subject (issued_at (map.get H) d)) (login_view H now d) left
              ∙ sym (none_there (is_issued_to subject (issued_at (map.get F) d))
              (login_view F now d) right)
        ]

    -- a login whose state is Used is of a family that is neither dead nor over
    pub ending_same : (login : LoginFields) → login_view F now d ≡ Some login
        → login.state ≡ state.Used → ending_of H d ≡ ending_of F d
    ending_same login there used = by_code (issued_at (map.get F) d) refl
        (sym (ap (login_by_code F now d) refl) ∙ there)
      where
        not_used : ¬ (state.Dead ≡ state.Used)
        not_used h = cc

        alive : (code : issued.CodeIssued) → login_of F now d code ≡ login → is_dead F d ≡ false
        alive code same = false_from_ne_true (is_dead F d) (λ dead. not_used
            (sym (cond-true (is_dead F d) state.Dead _ dead)
            ∙ ap (λ (l : LoginFields). l.state) same ∙ used))

        by_code : (o : Option issued.CodeIssued) → issued_at (map.get F) d ≡ o
            → login_by_code F now d (issued_at (map.get F) d) ≡ Some login
            → ending_of H d ≡ ending_of F d
        by_code None at shown =
            absurd (none_some (login_by_code F now d (issued_at (map.get F) d)) login
            (ap (login_by_code F now d) at) shown)
        by_code (Some code) at shown = elim (cases_lt now code.family_end) [
          | inl early ↦ ends_same code at early
              (alive code (some_injective (login_of F now d code) login
              (sym (cond-false (nat_le code.family_end now) None (Some (login_of F now d code))
              (lt-leb code.family_end now early)) ∙ sym (ap (login_by_code F now d) at) ∙ shown)))
          | inr over ↦ absurd (none_some (login_by_code F now d (issued_at (map.get F) d)) login
              (gone F code over (issued_at (map.get F) d) (inr at)) shown)
        ]

    -- the judgement of the end of a login
    pub logout_same : ended_at H d (login_view H now d) ≡ ended_at F d (login_view F now d)
    logout_same = ap (ended_at H d) login_view_same ∙ by_login (login_view F now d) refl
      where
        by_state : (login : LoginFields) → login_view F now d ≡ Some login → (s : State)
            → login.state ≡ s → ended_in H d login.state ≡ ended_in F d login.state
        by_state login at state.Used is =
            ap (ended_in H d) is ∙ ap (ended_by d) (ending_same login at is)
            ∙ sym (ap (ended_in F d) is)
        by_state login at s is = ap (ended_in H d) is ∙ sym (ap (ended_in F d) is)

        by_login : (o : Option LoginFields) → login_view F now d ≡ o
            → ended_at H d o ≡ ended_at F d o
        by_login None at = refl
        by_login (Some login) at = by_state login at login.state refl

  -- the logins of a subject are the same by the facts held and by those that the store stands for,
  -- from the horizon on
  pub subject_logins_same : AreSound U → (now : ℕ) → P.horizon ≤ now → (subject : List ℕ)
      → logins_of H now subject ≡ logins_of F now subject
  subject_logins_same sound now soon subject =
      logins_same H F now subject (λ d. subject_login_same sound now soon d subject)
