-- From the horizon on, a handle's status by a store is that by the facts for which the store
-- stands, or both are lost. Key results:
--   never_over                a family that is not over at the moment wasn't at the horizon
--   state_same                the state of a token whose family is not over
--   status_stands             the statuses
use Rattle.std.proofs.Common.{◌≡◌, ◌≢◌, inl, inr, ℕ, ◌≤◌, ◌<◌, true, ◌&&◌, not, Option, None, Some}
use Rattle.std.proofs.Common.{refl, sym, ap, subst, ◌∙◌, arith}
use Rattle.std.proofs.lemmas.Bool.{cases_lt}
use Rattle.std.specs.Option.{option_and_then}
use Rattle.std.specs.FinMap as map
use Rattle.tk_handle.specs.declared.dot.Dot.{Dot}
use Rattle.tk_handle.specs.declared.handle.Handle.{Handle}
use Rattle.tk_handle.specs.declared.kind.Kind.TheVariants as kind
use Rattle.tk_handle.specs.declared.token_id.TokenId.{TokenId}
use Rattle.tk_family.specs.Families.{IsUnder, IsUsed}
use Rattle.tk_family.proofs.FamilyLaws.{IsUnder-one, use_of-within}
use Rattle.tk_fact.specs.Tokens.{MintedFields, minted_of}
use Rattle.tk_fact.specs.declared.body.Body.{Body}
use Rattle.tk_fact.specs.declared.code_issued.CodeIssued as issued
use Rattle.tk_store.specs.FactSet.{FactSet, IsSubset}
use Rattle.tk_store.specs.Slots.{Slot, Held, Skipped, held_slot, is_skipped, is_skipped_slot}
use Rattle.tk_store.specs.StoreFields.{StoreFields, held_facts}
use Rattle.tk_store.proofs.PutLaws.{some_injective}
use Rattle.tk_store.proofs.SlotLaws.{get_held}
use Rattle.tk_ledger.specs.Clients.{gives, is_live_consent}
use Rattle.tk_ledger.specs.Retention.{mints}
use Rattle.tk_ledger.specs.StandingFields.{StandingFields}
use Rattle.tk_ledger.specs.Status.{generation_of, state_in, standing_in, digest_of, with_digest}
use Rattle.tk_ledger.specs.Status.{minted_as, status_by, status_in, status_here}
use Rattle.tk_ledger.specs.Tokens.{links_in, anchor_in, IsMintedUnder, issued_at, minted_in, Root}
use Rattle.tk_ledger.specs.Tokens.{root_in, is_used, is_ended, is_dead}
use Rattle.tk_ledger.specs.declared.status.Status.{Status}
use Rattle.tk_ledger.specs.declared.status.Status.TheVariants.{Broken, Known}
use Rattle.tk_ledger.proofs.HereLaws.{here_held, here_skipped, here_unknown}
use Rattle.tk_ledger.proofs.KeyLaws.{same_tests}
use Rattle.tk_ledger.proofs.RootLaws.{links-below, minted-below, minted-under-below, root-sound}
use Rattle.tk_ledger.proofs.RootLaws.{root-complete}
use Rattle.tk_ledger.proofs.TokenLaws.{is_dead-sound, is_dead-complete, is_used-sound}
use Rattle.tk_ledger.proofs.TokenLaws.{is_used-complete, is_ended-sound, is_ended-complete}
use Rattle.tk_ledger.proofs.TokenGrowthLaws.{IsDead-below, IsEnded-below}
use Rattle.tk_ledger.specs.Alike.{IsLost, AnsweredAlike}
use Rattle.tk_retention.specs.StandsFor.{StandsFor, AreSound}
use Rattle.tk_retention.proofs.LastingLaws.{live_client_same, consent_same, withdrawn_same}
use Rattle.tk_retention.proofs.OverLaws.{IsOver, none_some, over_here}
use Rattle.tk_ledger.proofs.RootLaws.{minted-linked as minted_linked}
use Rattle.tk_retention.proofs.StandingLaws.{all_made, at_skipped, at_held, may_skip, held_made}
use Rattle.tk_retention.proofs.StandingLaws.{held_part, minted_held, code_held}
use Rattle.tk_retention.proofs.DeathStandingLaws.{ended_held, used_held, dead_held}
use Rattle.tk_retention.proofs.StatusParts.{code_or_not, code_root, issued_below}
use Rattle.tk_ledger.proofs.TopLaws.{digest_kept}
use Rattle.tk_retention.proofs.StatusParts.{lost_known, mint_mints, state_by}

-- a moment up to one that is up to a third is up to the third
later : (a b c : ℕ) → a ≤ b → b ≤ c → a ≤ c
later a b c h k = omega (arith, h, k)

-- ---- a family that is not over

module _ (P : StoreFields) (U F : FactSet) (S : StandsFor P U F) where
  -- the facts that the store holds
  abbrev H : FactSet
  H = held_facts P

  module _ (now : ℕ) (soon : P.horizon ≤ now) (root : Root)
      (issues : issued_at (map.get F) root.code ≡ Some root.issued)
      (early : now < root.issued.family_end) where
    -- a family that is not over at the moment was not over at the horizon
    pub never_over : IsOver U P.horizon root.code → ⊥
    never_over over =
        let same : over.code ≡ root.issued = some_injective over.code root.issued
        (sym over.is ∙ issued_below F U (all_made P U F S) root.code root.issued issues) in
        let end : over.code.family_end ≡ root.issued.family_end =
        ap (λ (c : issued.CodeIssued). c.family_end) same in
        let past = over.over in
        absurd (omega (arith, end, past, soon, early))

    -- the family is dead by both sets or by neither
    dead_same : is_dead H root.code ≡ is_dead F root.code
    dead_same = same_tests (is_dead H root.code) (is_dead F root.code)
        (λ h. is_dead-complete F root.code
        (IsDead-below H F (held_part P U F S) root.code (is_dead-sound H root.code h)))
        (λ h. elim (dead_held P U F S root.code (is_dead-sound F root.code h)) [
          | inl dead ↦ is_dead-complete H root.code dead
          | inr over ↦ absurd (never_over over)
        ])

    module _ (sound : AreSound U) (k : TokenId)
        (under : IsMintedUnder (map.get F) k.dot root.code) where
      -- the token is minted under the root by all facts made
      made : IsMintedUnder (map.get U) k.dot root.code
      made = minted-under-below F U (all_made P U F S) k.dot root.code under

      -- a token that is used has a link at its dot
      made_used : IsUsed (links_in (map.get F)) k → IsUnder (links_in (map.get U)) k.dot root.code
      made_used u =
          let parent = sound.parents u.user k
          (use_of-within (links_in (map.get F)) (links_in (map.get U))
          (links-below F U (all_made P U F S)) u.user (links_in (map.get F) u.user) k refl u.by) in
          minted_linked (map.get U) k.dot root.code parent.above parent.there made

      -- the token is used by both sets or by neither
      used_same : is_used H k ≡ is_used F k
      used_same = same_tests (is_used H k) (is_used F k)
          (λ h. any_more h)
          (λ h. elim (used_held P U F S root.code k (is_used-sound F k h)
          (made_used (is_used-sound F k h))) [
            | inl used ↦ is_used-complete H k used
            | inr over ↦ absurd (never_over over)
          ])
        where
          any_more : is_used H k ≡ true → is_used F k ≡ true
          any_more h =
              let u = is_used-sound H k h in
              is_used-complete F k
              (record {
                user = u.user;
                by = use_of-within (links_in (map.get H)) (links_in (map.get F))
                    (links-below H F (held_part P U F S)) u.user (links_in (map.get H) u.user) k
                    refl u.by;
              })

      -- the token is ended by both sets or by neither
      ended_same : is_ended H k ≡ is_ended F k
      ended_same = same_tests (is_ended H k) (is_ended F k)
          (λ h. is_ended-complete F k
          (IsEnded-below H F (held_part P U F S) k (is_ended-sound H k h)))
          (λ h. elim (ended_held P U F S root.code k (is_ended-sound F k h) made) [
            | inl ended ↦ is_ended-complete H k ended
            | inr over ↦ absurd (never_over over)
          ])

      -- the consent of the root is live by both sets or by neither
      live_consent_same : is_live_consent H root.issued ≡ is_live_consent F root.issued
      live_consent_same = λ i. gives root.issued.client root.issued.subject
          (consent_same P U F S root.issued.consent i)
          && not (withdrawn_same P U F S root.issued.consent i)

      -- the state of a token whose family is not over
      pub state_same : (m : MintedFields) → state_in H now k m root ≡ state_in F now k m root
      state_same m = λ i. state_by (dead_same i) (live_client_same P U F S root.issued.client i)
          (live_consent_same i) (used_same i) (ended_same i) now k m root

      -- the standing of a token whose family is not over is the same by the facts held and by those
      -- that the store stands for
      pub standing_same : (b : Body) (m : MintedFields)
          → standing_in H now k b m root ≡ standing_in F now k b m root
      standing_same b m = (let state = state_same m in λ i. record {
        client = root.issued.client;
        subject = root.issued.subject;
        code = root.code;
        issued = root.issued;
        scope = m.scope;
        start = m.start;
        expiry = m.expiry;
        family_end = root.issued.family_end;
        generation = generation_of b;
        state = state i;
      })

  -- ---- the statuses

  module _ (sound : AreSound U) (now : ℕ) (soon : P.horizon ≤ now) (h : Handle) where
    -- an access or refresh token of a family that is over is past
    past_by : (m : MintedFields) (c : Dot) (code : issued.CodeIssued)
        → minted_in (map.get U) h.id ≡ Some m → IsMintedUnder (map.get U) h.id.dot c
        → issued_at (map.get U) c ≡ Some code → code.family_end ≤ now → h.id.kind ≢ kind.Code
        → m.expiry ≤ now
    past_by m c code mints under issues over other =
        later m.expiry code.family_end now (sound.ends h.id m c code other mints under issues) over

    -- what the facts mint for a handle is minted by all facts made
    minted_up : (m : MintedFields) → minted_as (map.get F) h ≡ Some m
        → minted_in (map.get U) h.id ≡ Some m
    minted_up m is = minted-below F U (all_made P U F S) h.id m
        (digest_kept (digest_of h) (minted_in (map.get F) h.id) m is)

    -- what is known of a token whose family is over, whatever its root is taken to be
    lost_by : (G : FactSet) → IsSubset G U
        → (b : Body) (m : MintedFields) (c : Dot) (code : issued.CodeIssued)
        → minted_in (map.get U) h.id ≡ Some m → IsMintedUnder (map.get U) h.id.dot c
        → issued_at (map.get U) c ≡ Some code → code.family_end ≤ now
        → (r : Option Root) → root_in (map.get G) h.id.dot ≡ r → (h.id.kind ≡ kind.Code → r ≢ None)
        → IsLost now h (status_by G now h.id (Some b) (Some m) r)
    lost_by G w b m c code mints under issues over None is rooted =
        elim (code_or_not h.id.kind) [
          | inl code ↦ absurd (rooted code refl)
          | inr other ↦ (other, past_by m c code mints under issues over other)
        ]
    lost_by G w b m c code mints under issues over (Some root) is rooted =
        let p = root-sound G h.id.dot root is in
        let same : root.code ≡ c = IsUnder-one (links_in (map.get U))
        (anchor_in (map.get U) h.id.dot) root.code c
        (minted-under-below G U w h.id.dot root.code p.0) under in
        let one : root.issued ≡ code = some_injective root.issued code
        (sym (issued_below G U w root.code root.issued p.1) ∙ ap (issued_at (map.get U)) same
        ∙ issues) in
        let end : root.issued.family_end ≤ now =
        subst (λ (x : issued.CodeIssued). x.family_end ≤ now) (sym one) over in
        lost_known G now h b m root end (past_by m c code mints under issues over)

    -- a code that is minted has a root
    rooted : (G : FactSet) (m : MintedFields) → minted_in (map.get G) h.id ≡ Some m
        → (r : Option Root) → root_in (map.get G) h.id.dot ≡ r → h.id.kind ≡ kind.Code → r ≢ None
    rooted G m mints r is code = λ none. code_root G h.id m code mints (is ∙ none)

    -- ---- a skipped dot

    -- a handle whose dot is skipped is lost by the facts
    lost_skipped : is_skipped P.slots h.id.dot ≡ true → (o : Option Body) (m : Option MintedFields)
        → map.get F h.id.dot ≡ o → minted_as (map.get F) h ≡ m
        → IsLost now h (status_by F now h.id o m (root_in (map.get F) h.id.dot))
    lost_skipped skipped None m at is =
        let may = may_skip P U F S h.id.dot skipped in
        absurd (none_some (map.get F h.id.dot) may.fact at
        (at_skipped P U F S h.id.dot skipped ∙ may.here))
    lost_skipped skipped (Some b) None at is = tt
    lost_skipped skipped (Some b) (Some m) at is =
        let may = may_skip P U F S h.id.dot skipped in
        let minted : minted_in (map.get F) h.id ≡ Some m =
        digest_kept (digest_of h) (minted_in (map.get F) h.id) m is in
        let same : may.fact ≡ b =
        some_injective may.fact b (sym may.here ∙ sym (at_skipped P U F S h.id.dot skipped) ∙ at) in
        let mint : mints may.fact ≡ true = ap mints same
        ∙ mint_mints b h.id.kind m
        (sym (ap (option_and_then (λ (x : Body). minted_of x h.id.kind)) at) ∙ minted) in
        let o = over_here U P.horizon sound h.id.dot may mint in
        lost_by F (all_made P U F S) b m o.root o.code (minted_up m is) o.under o.issues
        (later o.code.family_end P.horizon now o.over soon)
        (root_in (map.get F) h.id.dot) refl (rooted F m minted (root_in (map.get F) h.id.dot) refl)

    -- ---- a fact that is held

    -- a token without a root among the facts has none among those that are held
    broken_same : (b : Body) (m : MintedFields) (r : Option Root)
        → root_in (map.get F) h.id.dot ≡ None → root_in (map.get H) h.id.dot ≡ r
        → status_by H now h.id (Some b) (Some m) r ≡ Broken m.expiry
    broken_same b m None none is = refl
    broken_same b m (Some root) none is =
        let p = root-sound H h.id.dot root is in
        absurd (none_some (root_in (map.get F) h.id.dot)
        (record { code = root.code; issued = root.issued }) none
        (root-complete F h.id.dot root.code root.issued
        (minted-under-below H F (held_part P U F S) h.id.dot root.code p.0)
        (issued_below H F (held_part P U F S) root.code root.issued p.1)))

    -- a minted token, with a root or without, is answered alike by both sets
    by_root : (b : Body) (m : MintedFields) → minted_in (map.get F) h.id ≡ Some m
        → minted_in (map.get H) h.id ≡ Some m → (r : Option Root) → root_in (map.get F) h.id.dot ≡ r
        → AnsweredAlike now h
        (status_by H now h.id (Some b) (Some m) (root_in (map.get H) h.id.dot))
        (status_by F now h.id (Some b) (Some m) r)
    by_root b m mints held None is = inl (broken_same b m (root_in (map.get H) h.id.dot) is refl)
    by_root b m mints held (Some root) is = elim (cases_lt now root.issued.family_end) [
      | inl early ↦ inl (open_root early)
      | inr over ↦ inr (
        lost_by H (held_made P U F S) b m root.code root.issued
            (minted-below F U (all_made P U F S) h.id m mints) made issued over
            (root_in (map.get H) h.id.dot) refl
            (rooted H m held (root_in (map.get H) h.id.dot) refl),
        lost_by F (all_made P U F S) b m root.code root.issued
            (minted-below F U (all_made P U F S) h.id m mints) made issued over (Some root) is
            (λ code none. some_none root none),
      )
    ]
      where
        some_none : (x : Root) → Some x ≡ None → ⊥
        some_none x e = cc

        p : IsMintedUnder (map.get F) h.id.dot root.code
            × (issued_at (map.get F) root.code ≡ Some root.issued)
        p = root-sound F h.id.dot root is

        made : IsMintedUnder (map.get U) h.id.dot root.code
        made = minted-under-below F U (all_made P U F S) h.id.dot root.code p.0

        issued : issued_at (map.get U) root.code ≡ Some root.issued
        issued = issued_below F U (all_made P U F S) root.code root.issued p.1

        -- the family is not over: the root is held, and the standing is the same
        open_root : now < root.issued.family_end
            → status_by H now h.id (Some b) (Some m) (root_in (map.get H) h.id.dot)
            ≡ Known (standing_in F now h.id b m root)
        open_root early =
            let under : IsMintedUnder (map.get H) h.id.dot root.code =
            elim (minted_held P U F S h.id.dot root.code p.0) [
              | inl u ↦ u
              | inr over ↦ absurd (never_over now soon root p.1 early over)
            ] in
            let issues : issued_at (map.get H) root.code ≡ Some root.issued =
            elim (code_held P U F S root.code root.issued p.1) [
              | inl i ↦ i
              | inr over ↦ absurd (never_over now soon root p.1 early over)
            ] in
            ap (status_by H now h.id (Some b) (Some m))
            (root-complete H h.id.dot root.code root.issued under issues)
            ∙ ap (λ (s : StandingFields). Known s)
            (standing_same now soon root p.1 early sound h.id p.0 b m)

    -- a handle at a held fact, which mints its token or not, is answered alike by both sets
    by_mint : (b : Body) → map.get F h.id.dot ≡ Some b → map.get H h.id.dot ≡ Some b
        → (m : Option MintedFields) → minted_as (map.get F) h ≡ m
        → AnsweredAlike now h (status_by H now h.id (Some b) m (root_in (map.get H) h.id.dot))
        (status_by F now h.id (Some b) m (root_in (map.get F) h.id.dot))
    by_mint b at held None is = inl refl
    by_mint b at held (Some m) is =
        let mints : minted_in (map.get F) h.id ≡ Some m =
        digest_kept (digest_of h) (minted_in (map.get F) h.id) m is in
        by_root b m mints
        (ap (option_and_then (λ (x : Body). minted_of x h.id.kind)) (held ∙ sym at) ∙ mints)
        (root_in (map.get F) h.id.dot) refl

    -- ---- the slot at the handle's dot

    -- a handle is answered alike by both sets, with each slot at its dot
    by_slot : (o : Option Slot) → map.get P.slots h.id.dot ≡ o
        → AnsweredAlike now h (status_here P now h) (status_in F now h)
    by_slot None at =
        let free : map.get F h.id.dot ≡ None = at_held P U F S h.id.dot (ap is_skipped_slot at)
        ∙ get_held P.slots h.id.dot ∙ ap held_slot at in
        inl (here_unknown P now h at
        ∙ sym (ap (λ (o : Option Body).
        status_by F now h.id o (minted_as (map.get F) h) (root_in (map.get F) h.id.dot)) free))
    by_slot (Some Skipped) at =
        inr (
          subst (IsLost now h) (sym (here_skipped P now h at)) tt,
          lost_skipped (ap is_skipped_slot at) (map.get F h.id.dot) (minted_as (map.get F) h) refl
              refl,
        )
    by_slot (Some (Held b)) at =
        let held : map.get H h.id.dot ≡ Some b = get_held P.slots h.id.dot ∙ ap held_slot at in
        let here : map.get F h.id.dot ≡ Some b =
        at_held P U F S h.id.dot (ap is_skipped_slot at) ∙ held in
        let mint : minted_as (map.get H) h ≡ minted_as (map.get F) h =
        ap (λ (o : Option Body).
        with_digest (digest_of h) (option_and_then (λ (x : Body). minted_of x h.id.kind) o))
        (held ∙ sym here) in
        let left : status_here P now h
        ≡ status_by H now h.id (Some b) (minted_as (map.get F) h) (root_in (map.get H) h.id.dot) =
        here_held P now h b at
        ∙ (λ i. status_by H now h.id (held i) (mint i) (root_in (map.get H) h.id.dot)) in
        let right : status_in F now h
        ≡ status_by F now h.id (Some b) (minted_as (map.get F) h) (root_in (map.get F) h.id.dot) =
        ap (λ (o : Option Body).
        status_by F now h.id o (minted_as (map.get F) h) (root_in (map.get F) h.id.dot)) here in
        subst (λ (x : Status). AnsweredAlike now h x (status_in F now h)) (sym left)
        (subst (AnsweredAlike now h
        (status_by H now h.id (Some b) (minted_as (map.get F) h) (root_in (map.get H) h.id.dot)))
        (sym right)
        (by_mint b here held (minted_as (map.get F) h) refl))

-- from the horizon on, the statuses of a handle by the store and by the facts stood for are
-- answered alike
pub status_stands : (P : StoreFields) (U F : FactSet) → StandsFor P U F → AreSound U → (now : ℕ)
    → P.horizon ≤ now → (h : Handle) → AnsweredAlike now h (status_here P now h) (status_in F now h)
status_stands P U F S sound now soon h =
    by_slot P U F S sound now soon h (map.get P.slots h.id.dot) refl
