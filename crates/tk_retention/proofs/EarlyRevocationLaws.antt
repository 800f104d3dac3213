-- A token that is known and hasn't expired is revoked by a store exactly if it is by the facts for
-- which the store stands. Key result: revoked_early
use Rattle.std.proofs.Common.{◌≡◌, ◌≢◌, ◌⊎◌, inl, inr, ℕ, ◌≤◌, ◌<◌, List, Option, None, Some, refl}
use Rattle.std.proofs.Common.{ap, subst, ◌∙◌, arith}
use Rattle.std.specs.FinMap as map
use Rattle.tk_handle.specs.declared.dot.Dot.{Dot}
use Rattle.tk_handle.specs.declared.handle.Handle.{Handle}
use Rattle.tk_handle.specs.declared.kind.Kind.TheVariants as kind
use Rattle.tk_fact.specs.Tokens.{MintedFields}
use Rattle.tk_fact.specs.declared.body.Body.{Body}
use Rattle.tk_store.specs.FactSet.{FactSet}
use Rattle.tk_store.specs.Slots.{Slot, Held, Skipped, held_slot}
use Rattle.tk_store.specs.StoreFields.{StoreFields, held_facts}
use Rattle.tk_store.proofs.SlotLaws.{get_held}
use Rattle.tk_ledger.specs.Retention.{IsOverAt, MintsNothing}
use Rattle.tk_ledger.specs.Status.{digest_of, minted_as, status_by, status_here}
use Rattle.tk_ledger.specs.Tokens.{minted_in, Root, root_in, is_revoked}
use Rattle.tk_ledger.proofs.HereLaws.{here_held, here_skipped, here_unknown}
use Rattle.tk_ledger.proofs.KeyLaws.{same_tests}
use Rattle.tk_ledger.proofs.RootLaws.{minted-below}
use Rattle.tk_ledger.proofs.TokenLaws.{is_revoked-sound, is_revoked-complete}
use Rattle.tk_query.specs.Anew.{IsEarly}
use Rattle.tk_retention.specs.StandsFor.{StandsFor, AreSound}
use Rattle.tk_retention.proofs.LastingLaws.{revoked_up}
use Rattle.tk_retention.proofs.StandingLaws.{held_made}
use Rattle.tk_retention.proofs.DeathStandingLaws.{revoked_held}
use Rattle.tk_retention.proofs.StatusParts.{mints_some}
use Rattle.tk_ledger.proofs.TopLaws.{digest_kept}

-- ---- revocations

module _ (P : StoreFields) (U F : FactSet) (S : StandsFor P U F) (sound : AreSound U) (now : ℕ)
    (soon : P.horizon ≤ now) (h : Handle) where
  -- what is known of a token that hasn't expired was minted
  early_minted : IsEarly now (status_here P now h)
      → (m : MintedFields) × (minted_in (map.get (held_facts P)) h.id ≡ Some m) × (now < m.expiry)
  early_minted early = by (map.get P.slots h.id.dot) refl
    where
      by_root : (b : Body) (m : MintedFields) (r : Option Root)
          → IsEarly now (status_by (held_facts P) now h.id (Some b) (Some m) r) → now < m.expiry
      by_root b m None e = e
      by_root b m (Some root) e = e

      by_mint : (b : Body) (o : Option MintedFields) → minted_as (map.get (held_facts P)) h ≡ o
          → IsEarly now
          (status_by (held_facts P) now h.id (Some b) o (root_in (map.get (held_facts P)) h.id.dot))
          → (m : MintedFields) × (minted_in (map.get (held_facts P)) h.id ≡ Some m)
          × (now < m.expiry)
      by_mint b None is e = absurd e
      by_mint b (Some m) is e = (
        m,
        digest_kept (digest_of h) (minted_in (map.get (held_facts P)) h.id) m is,
        by_root b m (root_in (map.get (held_facts P)) h.id.dot) e,
      )

      by : (o : Option Slot) → map.get P.slots h.id.dot ≡ o
          → (m : MintedFields) × (minted_in (map.get (held_facts P)) h.id ≡ Some m)
          × (now < m.expiry)
      by None at = absurd (subst (IsEarly now) (here_unknown P now h at) early)
      by (Some Skipped) at = absurd (subst (IsEarly now) (here_skipped P now h at) early)
      by (Some (Held b)) at =
          let held : map.get (held_facts P) h.id.dot ≡ Some b =
          get_held P.slots h.id.dot ∙ ap held_slot at in
          by_mint b (minted_as (map.get (held_facts P)) h) refl
          (subst (IsEarly now)
          (here_held P now h b at
          ∙ ap (λ (o : Option Body).
          status_by (held_facts P) now h.id o (minted_as (map.get (held_facts P)) h)
          (root_in (map.get (held_facts P)) h.id.dot)) held) early)

  -- the revocations of such a token are held
  pub revoked_early : (digest : List ℕ) (client : Dot) → h.id.kind ≢ kind.Code
      → IsEarly now (status_here P now h)
      → is_revoked (held_facts P) h.id digest client ≡ is_revoked F h.id digest client
  revoked_early digest client other early =
      same_tests (is_revoked (held_facts P) h.id digest client) (is_revoked F h.id digest client)
      (revoked_up P U F S h.id digest client)
      (λ revoked. elim (revoked_held P U F S h.id digest client
      (is_revoked-sound F h.id digest client revoked)) [
        | inl held ↦ is_revoked-complete (held_facts P) h.id digest client held
        | inr why ↦ absurd (never (early_minted early) why)
      ])
    where
      never : (m : MintedFields) × (minted_in (map.get (held_facts P)) h.id ≡ Some m)
          × (now < m.expiry)
          → IsOverAt (map.get U) P.horizon h.id.dot ⊎ MintsNothing (map.get U) h.id.dot → ⊥
      never x (inr none) = mints_some (map.get U) h.id x.0
          (minted-below (held_facts P) U (held_made P U F S) h.id x.0 x.1) none
      never x (inl o) =
          let end : x.0.expiry ≤ o.code.family_end =
          sound.ends h.id x.0 o.root o.code other
          (minted-below (held_facts P) U (held_made P U F S) h.id x.0 x.1) o.under o.issues in
          let over = o.over in
          let left = x.2 in
          omega (arith, end, over, soon, left)
