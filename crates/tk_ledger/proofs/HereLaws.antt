-- The status of a handle by what a store knows. Key results:
--   here_held, here_skipped, here_unknown   the status by the slot at the handle's dot
--   here_known, active_here                 a standing, and the status of an active token
--   says_here, known_here, live_here, sound_here
--                                           what the status means
use Rattle.std.proofs.Common.{◌≡◌, ◌≢◌, ◌↔◌, ℕ, true, false, cond, Option, Some, None, refl, sym}
use Rattle.std.proofs.Common.{ap, ◌∙◌}
use Rattle.std.specs.Option.{option_and_then}
use Rattle.std.specs.FinMap as map
use Rattle.tk_handle.specs.declared.handle.Handle.{Handle}
use Rattle.tk_handle.specs.declared.kind.Kind.TheVariants as kind
use Rattle.tk_fact.specs.declared.body.Body.{Body}
use Rattle.tk_fact.specs.Tokens.{MintedFields, minted_of}
use Rattle.tk_store.specs.FactSet.{FactSet, IsFactSet}
use Rattle.tk_store.specs.Slots.{Slot, Held, Skipped, held_slot, is_skipped, is_skipped_slot}
use Rattle.tk_store.specs.StoreFields.{StoreFields, held_facts}
use Rattle.tk_store.proofs.PutLaws.{none_is_not_some}
use Rattle.tk_store.proofs.SlotLaws.{get_held, whole_free}
use Rattle.tk_ledger.specs.StandingFields.{StandingFields}
use Rattle.tk_ledger.specs.Standings.{IsSound}
use Rattle.tk_ledger.specs.Status.{status_by, status_in, status_here, minted_as, IsKnownToken}
use Rattle.tk_ledger.specs.Status.{IsKnown, IsLive, IsActive, Says, SaysHere}
use Rattle.tk_ledger.specs.Tokens.{minted_in, root_in}
use Rattle.tk_ledger.specs.declared.status.Status.{Status}
use Rattle.tk_ledger.specs.declared.status.Status.TheVariants.{Unseen, Wrong, Broken, Known}
use Rattle.tk_ledger.proofs.StandingLaws.{sound_status}
use Rattle.tk_ledger.proofs.StatusCases.{says, known_exactly}
use Rattle.tk_ledger.proofs.StatusLaws.{live_exactly}
use Rattle.tk_store.proofs.SlotLaws.{marked_is as skipped_slot}

module _ (P : StoreFields) (now : ℕ) (h : Handle) where
  -- the facts that the store holds
  abbrev F : FactSet
  F = held_facts P

  -- ---- the status by the slot at the handle's dot

  -- at a dot that holds a fact the status is that by the facts held
  pub here_held : (b : Body) → map.get P.slots h.id.dot ≡ Some (Held b)
      → status_here P now h ≡ status_in F now h
  here_held b at = ap (λ (o : Option Slot). cond (is_skipped_slot o) Wrong (status_in F now h)) at

  -- at a skipped dot the status is wrong
  pub here_skipped : map.get P.slots h.id.dot ≡ Some Skipped → status_here P now h ≡ Wrong
  here_skipped at = ap (λ (o : Option Slot). cond (is_skipped_slot o) Wrong (status_in F now h)) at

  -- at an unknown dot the status is unseen
  pub here_unknown : map.get P.slots h.id.dot ≡ None → status_here P now h ≡ Unseen
  here_unknown at =
      ap (λ (o : Option Slot). cond (is_skipped_slot o) Wrong (status_in F now h)) at
      ∙ ap (λ (o : Option Body).
      status_by F now h.id o (minted_as (map.get F) h) (root_in (map.get F) h.id.dot))
      (get_held P.slots h.id.dot ∙ ap held_slot at)

  -- what holds of Wrong at a skipped dot, and of the status by facts elsewhere, holds by the store
  by_test : (R : Status → Type 0) → (map.get P.slots h.id.dot ≡ Some Skipped → R Wrong)
      → (is_skipped P.slots h.id.dot ≡ false → R (status_in F now h)) → R (status_here P now h)
  by_test R gone here =
      elim (is_skipped P.slots h.id.dot) as
      (λ t. is_skipped P.slots h.id.dot ≡ t → R (cond t Wrong (status_in F now h))) [
        | true ↦ λ is. gone (skipped_slot (map.get P.slots h.id.dot) is)
        | false ↦ here
      ] refl

  -- ---- what the status means

  -- no token was minted at a skipped dot, as far as the facts that are held go
  none_minted : (m : MintedFields) → map.get P.slots h.id.dot ≡ Some Skipped
      → minted_in (map.get F) h.id ≡ Some m → ⊥
  none_minted m at mints = none_is_not_some m
      (sym (ap (option_and_then (λ (b : Body). minted_of b h.id.kind))
      (get_held P.slots h.id.dot ∙ ap held_slot at))
      ∙ mints)

  -- if the dot isn't skipped, what a status says by the facts held is so by the store
  from_says : (x : Status) → is_skipped P.slots h.id.dot ≡ false → Says (map.get F) h x
      → SaysHere P h x
  from_says Unseen whole s = whole_free P.slots h.id.dot whole s
  from_says Wrong whole s = (λ none. s.0 (get_held P.slots h.id.dot ∙ ap held_slot none), s.1)
  from_says (Broken expiry) whole s = s
  from_says (Known standing) whole s = s

  -- the status says what the store knows of the handle
  pub says_here : SaysHere P h (status_here P now h)
  says_here = by_test (SaysHere P h)
      (λ at. (
        λ none. none_is_not_some Skipped (sym none ∙ at),
        λ t. none_minted t.minted at t.mints,
      ))
      (λ whole. from_says (status_in F now h) whole (says F now h))

  -- the status is a known one exactly if the handle's token is known
  pub known_here : IsKnown (status_here P now h) ↔ IsKnownToken (map.get F) h
  known_here = by_test (λ x. IsKnown x ↔ IsKnownToken (map.get F) h)
      (λ at. (λ known. absurd known, λ t. none_minted t.0.minted at t.0.mints))
      (λ _. known_exactly F now h)

  -- the status of an access or refresh handle is live exactly if its token is active
  pub live_here : h.id.kind ≢ kind.Code → IsLive (status_here P now h) ↔ IsActive (map.get F) now h
  live_here no_code = by_test (λ x. IsLive x ↔ IsActive (map.get F) now h)
      (λ at. (λ live. absurd live, λ a. none_minted a.minted at a.mints))
      (λ _. live_exactly F now h no_code)

  -- a standing is that by the facts that are held
  pub here_known : (s : StandingFields) → status_here P now h ≡ Known s
      → status_in F now h ≡ Known s
  here_known s =
      by_test (λ x. x ≡ Known s → status_in F now h ≡ Known s) (λ at e. absurd (cc)) (λ _ e. e)

  -- the status of an active token is that by the facts that are held
  pub active_here : IsActive (map.get F) now h → status_here P now h ≡ status_in F now h
  active_here a = by_test (λ x. x ≡ status_in F now h)
      (λ at. absurd (none_minted a.minted at a.mints)) (λ _. refl)

  -- the status is sound if each fact held passes its check
  pub sound_here : IsFactSet F → IsSound now (status_here P now h)
  sound_here sound = by_test (IsSound now) (λ _. tt) (λ _. sound_status F now h sound)
