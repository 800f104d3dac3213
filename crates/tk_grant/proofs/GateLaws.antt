-- The gate of the token endpoint opens for minted tokens alone. Key results:
--   IsOpenFor   the standing is that of a minted token, of a code that was issued
--   OpensFor    what a gate that opens knows of the token
--   open_for    a gate opens for a token that is known
--   by_gate     the gate by a parameter
use Rattle.std.proofs.Common.{◌≡◌, ◌≢◌, ℕ, ◌==◌, ◌+◌, Bool, true, false, cond}
use Rattle.std.proofs.Common.{List, Option, None, Some, refl, sym, ap, subst, ◌∙◌}
use Rattle.std.proofs.Common.{arith}
use Rattle.std.proofs.lemmas.Bool.{true≢false}
use Rattle.std.proofs.lemmas.Bool.Decides.{nat_tests}
use Rattle.std.specs.FinMap as map
use Rattle.tk_handle.specs.Handle.{handle_in}
use Rattle.tk_handle.specs.Kind.{kind_number}
use Rattle.tk_handle.specs.declared.dot.Dot.{Dot}
use Rattle.tk_handle.specs.declared.handle.Handle.{Handle}
use Rattle.tk_handle.specs.declared.kind.Kind.{Kind}
use Rattle.tk_handle.specs.declared.kind.Kind.TheVariants as kind
use Rattle.tk_handle.specs.declared.token_id.TokenId.{TokenId}
use Rattle.tk_family.specs.declared.link.Link.{Link}
use Rattle.tk_family.specs.declared.link.Link.TheVariants.{Redeems, Rotates}
use Rattle.tk_family.specs.Families.{IsUnder, fits}
use Rattle.tk_fact.specs.Tokens.{MintedFields, minted_of}
use Rattle.tk_fact.specs.declared.body.Body.{Body}
use Rattle.tk_fact.specs.declared.body.Body.TheVariants as body
use Rattle.tk_store.specs.FactSet.{FactSet}
use Rattle.tk_store.specs.Slots.{is_skipped}
use Rattle.tk_store.specs.StoreFields.{StoreFields, held_facts}
use Rattle.std.specs.Option.{option_and_then}
use Rattle.tk_store.proofs.PutLaws.{none_is_not_some}
use Rattle.tk_ledger.specs.Bodies.{is_same_dot}
use Rattle.tk_ledger.specs.StandingFields.{StandingFields}
use Rattle.tk_ledger.specs.Status.{generation_of, status_here, status_in}
use Rattle.tk_ledger.specs.Tokens.{link_of, links_in, issued_at, minted_in}
use Rattle.tk_ledger.specs.declared.status.State.{State}
use Rattle.tk_ledger.specs.declared.status.State.TheVariants as state
use Rattle.tk_ledger.specs.declared.status.Status.{Status}
use Rattle.tk_ledger.specs.declared.status.Status.TheVariants.{Unseen, Wrong, Broken, Known}
use Rattle.tk_ledger.proofs.RootLaws.{anchor-linked}
use Rattle.tk_ledger.proofs.StatusCases.{Knows, known_parts}
use Rattle.tk_grant.specs.Gate.{gate_by_state, gate_by_client, gate_by_status, gate_by_handle}
use Rattle.tk_grant.specs.Gate.{gate_by_text, gate_of}
use Rattle.tk_grant.specs.Within.{IsCodeOf, IsRotatable}
use Rattle.tk_grant.specs.declared.gate.Gate.{Gate}
use Rattle.tk_grant.specs.declared.gate.Gate.TheVariants.{Shut, Reuse, Open}
use Rattle.tk_grant.specs.declared.refusal.Refusal.TheVariants as refusal

-- the standing is that of a minted token
pub record IsOpenFor (F : FactSet) (id : TokenId) (s : StandingFields) : Type 0 where
  pub minted : minted_in (map.get F) id ≢ None
  pub under : id.kind ≡ kind.Refresh → IsUnder (links_in (map.get F)) id.dot s.code
  pub issued : IsCodeOf F s.code s.family_end
  pub rotates : id.kind ≡ kind.Refresh → IsRotatable F id.dot (s.generation + 1)

-- a gate that opens does so for a minted token, and one that finds a reuse names a minted token
abbrev pub OpensFor : FactSet → Gate → Type 0
OpensFor F (Shut why) = Unit {0}
OpensFor F (Reuse id) = minted_in (map.get F) id ≢ None
OpensFor F (Open id s) = IsOpenFor F id s

-- kinds with equal numbers are equal
kind_is : (a b : Kind) → kind_number a == kind_number b ≡ true → a ≡ b
kind_is kind.Code kind.Code h = refl
kind_is kind.Access kind.Access h = refl
kind_is kind.Refresh kind.Refresh h = refl
kind_is kind.Code kind.Access h = absurd (true≢false (sym h))
kind_is kind.Code kind.Refresh h = absurd (true≢false (sym h))
kind_is kind.Access kind.Code h = absurd (true≢false (sym h))
kind_is kind.Access kind.Refresh h = absurd (true≢false (sym h))
kind_is kind.Refresh kind.Code h = absurd (true≢false (sym h))
kind_is kind.Refresh kind.Access h = absurd (true≢false (sym h))

-- some value is not none
pub some_known : {A : Type 0} (o : Option A) (a : A) → o ≡ Some a → o ≢ None
some_known o a h none = none_is_not_some a (sym none ∙ h)

-- a status that a store knows is that of its facts
known_is : (P : StoreFields) (now : ℕ) (h : Handle) (s : StandingFields)
    → status_here P now h ≡ Known s → status_in (held_facts P) now h ≡ Known s
known_is P now h s = by (is_skipped P.slots h.id.dot)
  where
    no_wrong : Wrong ≡ Known s → ⊥
    no_wrong e = cc

    by : (t : Bool) → cond t Wrong (status_in (held_facts P) now h) ≡ Known s
        → status_in (held_facts P) now h ≡ Known s
    by true e = absurd (no_wrong e)
    by false e = e

-- what minted a refresh token is the parent of a rotation of the next generation
rotatable : (b : Body) (m : MintedFields) (d : Dot) → minted_of b kind.Refresh ≡ Some m
    → (above : Link) × (link_of b ≡ Some above)
    × (fits (Rotates d (generation_of b + 1)) above ≡ true)
rotatable (body.CodeRedeemed f) m d h = (Redeems f.code, refl, refl)
rotatable (body.RefreshRotated f) m d h =
    (Rotates f.parent f.generation, refl, same_number (f.generation + 1))
  where
    same_number : (n : ℕ) → n == n ≡ true
    same_number n = grind (arith, nat_tests)
rotatable b m d h = absurd (none_is_not_some m h)

-- a refresh token's fact is the parent of a rotation
parent_of : (P : StoreFields) (now : ℕ) (h : Handle) (k : Kind) (s : StandingFields)
    → h.id.kind ≡ k → Knows (held_facts P) now h s → k ≡ kind.Refresh
    → IsRotatable (held_facts P) h.id.dot (s.generation + 1)
parent_of P now h k s same x is =
    let made = ap (option_and_then (λ (b : Body). minted_of b h.id.kind)) (sym x.here) ∙ x.mints in
    let above =
    rotatable x.body x.minted h.id.dot (ap (minted_of x.body) (sym is ∙ sym same) ∙ made) in (
      above.0,
      ap (option_and_then link_of) x.here ∙ above.1,
      ap (λ n. fits (Rotates h.id.dot (n + 1)) above.0)
          (sym (ap (λ (y : StandingFields). y.generation) x.standing)) ∙ above.2,
    )

-- a gate opens for a token that is known
open_for : (P : StoreFields) (now : ℕ) (h : Handle) (k : Kind) (s : StandingFields) → h.id.kind ≡ k
    → status_here P now h ≡ Known s
    → IsOpenFor (held_facts P) (record { dot = h.id.dot; kind = k }) s
open_for P now h k s same e =
    let x : Knows (held_facts P) now h s =
    known_parts (held_facts P) now h s (known_is P now h s e) in
    record {
      minted = some_known (minted_in (map.get (held_facts P)) (record { dot = h.id.dot; kind = k }))
          x.minted
          (ap (λ (y : Kind).
          minted_in (map.get (held_facts P)) (record { dot = h.id.dot; kind = y })) (sym same)
          ∙ x.mints);
      under = λ is.
          let above = parent_of P now h k s same x is in
          subst (IsUnder (links_in (map.get (held_facts P))) h.id.dot)
          (ap (λ (y : StandingFields). y.code) x.standing)
          (subst (λ (q : Dot). IsUnder (links_in (map.get (held_facts P))) q x.root.code)
          (anchor-linked (map.get (held_facts P)) h.id.dot above.0 above.1) x.under);
      rotates = λ is. parent_of P now h k s same x is;
      issued = (
        x.root.issued,
        ap (issued_at (map.get (held_facts P)))
            (sym (ap (λ (y : StandingFields). y.code) x.standing)) ∙ x.issues,
        sym (ap (λ (y : StandingFields). y.family_end) x.standing),
      );
    }

module _ (F : FactSet) (id : TokenId) (client : Dot) where
  -- the gate by the state of a token
  by_state : (s : StandingFields) (x : State) → IsOpenFor F id s → OpensFor F (gate_by_state id s x)
  by_state s state.Dead o = tt
  by_state s state.Withdrawn o = tt
  by_state s state.Over o = tt
  by_state s state.Used o = o.minted
  by_state s state.Past o = tt
  by_state s state.Ended o = tt
  by_state s state.Live o = o

  -- the gate by the client of a token
  by_client : (s : StandingFields) → IsOpenFor F id s → OpensFor F (gate_by_client id client s)
  by_client s o = elim (is_same_dot s.client client) as
      (λ t. OpensFor F (cond t (gate_by_state id s s.state) (Shut refusal.ForeignGrant))) [
        | true ↦ by_state s s.state o
        | false ↦ tt
      ]

module _ (P : StoreFields) (now : ℕ) where
  -- the facts of the store
  abbrev H : FactSet
  H = held_facts P

  -- the gate by the status of a handle
  by_status : (client : Dot) (k : Kind) (h : Handle) (s : Status) → h.id.kind ≡ k
      → status_here P now h ≡ s
      → OpensFor H (gate_by_status (record { dot = h.id.dot; kind = k }) client s)
  by_status client k h Unseen same e = tt
  by_status client k h Wrong same e = tt
  by_status client k h (Broken expiry) same e = tt
  by_status client k h (Known s) same e =
      by_client H (record { dot = h.id.dot; kind = k }) client s (open_for P now h k s same e)

  -- the gate by a handle
  by_handle : (client : Dot) (k : Kind) (h : Handle) → OpensFor H (gate_by_handle P now client k h)
  by_handle client k h =
      elim (kind_number h.id.kind == kind_number k) as
      (λ t. kind_number h.id.kind == kind_number k ≡ t
      → OpensFor H
      (cond t (gate_by_status (record { dot = h.id.dot; kind = k }) client (status_here P now h))
      (Shut refusal.UnknownGrant))) [
        | true ↦ λ e. by_status client k h (status_here P now h) (kind_is h.id.kind k e) refl
        | false ↦ λ e. tt
      ] refl

  -- the gate by a text that may be a handle
  by_text : (client : Dot) (k : Kind) (o : Option Handle)
      → OpensFor H (gate_by_text P now client k o)
  by_text client k None = tt
  by_text client k (Some h) = by_handle client k h

  -- the gate by a parameter
  pub by_gate : (client : Dot) (k : Kind) (o : Option (List ℕ))
      → OpensFor H (gate_of P now client k o)
  by_gate client k None = tt
  by_gate client k (Some text) = by_text client k (handle_in text)
