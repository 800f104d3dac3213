-- Small facts on states, minted tokens and lost handles, for the laws on statuses. Key results:
--   lost_known      a standing whose family is over is lost
--   code_root       a code has a root
--   mint_mints, mints_some   what mints a token, and that its dot mints something
--   issued_below    a code issued by some facts is issued by more
use Rattle.std.proofs.Common.{◌≡◌, ◌≢◌, ◌⊎◌, inl, inr, ℕ, ◌≤◌, Bool, true, false, ◌&&◌, not, nat_le}
use Rattle.std.proofs.Common.{cond, if◌then◌else◌, None, Some, refl, sym, ap, ◌∙◌}
use borrow.Author.Tests.{le-leb}
use Rattle.std.proofs.lemmas.Bool.{true≢false}
use Rattle.std.specs.Option.{option_and_then}
use Rattle.std.specs.FinMap as map
use Rattle.tk_handle.specs.declared.dot.Dot.{Dot}
use Rattle.tk_handle.specs.declared.handle.Handle.{Handle}
use Rattle.tk_handle.specs.declared.kind.Kind.{Kind}
use Rattle.tk_handle.specs.declared.kind.Kind.TheVariants as kind
use Rattle.tk_handle.specs.declared.token_id.TokenId.{TokenId}
use Rattle.tk_handle.specs.Kind.{is_access}
use Rattle.tk_fact.specs.Tokens.{MintedFields, minted_of}
use Rattle.tk_fact.specs.declared.body.Body.{Body}
use Rattle.tk_fact.specs.declared.body.Body.TheVariants as body
use Rattle.tk_fact.specs.declared.code_issued.CodeIssued as issued
use Rattle.tk_store.specs.FactSet.{FactSet, IsSubset}
use Rattle.tk_store.proofs.PutLaws.{none_is_not_some}
use Rattle.tk_ledger.specs.Bodies.{Bodies}
use Rattle.tk_ledger.specs.Clients.{is_live_client, is_live_consent}
use Rattle.tk_ledger.specs.Retention.{MintsNothing, mints}
use Rattle.tk_ledger.specs.Status.{standing_in}
use Rattle.tk_ledger.specs.Tokens.{issued_in, issued_at, minted_in, Root, root_in, is_used}
use Rattle.tk_ledger.specs.Tokens.{is_ended, is_dead}
use Rattle.tk_ledger.specs.declared.status.State.{State}
use Rattle.tk_ledger.specs.declared.status.State.TheVariants as state
use Rattle.tk_ledger.specs.declared.status.Status.TheVariants.{Known}
use Rattle.tk_ledger.proofs.RootLaws.{from_some, under-minted, root-complete}
use Rattle.tk_ledger.specs.Alike.{is_closed, IsLost}
use Rattle.tk_ledger.proofs.EndingLaws.{under_itself as code_under}
use Rattle.tk_retention.proofs.OverLaws.{none_some}

-- ---- states

-- the state of a token, by the tests for each state in their order
abbrev pub state_by : Bool → Bool → Bool → Bool → Bool → ℕ → TokenId → MintedFields → Root → State
state_by dead client consent used ended now k minted root =
    if dead then state.Dead
    else if not (client && consent) then state.Withdrawn
    else if nat_le root.issued.family_end now then state.Over
    else if not (is_access k.kind) && used then state.Used
    else if nat_le minted.expiry now then state.Past
    else if is_access k.kind && ended then state.Ended
    else state.Live

-- a token is closed once the end of its family has come
closed : (dead client consent used ended : Bool) (now : ℕ) (k : TokenId) (m : MintedFields)
    (root : Root)
    → root.issued.family_end ≤ now
    → is_closed (state_by dead client consent used ended now k m root) ≡ true
closed true client consent used ended now k m root over = refl
closed false client consent used ended now k m root over =
    let is = le-leb root.issued.family_end now over in
    elim (client && consent) as
    (λ t. is_closed
    (cond (not t) state.Withdrawn
    (cond (nat_le root.issued.family_end now) state.Over
    (cond (not (is_access k.kind) && used) state.Used
    (cond (nat_le m.expiry now) state.Past
    (cond (is_access k.kind && ended) state.Ended state.Live)))))
    ≡ true) [
      | true ↦ ap (λ t.
          is_closed
          (cond t state.Over
          (cond (not (is_access k.kind) && used) state.Used
          (cond (nat_le m.expiry now) state.Past
          (cond (is_access k.kind && ended) state.Ended state.Live))))) is
      | false ↦ refl
    ]

-- a standing whose family is over is lost
pub lost_known : (F : FactSet) (now : ℕ) (h : Handle) (b : Body) (m : MintedFields) (root : Root)
    → root.issued.family_end ≤ now → (h.id.kind ≢ kind.Code → m.expiry ≤ now)
    → IsLost now h (Known (standing_in F now h.id b m root))
lost_known F now h b m root over past = (
  closed (is_dead F root.code) (is_live_client F root.issued.client)
      (is_live_consent F root.issued) (is_used F h.id) (is_ended F h.id) now h.id m root over,
  past,
)

-- ---- small facts

-- a kind is Code, or another
pub code_or_not : (k : Kind) → (k ≡ kind.Code) ⊎ (k ≢ kind.Code)
code_or_not kind.Code = inl refl
code_or_not kind.Access = inr (λ e. cc)
code_or_not kind.Refresh = inr (λ e. cc)

-- a fact that mints a code issues a code
code_issues : (b : Body) (m : MintedFields) → minted_of b kind.Code ≡ Some m
    → (code : issued.CodeIssued) × (issued_in b ≡ Some code)
code_issues (body.CodeIssued c) m h = (c, refl)
code_issues b m h = absurd (none_is_not_some m h)

-- what mints a token of a kind mints
pub mint_mints : (b : Body) (k : Kind) (m : MintedFields) → minted_of b k ≡ Some m → mints b ≡ true
mint_mints (body.CodeIssued c) k m h = refl
mint_mints (body.CodeRedeemed r) k m h = refl
mint_mints (body.RefreshRotated r) k m h = refl
mint_mints (body.AccessRefreshed r) k m h = refl
mint_mints b k m h = absurd (none_is_not_some m h)

-- a token that was minted is at no dot that mints nothing
pub mints_some : (body_at : Bodies) (k : TokenId) (m : MintedFields) → minted_in body_at k ≡ Some m
    → MintsNothing body_at k.dot → ⊥
mints_some body_at k m is none =
    true≢false
    (sym (mint_mints none.fact k.kind m
    (sym (ap (option_and_then (λ (x : Body). minted_of x k.kind)) none.here) ∙ is))
    ∙ none.barren)

-- the fact that minted a code issued it
mint_code : (F : FactSet) (k : TokenId) (m : MintedFields) → k.kind ≡ kind.Code
    → minted_in (map.get F) k ≡ Some m
    → (code : issued.CodeIssued) × (issued_at (map.get F) k.dot ≡ Some code)
mint_code F k m is h =
    let x = from_some (λ (b : Body). minted_of b k.kind) (map.get F k.dot) m h in
    let y = code_issues x.0 m (sym (ap (minted_of x.0) is) ∙ x.2) in
    (y.0, ap (option_and_then issued_in) x.1 ∙ y.1)

-- a code has a root
pub code_root : (F : FactSet) (k : TokenId) (m : MintedFields) → k.kind ≡ kind.Code
    → minted_in (map.get F) k ≡ Some m → root_in (map.get F) k.dot ≢ None
code_root F k m is h none =
    let code = mint_code F k m is h in
    none_some (root_in (map.get F) k.dot) (record { code = k.dot; issued = code.0 }) none
    (root-complete F k.dot k.dot code.0
    (under-minted (map.get F) k.dot k.dot (code_under F k.dot code.0 code.1)) code.1)

-- a code issued by some facts is issued by more
pub issued_below : (F G : FactSet) → IsSubset F G → (c : Dot) (code : issued.CodeIssued)
    → issued_at (map.get F) c ≡ Some code → issued_at (map.get G) c ≡ Some code
issued_below F G w c code is = (let x = from_some issued_in (map.get F c) code is in
    ap (option_and_then issued_in) (w c x.0 x.1) ∙ x.2)
