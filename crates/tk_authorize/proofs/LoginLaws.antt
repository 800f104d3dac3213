-- A login whose code was redeemed is not dead. Key results:
--   used_lives   the family of a login that is used is not dead
--   used_ends    its judgement is by the revocation that ends it
use Rattle.std.proofs.Common.{◌≡◌, ℕ, Bool, true, false, cond, Option, None, Some, refl}
use Rattle.std.proofs.Common.{sym, ap, ◌∙◌}
use Rattle.std.specs.FinMap as map
use Rattle.std.specs.Prelude.{nat_le}
use Rattle.tk_handle.specs.declared.dot.Dot.{Dot}
use Rattle.tk_handle.specs.declared.token_id.TokenId.{TokenId}
use Rattle.tk_fact.specs.Tokens.{MintedFields}
use Rattle.tk_fact.specs.declared.code_issued.CodeIssued as issued
use Rattle.tk_fact.specs.declared.token_revoked.TokenRevoked as revoked
use Rattle.tk_store.specs.FactSet.{FactSet}
use Rattle.tk_ledger.specs.Logins.{code_token, ending_of, login_by_code, login_of, login_view}
use Rattle.tk_ledger.specs.Logins.{minted_code}
use Rattle.tk_ledger.specs.Status.{state_in}
use Rattle.tk_ledger.specs.Tokens.{Root, is_dead, issued_at}
use Rattle.tk_ledger.specs.ViewFields.{LoginFields}
use Rattle.tk_ledger.specs.declared.status.State.{State}
use Rattle.tk_ledger.specs.declared.status.State.TheVariants as state
use Rattle.tk_authorize.specs.Logouts.{ended_at, ended_by, ended_in}

-- a state that is not the first is that of a family that is not dead
first_is : (dead : Bool) (s : State) → cond dead state.Dead s ≡ state.Used → dead ≡ false
first_is true s is = absurd (cc)
first_is false s is = refl

-- the family of a token whose state is Used is not dead
used_in : (F : FactSet) (now : ℕ) (k : TokenId) (minted : MintedFields) (root : Root)
    → state_in F now k minted root ≡ state.Used → is_dead F root.code ≡ false
used_in F now k minted root is = first_is (is_dead F root.code) _ is

-- for `used_lives`: by the code that was issued at the dot, if there is one
by_code : (F : FactSet) (now : ℕ) (d : Dot) (o : Option issued.CodeIssued) (l : LoginFields)
    → login_by_code F now d o ≡ Some l → l.state ≡ state.Used → is_dead F d ≡ false
by_code F now d None l is used = absurd (cc)
by_code F now d (Some code) l is used = over (nat_le code.family_end now) is
  where
    over : (t : Bool) → cond t None (Some (login_of F now d code)) ≡ Some l → is_dead F d ≡ false
    over true is = absurd (cc)
    over false is =
        let same : login_of F now d code ≡ l = cc in
        used_in F now (code_token d) (minted_code code) (record { code = d; issued = code })
        (ap (λ (x : LoginFields). x.state) same ∙ used)

-- the code of a login whose state is Used is not dead
pub used_lives : (F : FactSet) (now : ℕ) (d : Dot) (l : LoginFields)
    → login_view F now d ≡ Some l → l.state ≡ state.Used → is_dead F d ≡ false
used_lives F now d l is used = by_code F now d (issued_at (map.get F) d) l is used

-- a login whose state is Used is judged by a revocation that is the one that ends it, at least if
-- its code is not dead
pub used_ends : (F : FactSet) (now : ℕ) (d : Dot) (l : LoginFields)
    (ending : Option revoked.TokenRevoked)
    → login_view F now d ≡ Some l → l.state ≡ state.Used
    → (is_dead F d ≡ false → ending ≡ ending_of F d)
    → ended_by d ending ≡ ended_at F d (login_view F now d)
used_ends F now d l ending is used ends =
    ap (ended_by d) (ends (used_lives F now d l is used))
    ∙ sym (ap (ended_at F d) is ∙ ap (ended_in F d) used)
