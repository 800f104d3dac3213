-- The tables after each kind of change, as the functions that make the change need them. Key
-- results:
--   clients_by .. reuses_by, same_consents .. same_reuses    the tables after each kind of change
--   revoke_row, code_row, out_row, reuse_row   a table after one more key
use Rattle.std.proofs.Math.Bool.{and-true as and_yes}
use Rattle.std.proofs.Common.{◌≡◌, ℕ, ◌≤◌, Bool, true, false, ◌&&◌, ◌||◌, not, ◌==◌, cond, List}
use Rattle.std.proofs.Common.{Some, None, refl, sym, ap, subst, ◌∙◌}
use Rattle.std.specs.Option.{option_map}
use Rattle.std.specs.Ordering.{eq_by_cmp}
use Rattle.std.specs.Str.{bytes_eq}
use Rattle.std.specs.BTreeMap.{BTreeMap}
use Rattle.std.specs.BTreeSet.{BTreeSet, contains}
use Rattle.std.specs.FinMap as map
use Rattle.tk_handle.specs.declared.dot.Dot.{Dot}
use Rattle.tk_handle.specs.declared.token_id.TokenId.{TokenId}
use Rattle.tk_handle.specs.Dot.{IsDot, dot_cmp}
use Rattle.tk_handle.specs.Ranges.{max_moment}
use Rattle.tk_ledger.specs.declared.change.RevokedToken as revoked
use Rattle.tk_store.specs.FactSet.{FactSet}
use Rattle.tk_ledger.specs.Bodies.{is_same_dot, is_same_token}
use Rattle.tk_ledger.specs.Clients.{is_withdrawn}
use Rattle.tk_ledger.specs.Changes.{change_in, adds, retires_of, gives_to, withdraws_of, revokes_of}
use Rattle.tk_ledger.specs.Changes.{reuses_of}
use Rattle.tk_ledger.specs.Index.{row_at, row_added, row_retired, is_at, IsClients, is_listed}
use Rattle.tk_ledger.specs.Index.{IsConsents, IsWithdrawals, revocation_cmp, revocation_key}
use Rattle.tk_ledger.specs.Index.{is_listed_revocation, IsRevocations, reuse_cmp, reuse_key}
use Rattle.tk_ledger.specs.Index.{is_listed_reuse, IsReuses}
use Rattle.tk_ledger.specs.SubjectTables.{code_cmp, code_key, is_listed_code, IsCodes, out_cmp}
use Rattle.tk_ledger.specs.SubjectTables.{out_key, left_after, is_listed_out, IsOuts}
use Rattle.tk_ledger.specs.declared.change.Change.{Change}
use Rattle.tk_ledger.specs.declared.change.Change.TheVariants as change
use Rattle.tk_ledger.specs.declared.client_rows.ClientRow.{ClientRow}
use Rattle.tk_ledger.specs.declared.consent_keys.ConsentKey.{ConsentKey}
use Rattle.tk_ledger.specs.declared.reuses.ReuseKey.{ReuseKey}
use Rattle.tk_ledger.specs.declared.revocations.Revocation.{Revocation}
use Rattle.tk_ledger.specs.declared.subject_keys.CodeKey.{CodeKey}
use Rattle.tk_ledger.specs.declared.subject_keys.OutKey.{OutKey}
use Rattle.tk_ledger.proofs.KeyLaws.{at_is_same}
use Rattle.tk_ledger.proofs.ReuseLaws.{reuse_tied, RangedReuses, reuses_on, reuses_ranged}
use Rattle.tk_ledger.proofs.ReuseLaws.{reuses_alike}
use Rattle.tk_ledger.proofs.TableLaws.{clients_on, consents_on, Ranged, withdrawals_on}
use Rattle.tk_ledger.proofs.RevocationLaws.{revocation_tied, RangedRevocations, revocations_on}
use Rattle.tk_ledger.proofs.RevocationLaws.{revocations_ranged, revocations_alike}
use Rattle.tk_ledger.proofs.SubjectKeyLaws.{code_tied, out_tied}
use Rattle.tk_ledger.proofs.SubjectTableLaws.{issuing, issues_to, issues_none, signs_out_by}
use Rattle.tk_ledger.proofs.SubjectTableLaws.{signs_none, unsigned_early, IsEarly, RangedCodes}
use Rattle.tk_ledger.proofs.SubjectTableLaws.{RangedOuts, codes_on, codes_ranged, codes_alike}
use Rattle.tk_ledger.proofs.SubjectTableLaws.{outs_on, outs_ranged, outs_alike}
use Rattle.tk_ledger.proofs.ForestLaws.{signs}
use Rattle.tk_ledger.proofs.ChangeLaws.{changed, or_cond}

-- ---- the tables

-- the table of clients after any change
pub clients_by : (G : FactSet) (d : Dot) (y : Change) (t u : BTreeMap Dot ClientRow)
    → option_map change_in (map.get G d) ≡ Some y → IsClients (map.remove G d) t
    → ((q : Dot) → row_added (row_at u q) ≡ ((adds y && is_at d q) || row_added (row_at t q)))
    → ((q : Dot) → row_retired (row_at u q) ≡ (retires_of q y || row_retired (row_at t q)))
    → IsClients G u
clients_by G d y t u h i a r =
    let x = changed G d y h in
    clients_on (map.remove G d) G d x.body t u x.more i
    (λ q. a q ∙ ap (λ z. (adds z && is_at d q) || row_added (row_at t q)) (sym x.is))
    (λ q. r q ∙ ap (λ z. retires_of q z || row_retired (row_at t q)) (sym x.is))

-- the table of consents after any change
pub consents_by : (G : FactSet) (d : Dot) (y : Change) (t u : BTreeSet ConsentKey)
    → option_map change_in (map.get G d) ≡ Some y → IsConsents (map.remove G d) t → Ranged u
    → ((client : Dot) (subject : List ℕ) (q : Dot)
    → is_listed u client subject q
    ≡ ((((gives_to client subject y && is_at d q) && not (is_withdrawn (map.remove G d) q))
    || is_listed t client subject q)
    && not (withdraws_of q y)))
    → IsConsents G u
consents_by G d y t u h i ranged l =
    let x = changed G d y h in
    consents_on (map.remove G d) G d x.body t u x.more i ranged
    (λ client subject q.
    l client subject q
    ∙ ap (λ z. (((gives_to client subject z && is_at d q) && not (is_withdrawn (map.remove G d) q))
    || is_listed t client subject q)
    && not (withdraws_of q z)) (sym x.is))

-- a change that gives and withdraws no consent leaves the consents
pub same_consents : (G : FactSet) (d : Dot) (y : Change) (t : BTreeSet ConsentKey)
    → option_map change_in (map.get G d) ≡ Some y
    → ((client : Dot) (subject : List ℕ) → gives_to client subject y ≡ false)
    → ((q : Dot) → withdraws_of q y ≡ false) → IsConsents (map.remove G d) t → IsConsents G t
same_consents G d y t h none kept i = consents_by G d y t t h i i.ranged
    (λ client subject q.
    still (gives_to client subject y) (is_at d q) (is_withdrawn (map.remove G d) q)
    (is_listed t client subject q) (withdraws_of q y) (none client subject) (kept q))
  where
    still : (g a w x v : Bool) → g ≡ false → v ≡ false → x ≡ ((((g && a) && not w) || x) && not v)
    still g a w x v h k = rw (h, k) (sym (and_yes x))

-- the table of withdrawals after any change
pub withdrawals_by : (G : FactSet) (d : Dot) (y : Change) (t u : BTreeSet Dot)
    → option_map change_in (map.get G d) ≡ Some y → IsWithdrawals (map.remove G d) t
    → ((q : Dot) → contains dot_cmp u q ≡ (withdraws_of q y || contains dot_cmp t q))
    → IsWithdrawals G u
withdrawals_by G d y t u h i w = let x = changed G d y h in
    withdrawals_on (map.remove G d) G d x.body t u x.more i
    (λ q. w q ∙ ap (λ z. withdraws_of q z || contains dot_cmp t q) (sym x.is))

-- the table of revocations after any change
revocations_by : (G : FactSet) (d : Dot) (y : Change) (t u : BTreeSet Revocation)
    → option_map change_in (map.get G d) ≡ Some y → IsRevocations (map.remove G d) t
    → RangedRevocations u
    → ((k : TokenId) (digest : List ℕ) (client q : Dot)
    → is_listed_revocation u k digest client q
    ≡ ((revokes_of k digest client y && is_at d q) || is_listed_revocation t k digest client q))
    → IsRevocations G u
revocations_by G d y t u h i ranged r =
    let x = changed G d y h in
    revocations_on (map.remove G d) G d x.body t u x.more i ranged
    (λ k g c q. r k g c q
    ∙ ap (λ z. (revokes_of k g c z && is_at d q) || is_listed_revocation t k g c q) (sym x.is))

-- the table with the key of a revocation
pub revoke_row : (G : FactSet) (d : Dot) (f : revoked.RevokedToken) (t u : BTreeSet Revocation)
    → option_map change_in (map.get G d) ≡ Some (change.Revoke f) → IsRevocations (map.remove G d) t
    → IsDot d
    → ((e : Revocation)
    → contains revocation_cmp u e
    ≡ cond (eq_by_cmp revocation_cmp (revocation_key f.token f.digest f.client d) e) true
    (contains revocation_cmp t e))
    → IsRevocations G u
revoke_row G d f t u h i here r = revocations_by G d (change.Revoke f) t u h i
    (revocations_ranged t u d (λ k g c. revokes_of k g c (change.Revoke f)) here i.ranged own)
    (λ k g c q. own k g c q
    ∙ ap (λ x. (revokes_of k g c (change.Revoke f) && x) || is_listed_revocation t k g c q)
    (sym (at_is_same d q)))
  where
    own : (k : TokenId) (g : List ℕ) (c q : Dot)
        → is_listed_revocation u k g c q
        ≡ ((revokes_of k g c (change.Revoke f) && is_same_dot d q)
        || is_listed_revocation t k g c q)
    own k g c q = r (revocation_key k g c q)
        ∙ or_cond
        (eq_by_cmp revocation_cmp (revocation_key f.token f.digest f.client d)
        (revocation_key k g c q)) (is_listed_revocation t k g c q)
        ∙ ap (λ x. x || is_listed_revocation t k g c q)
        (revocation_tied f.token k f.digest g f.client c d q)

-- a table of revocations with the same keys
pub revocations_same : (G : FactSet) (d : Dot) (t u : BTreeSet Revocation)
    → IsRevocations (map.remove G d) t
    → ((e : Revocation) → contains revocation_cmp u e ≡ contains revocation_cmp t e)
    → IsRevocations (map.remove G d) u
revocations_same G d t u i same = revocations_alike (map.remove G d) t u i same

-- a change that revokes nothing leaves the revocations
pub same_revocations : (G : FactSet) (d : Dot) (y : Change) (t : BTreeSet Revocation)
    → option_map change_in (map.get G d) ≡ Some y
    → ((k : TokenId) (digest : List ℕ) (client : Dot) → revokes_of k digest client y ≡ false)
    → IsRevocations (map.remove G d) t → IsRevocations G t
same_revocations G d y t h none i = revocations_by G d y t t h i i.ranged
    (λ k g c q. sym (ap (λ b. (b && is_at d q) || is_listed_revocation t k g c q) (none k g c)))

-- the table of codes after any change
codes_by : (G : FactSet) (d : Dot) (y : Change) (t u : BTreeSet CodeKey)
    → option_map change_in (map.get G d) ≡ Some y → IsCodes (map.remove G d) t → RangedCodes u
    → ((prefix start : ℕ) (q : Dot)
    → is_listed_code u prefix start q
    ≡ ((issues_to prefix start y && is_at d q) || is_listed_code t prefix start q))
    → IsCodes G u
codes_by G d y t u h i ranged l =
    let x = changed G d y h in
    codes_on (map.remove G d) G d x.body t u x.more i ranged
    (λ prefix start q.
    l prefix start q
    ∙ ap (λ z. (issues_to prefix start z && is_at d q) || is_listed_code t prefix start q)
    (sym x.is))

-- the table of sign-outs after any change
outs_by : (G : FactSet) (d : Dot) (y : Change) (t u : BTreeSet OutKey)
    → option_map change_in (map.get G d) ≡ Some y → IsOuts (map.remove G d) t → RangedOuts u
    → IsEarly y
    → ((subject : List ℕ) (left : ℕ) (q : Dot)
    → is_listed_out u subject left q
    ≡ ((signs_out_by subject left y && is_at d q) || is_listed_out t subject left q))
    → IsOuts G u
outs_by G d y t u h i ranged early l =
    let x = changed G d y h in
    outs_on (map.remove G d) G d x.body t u x.more i ranged (subst IsEarly (sym x.is) early)
    (λ subject left q.
    l subject left q
    ∙ ap (λ z. (signs_out_by subject left z && is_at d q) || is_listed_out t subject left q)
    (sym x.is))

-- a change that issues no code leaves the codes; a change that signs out nobody, the sign-outs
pub same_codes : (G : FactSet) (d : Dot) (y : Change) (t : BTreeSet CodeKey)
    → option_map change_in (map.get G d) ≡ Some y → issuing y ≡ None → IsCodes (map.remove G d) t
    → IsCodes G t
same_codes G d y t h none i = codes_by G d y t t h i i.ranged
    (λ prefix start q.
    sym (ap (λ b. (b && is_at d q) || is_listed_code t prefix start q)
    (issues_none prefix start y none)))

-- the table of sign-outs stays after a change that signs nobody out
pub same_outs : (G : FactSet) (d : Dot) (y : Change) (t : BTreeSet OutKey)
    → option_map change_in (map.get G d) ≡ Some y → signs y ≡ false → IsOuts (map.remove G d) t
    → IsOuts G t
same_outs G d y t h none i = outs_by G d y t t h i i.ranged (unsigned_early y none)
    (λ subject left q.
    sym (ap (λ b. (b && is_at d q) || is_listed_out t subject left q)
    (signs_none subject left y none)))

-- the table of reuses after any change
reuses_by : (G : FactSet) (d : Dot) (y : Change) (t u : BTreeSet ReuseKey)
    → option_map change_in (map.get G d) ≡ Some y → IsReuses (map.remove G d) t → RangedReuses u
    → ((k : TokenId) (q : Dot)
    → is_listed_reuse u k q ≡ ((reuses_of k y && is_at d q) || is_listed_reuse t k q))
    → IsReuses G u
reuses_by G d y t u h i ranged l =
    let x = changed G d y h in
    reuses_on (map.remove G d) G d x.body t u x.more i ranged
    (λ k q. l k q ∙ ap (λ z. (reuses_of k z && is_at d q) || is_listed_reuse t k q) (sym x.is))

-- a change that is no reuse leaves the reuses
pub same_reuses : (G : FactSet) (d : Dot) (y : Change) (t : BTreeSet ReuseKey)
    → option_map change_in (map.get G d) ≡ Some y → ((k : TokenId) → reuses_of k y ≡ false)
    → IsReuses (map.remove G d) t → IsReuses G t
same_reuses G d y t h none i = reuses_by G d y t t h i i.ranged
    (λ k q. sym (ap (λ b. (b && is_at d q) || is_listed_reuse t k q) (none k)))

-- a table of codes with the same keys
pub codes_same : (G : FactSet) (d : Dot) (t u : BTreeSet CodeKey) → IsCodes (map.remove G d) t
    → ((k : CodeKey) → contains code_cmp u k ≡ contains code_cmp t k) → IsCodes (map.remove G d) u
codes_same G d t u i same = codes_alike (map.remove G d) t u i same

-- a table of sign-outs with the same keys
pub outs_same : (G : FactSet) (d : Dot) (t u : BTreeSet OutKey) → IsOuts (map.remove G d) t
    → ((k : OutKey) → contains out_cmp u k ≡ contains out_cmp t k) → IsOuts (map.remove G d) u
outs_same G d t u i same = outs_alike (map.remove G d) t u i same

-- a table of reuses with the same keys
pub reuses_same : (G : FactSet) (d : Dot) (t u : BTreeSet ReuseKey) → IsReuses (map.remove G d) t
    → ((k : ReuseKey) → contains reuse_cmp u k ≡ contains reuse_cmp t k)
    → IsReuses (map.remove G d) u
reuses_same G d t u i same = reuses_alike (map.remove G d) t u i same

-- the table with the key of a reuse
pub reuse_row : (G : FactSet) (d : Dot) (j : TokenId) (t u : BTreeSet ReuseKey)
    → option_map change_in (map.get G d) ≡ Some (change.Mark j) → IsReuses (map.remove G d) t
    → IsDot d
    → ((e : ReuseKey)
    → contains reuse_cmp u e
    ≡ cond (eq_by_cmp reuse_cmp (reuse_key j d) e) true (contains reuse_cmp t e))
    → IsReuses G u
reuse_row G d j t u h i here r = reuses_by G d (change.Mark j) t u h i
    (reuses_ranged t u d (λ k. is_same_token j k) here i.ranged own)
    (λ k q. own k q
    ∙ ap (λ x. (is_same_token j k && x) || is_listed_reuse t k q) (sym (at_is_same d q)))
  where
    own : (k : TokenId) (q : Dot)
        → is_listed_reuse u k q ≡ ((is_same_token j k && is_same_dot d q) || is_listed_reuse t k q)
    own k q = r (reuse_key k q)
        ∙ or_cond (eq_by_cmp reuse_cmp (reuse_key j d) (reuse_key k q)) (is_listed_reuse t k q)
        ∙ ap (λ x. x || is_listed_reuse t k q) (reuse_tied j k d q)

-- the table with the key of a code
pub code_row : (G : FactSet) (d : Dot) (prefix start : ℕ) (t u : BTreeSet CodeKey)
    → option_map change_in (map.get G d) ≡ Some (change.Issue prefix start)
    → IsCodes (map.remove G d) t → IsDot d
    → ((k : CodeKey)
    → contains code_cmp u k
    ≡ cond (eq_by_cmp code_cmp (code_key prefix start d) k) true (contains code_cmp t k))
    → IsCodes G u
code_row G d prefix start t u h i here r =
    codes_by G d (change.Issue prefix start) t u h i
    (codes_ranged t u d (λ g n. (prefix == g) && (start == n)) here i.ranged own)
    (λ g n q. own g n q
    ∙ ap (λ x. (((prefix == g) && (start == n)) && x) || is_listed_code t g n q)
    (sym (at_is_same d q)))
  where
    regroup : (a b c : Bool) → (a && (b && c)) ≡ ((a && b) && c)
    regroup true b c = refl
    regroup false b c = refl

    own : (g n : ℕ) (q : Dot)
        → is_listed_code u g n q
        ≡ ((((prefix == g) && (start == n)) && is_same_dot d q) || is_listed_code t g n q)
    own g n q = r (code_key g n q)
        ∙ or_cond (eq_by_cmp code_cmp (code_key prefix start d) (code_key g n q))
        (is_listed_code t g n q)
        ∙ ap (λ x. x || is_listed_code t g n q)
        (code_tied prefix g start n d q
        ∙ regroup (prefix == g) (start == n) (is_same_dot d q))

-- the table with the key of a sign-out
pub out_row : (G : FactSet) (d : Dot) (subject : List ℕ) (moment : ℕ) (t u : BTreeSet OutKey)
    → option_map change_in (map.get G d) ≡ Some (change.SignOut subject moment)
    → IsOuts (map.remove G d) t → IsDot d → moment ≤ max_moment
    → ((k : OutKey)
    → contains out_cmp u k
    ≡ cond (eq_by_cmp out_cmp (out_key subject (left_after moment) d) k) true
    (contains out_cmp t k))
    → IsOuts G u
out_row G d subject moment t u h i here early r =
    outs_by G d (change.SignOut subject moment) t u h i
    (outs_ranged t u d (λ g l. bytes_eq subject g && (left_after moment == l)) here i.ranged own)
    early
    (λ g l q. own g l q
    ∙ ap (λ x. ((bytes_eq subject g && (left_after moment == l)) && x) || is_listed_out t g l q)
    (sym (at_is_same d q)))
  where
    regroup : (a b c : Bool) → (a && (b && c)) ≡ ((a && b) && c)
    regroup true b c = refl
    regroup false b c = refl

    own : (g : List ℕ) (l : ℕ) (q : Dot)
        → is_listed_out u g l q
        ≡ (((bytes_eq subject g && (left_after moment == l)) && is_same_dot d q)
        || is_listed_out t g l q)
    own g l q = r (out_key g l q)
        ∙ or_cond (eq_by_cmp out_cmp (out_key subject (left_after moment) d) (out_key g l q))
        (is_listed_out t g l q)
        ∙ ap (λ x. x || is_listed_out t g l q)
        (out_tied subject g (left_after moment) l d q
        ∙ regroup (bytes_eq subject g) (left_after moment == l) (is_same_dot d q))
