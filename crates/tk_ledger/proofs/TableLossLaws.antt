-- The tables follow the set when that loses a fact. Key results:
--   clients_less .. outs_less          tables that have no key of the fact
--   codes_less, revocations_less, reuses_less
--                                      a table without the key of the fact
--   code_dropped                       the codes after a key was removed again
use Rattle.std.proofs.Common.{◌≡◌, ℕ, Bool, true, false, ◌&&◌, ◌||◌, not, ◌==◌, cond, List, Some}
use Rattle.std.proofs.Common.{None, is_some, refl, sym, ap, ◌∙◌}
use Rattle.std.proofs.lemmas.Bool.{and_parts}
use Rattle.std.specs.Option.{option_and_then, option_map}
use Rattle.std.specs.Ordering.{eq_by_cmp}
use Rattle.std.specs.BTreeMap.{BTreeMap}
use Rattle.std.specs.BTreeSet.{BTreeSet, contains}
use Rattle.std.specs.FinMap as map
use Rattle.tk_handle.specs.declared.dot.Dot.{Dot}
use Rattle.tk_handle.specs.declared.token_id.TokenId.{TokenId}
use Rattle.tk_fact.specs.declared.body.Body.{Body}
use Rattle.tk_ledger.specs.declared.change.RevokedToken as revoked
use Rattle.tk_store.specs.FactSet.{FactSet}
use Rattle.tk_store.proofs.PutLaws.{none_is_not_some}
use Rattle.tk_store.proofs.OneMoreLaws.{OneMore, any_fact-more}
use Rattle.tk_ledger.specs.Bodies.{is_same_dot, is_same_token}
use Rattle.tk_ledger.specs.Changes.{change_in, adds, retires_of, gives_to, withdraws_of, revokes_of}
use Rattle.tk_ledger.specs.Changes.{reuses_of}
use Rattle.tk_ledger.specs.Clients.{client_at, retires, is_retired, consent_at, is_withdrawn}
use Rattle.tk_ledger.specs.Index.{is_at, IsClients, is_from, IsConsents, IsWithdrawals}
use Rattle.tk_ledger.specs.Index.{revocation_cmp, revocation_key, is_revocation_of}
use Rattle.tk_ledger.specs.Index.{is_listed_revocation, IsRevocations, reuse_cmp, reuse_key}
use Rattle.tk_ledger.specs.Index.{is_reuse_of, is_listed_reuse, IsReuses}
use Rattle.tk_ledger.specs.SignOuts.{sign_out_in, sign_out_at}
use Rattle.tk_ledger.specs.SubjectTables.{code_cmp, code_key, is_to, is_listed_code, IsCodes}
use Rattle.tk_ledger.specs.SubjectTables.{is_left_by, IsOuts}
use Rattle.tk_ledger.specs.Tokens.{issued_in, issued_at}
use Rattle.tk_ledger.specs.declared.change.Change.TheVariants as change
use Rattle.tk_ledger.specs.declared.client_rows.ClientRow.{ClientRow}
use Rattle.tk_ledger.specs.declared.consent_keys.ConsentKey.{ConsentKey}
use Rattle.tk_ledger.specs.declared.reuses.ReuseKey.{ReuseKey}
use Rattle.tk_ledger.specs.declared.revocations.Revocation.{Revocation}
use Rattle.tk_ledger.specs.declared.subject_keys.CodeKey.{CodeKey}
use Rattle.tk_ledger.specs.declared.subject_keys.OutKey.{OutKey}
use Rattle.tk_ledger.proofs.ChangeLaws.{changed}
use Rattle.tk_ledger.proofs.ForestLaws.{signs}
use Rattle.tk_ledger.proofs.KeyLaws.{at_is_same}
use Rattle.tk_ledger.proofs.ReuseLaws.{reuse_tied, reused_on}
use Rattle.tk_ledger.proofs.RevocationLaws.{revocation_tied, revoked_on}
use Rattle.tk_ledger.proofs.SameLaws.{same_dot-true}
use Rattle.tk_ledger.proofs.SubjectKeyLaws.{code_tied, code_tied-dot}
use Rattle.tk_ledger.proofs.SubjectTableLaws.{issuing, issues_to, issues_none, signs_none}
use Rattle.tk_ledger.proofs.SubjectTableLaws.{issued_on, signed_on, without}
use Rattle.tk_family.proofs.HangRemovalLaws.{less as fewer}
use Rattle.tk_ledger.proofs.TableLaws.{retires-change, added_on, given_on, withdrawn_on}

-- ---- tables that have no key of the fact

-- the table of clients after the loss of a fact that neither adds nor retires one
pub clients_less : (F G : FactSet) (d : Dot) (b : Body) (t : BTreeMap Dot ClientRow)
    → OneMore F G d b → adds (change_in b) ≡ false
    → ((q : Dot) → retires_of q (change_in b) ≡ false) → IsClients G t → IsClients F t
clients_less F G d b t m none kept i = record {
  added = λ q. i.added q ∙ sym (added_on F G d b q (is_some (client_at F q)) m refl)
      ∙ ap (λ a. (a && is_at d q) || is_some (client_at F q)) none;
  retired = λ q. i.retired q ∙ any_fact-more (retires q) F G d b m
      ∙ ap (λ a. a || is_retired F q) (retires-change q b ∙ kept q);
}

-- the table of consents after the loss of a fact that neither gives nor withdraws one
pub consents_less : (F G : FactSet) (d : Dot) (b : Body) (t : BTreeSet ConsentKey) → OneMore F G d b
    → ((client : Dot) (subject : List ℕ) → gives_to client subject (change_in b) ≡ false)
    → ((q : Dot) → withdraws_of q (change_in b) ≡ false) → IsConsents G t → IsConsents F t
consents_less F G d b t m none kept i = record {
  listed = λ c s q. i.listed c s q
      ∙ ap (λ x. x && not (is_withdrawn G q))
      (sym (given_on F G d b c s q (is_from c s (consent_at F q)) m refl)
      ∙ ap (λ a. (a && is_at d q) || is_from c s (consent_at F q)) (none c s))
      ∙ ap (λ x. is_from c s (consent_at F q) && not x)
      (sym (withdrawn_on F G d b q m) ∙ ap (λ a. a || is_withdrawn F q) (kept q));
  ranged = i.ranged;
}

-- the table of withdrawals after the loss of a fact that withdraws no consent
pub withdrawals_less : (F G : FactSet) (d : Dot) (b : Body) (t : BTreeSet Dot) → OneMore F G d b
    → ((q : Dot) → withdraws_of q (change_in b) ≡ false) → IsWithdrawals G t → IsWithdrawals F t
withdrawals_less F G d b t m none i q =
    i q ∙ sym (withdrawn_on F G d b q m) ∙ ap (λ a. a || is_withdrawn F q) (none q)

-- the table of revocations after the loss of a fact that revokes no token
pub revocations_kept : (F G : FactSet) (d : Dot) (b : Body) (t : BTreeSet Revocation)
    → OneMore F G d b
    → ((k : TokenId) (digest : List ℕ) (client : Dot)
    → revokes_of k digest client (change_in b) ≡ false) → IsRevocations G t → IsRevocations F t
revocations_kept F G d b t m none i = record {
  listed = λ k g c q. i.listed k g c q
      ∙ sym (revoked_on F G d b k g c q (is_revocation_of k g c (map.get F q)) m refl)
      ∙ ap (λ a. (a && is_at d q) || is_revocation_of k g c (map.get F q)) (none k g c);
  ranged = i.ranged;
}

-- the table of sign-outs after the loss of a fact that signs nobody out
pub outs_less : (F G : FactSet) (d : Dot) (b : Body) (t : BTreeSet OutKey) → OneMore F G d b
    → signs (change_in b) ≡ false → IsOuts G t → IsOuts F t
outs_less F G d b t m none i = record {
  listed = λ s l q. i.listed s l q
      ∙ sym (signed_on F G d b s l q (is_left_by s l (sign_out_at (map.get F) q)) m refl)
      ∙ ap (λ a. (a && is_at d q) || is_left_by s l (sign_out_at (map.get F) q))
      (signs_none s l (change_in b) none);
  ranged = i.ranged;
  early = λ q f h. i.early q f
      (ap (option_and_then sign_out_in)
      (m.there q
      (λ same. none_is_not_some f
      (sym (ap (option_and_then sign_out_in) (ap (map.get F) same ∙ m.free)) ∙ h)))
      ∙ h);
}

-- the table of codes after the loss of a fact that issues none
pub codes_kept : (F G : FactSet) (d : Dot) (b : Body) (t : BTreeSet CodeKey) → OneMore F G d b
    → issuing (change_in b) ≡ None → IsCodes G t → IsCodes F t
codes_kept F G d b t m none i = record {
  listed = λ s n q. i.listed s n q
      ∙ sym (issued_on F G d b s n q (is_to s n (issued_at (map.get F) q)) m refl)
      ∙ ap (λ a. (a && is_at d q) || is_to s n (issued_at (map.get F) q))
      (issues_none s n (change_in b) none);
  ranged = i.ranged;
}

-- the table of reuses after the loss of a fact that reports none
pub reuses_kept : (F G : FactSet) (d : Dot) (b : Body) (t : BTreeSet ReuseKey) → OneMore F G d b
    → ((k : TokenId) → reuses_of k (change_in b) ≡ false) → IsReuses G t → IsReuses F t
reuses_kept F G d b t m none i = record {
  listed = λ k q. i.listed k q ∙ sym (reused_on F G d b k q (is_reuse_of k (map.get F q)) m refl)
      ∙ ap (λ a. (a && is_at d q) || is_reuse_of k (map.get F q)) (none k);
  ranged = i.ranged;
}

-- ---- tables without a key

-- the table without the key of a code
pub codes_less : (F G : FactSet) (d : Dot) (b : Body) (prefix start : ℕ)
    (t u : BTreeSet CodeKey) → OneMore F G d b → change_in b ≡ change.Issue prefix start
    → IsCodes G t
    → ((k : CodeKey)
    → contains code_cmp u k
    ≡ cond (eq_by_cmp code_cmp (code_key prefix start d) k) false (contains code_cmp t k))
    → IsCodes F u
codes_less F G d b prefix start t u m is i r = record {
  listed = listed;
  ranged = λ g n q h. i.ranged g n q
      (fewer (eq_by_cmp code_cmp (code_key prefix start d) (code_key g n q))
      (is_listed_code t g n q) (sym (r (code_key g n q)) ∙ h));
}
  where
    regroup : (a c e : Bool) → ((a && c) && e) ≡ (a && (c && e))
    regroup true c e = refl
    regroup false c e = refl

    before : (g n : ℕ) (q : Dot)
        → is_listed_code t g n q
        ≡ (eq_by_cmp code_cmp (code_key prefix start d) (code_key g n q)
        || is_to g n (issued_at (map.get F) q))
    before g n q =
        i.listed g n q ∙ sym (issued_on F G d b g n q (is_to g n (issued_at (map.get F) q)) m refl)
        ∙ ap (λ y. (issues_to g n y && is_at d q) || is_to g n (issued_at (map.get F) q)) is
        ∙ ap (λ a. (((prefix == g) && (start == n)) && a)
        || is_to g n (issued_at (map.get F) q)) (at_is_same d q)
        ∙ ap (λ a. a || is_to g n (issued_at (map.get F) q))
        (regroup (prefix == g) (start == n) (is_same_dot d q)
        ∙ sym (code_tied prefix g start n d q))

    gone : (g n : ℕ) (q : Dot)
        → eq_by_cmp code_cmp (code_key prefix start d) (code_key g n q) ≡ true
        → is_to g n (issued_at (map.get F) q) ≡ false
    gone g n q h =
        let same : d ≡ q = code_tied-dot prefix g start n d q h in
        ap (λ e. is_to g n (option_and_then issued_in e)) (ap (map.get F) (sym same) ∙ m.free)

    listed : (g n : ℕ) (q : Dot)
        → is_listed_code u g n q ≡ is_to g n (issued_at (map.get F) q)
    listed g n q =
        r (code_key g n q)
        ∙ ap (λ x. cond (eq_by_cmp code_cmp (code_key prefix start d) (code_key g n q)) false x)
        (before g n q)
        ∙ without (eq_by_cmp code_cmp (code_key prefix start d) (code_key g n q))
        (is_to g n (issued_at (map.get F) q)) (gone g n q)

-- the table after the key of a code was removed again
pub code_dropped : (G : FactSet) (d : Dot) (prefix start : ℕ) (t u : BTreeSet CodeKey)
    → option_map change_in (map.get G d) ≡ Some (change.Issue prefix start) → IsCodes G t
    → ((k : CodeKey)
    → contains code_cmp u k
    ≡ cond (eq_by_cmp code_cmp (code_key prefix start d) k) false (contains code_cmp t k))
    → IsCodes (map.remove G d) u
code_dropped G d prefix start t u h i r = let x = changed G d (change.Issue prefix start) h in
    codes_less (map.remove G d) G d x.body prefix start t u x.more x.is i r

-- the table without the key of a revocation
pub revocations_less : (F G : FactSet) (d : Dot) (b : Body) (f : revoked.RevokedToken)
    (t u : BTreeSet Revocation) → OneMore F G d b → change_in b ≡ change.Revoke f
    → IsRevocations G t
    → ((e : Revocation)
    → contains revocation_cmp u e
    ≡ cond (eq_by_cmp revocation_cmp (revocation_key f.token f.digest f.client d) e) false
    (contains revocation_cmp t e))
    → IsRevocations F u
revocations_less F G d b f t u m is i r = record {
  listed = listed;
  ranged = λ k g c q h. i.ranged k g c q
      (fewer (eq_by_cmp revocation_cmp (revocation_key f.token f.digest f.client d)
      (revocation_key k g c q)) (is_listed_revocation t k g c q) (sym (r (revocation_key k g c q))
      ∙ h));
}
  where
    before : (k : TokenId) (g : List ℕ) (c q : Dot)
        → is_listed_revocation t k g c q
        ≡ (eq_by_cmp revocation_cmp (revocation_key f.token f.digest f.client d)
        (revocation_key k g c q)
        || is_revocation_of k g c (map.get F q))
    before k g c q =
        i.listed k g c q
        ∙ sym (revoked_on F G d b k g c q (is_revocation_of k g c (map.get F q)) m refl)
        ∙ ap (λ y. (revokes_of k g c y && is_at d q) || is_revocation_of k g c (map.get F q)) is
        ∙ ap (λ a. (revokes_of k g c (change.Revoke f) && a)
        || is_revocation_of k g c (map.get F q)) (at_is_same d q)
        ∙ ap (λ a. a || is_revocation_of k g c (map.get F q))
        (sym (revocation_tied f.token k f.digest g f.client c d q))

    gone : (k : TokenId) (g : List ℕ) (c q : Dot)
        → eq_by_cmp revocation_cmp (revocation_key f.token f.digest f.client d)
        (revocation_key k g c q)
        ≡ true → is_revocation_of k g c (map.get F q) ≡ false
    gone k g c q h =
        let same : d ≡ q = same_dot-true d q
        (and_parts (revokes_of k g c (change.Revoke f)) (is_same_dot d q)
        (sym (revocation_tied f.token k f.digest g f.client c d q) ∙ h)).1 in
        ap (is_revocation_of k g c) (ap (map.get F) (sym same) ∙ m.free)

    listed : (k : TokenId) (g : List ℕ) (c q : Dot)
        → is_listed_revocation u k g c q ≡ is_revocation_of k g c (map.get F q)
    listed k g c q =
        r (revocation_key k g c q)
        ∙ ap (λ x. cond (eq_by_cmp revocation_cmp (revocation_key f.token f.digest f.client d)
        (revocation_key k g c q)) false x) (before k g c q)
        ∙ without
        (eq_by_cmp revocation_cmp (revocation_key f.token f.digest f.client d)
        (revocation_key k g c q)) (is_revocation_of k g c (map.get F q)) (gone k g c q)

-- the table without the key of a reuse
pub reuses_less : (F G : FactSet) (d : Dot) (b : Body) (j : TokenId) (t u : BTreeSet ReuseKey)
    → OneMore F G d b → change_in b ≡ change.Mark j → IsReuses G t
    → ((k : ReuseKey)
    → contains reuse_cmp u k
    ≡ cond (eq_by_cmp reuse_cmp (reuse_key j d) k) false (contains reuse_cmp t k))
    → IsReuses F u
reuses_less F G d b j t u m is i r = record {
  listed = listed;
  ranged = λ k q h. i.ranged k q
      (fewer (eq_by_cmp reuse_cmp (reuse_key j d) (reuse_key k q)) (is_listed_reuse t k q)
      (sym (r (reuse_key k q)) ∙ h));
}
  where
    before : (k : TokenId) (q : Dot)
        → is_listed_reuse t k q
        ≡ (eq_by_cmp reuse_cmp (reuse_key j d) (reuse_key k q) || is_reuse_of k (map.get F q))
    before k q =
        i.listed k q ∙ sym (reused_on F G d b k q (is_reuse_of k (map.get F q)) m refl)
        ∙ ap (λ y. (reuses_of k y && is_at d q) || is_reuse_of k (map.get F q)) is
        ∙ ap (λ a. (is_same_token j k && a) || is_reuse_of k (map.get F q)) (at_is_same d q)
        ∙ ap (λ a. a || is_reuse_of k (map.get F q)) (sym (reuse_tied j k d q))

    gone : (k : TokenId) (q : Dot) → eq_by_cmp reuse_cmp (reuse_key j d) (reuse_key k q) ≡ true
        → is_reuse_of k (map.get F q) ≡ false
    gone k q h =
        let same : d ≡ q = same_dot-true d q
        (and_parts (is_same_token j k) (is_same_dot d q) (sym (reuse_tied j k d q) ∙ h)).1 in
        ap (is_reuse_of k) (ap (map.get F) (sym same) ∙ m.free)

    listed : (k : TokenId) (q : Dot) → is_listed_reuse u k q ≡ is_reuse_of k (map.get F q)
    listed k q =
        r (reuse_key k q)
        ∙ ap (λ x. cond (eq_by_cmp reuse_cmp (reuse_key j d) (reuse_key k q)) false x) (before k q)
        ∙ without (eq_by_cmp reuse_cmp (reuse_key j d) (reuse_key k q))
        (is_reuse_of k (map.get F q)) (gone k q)
