-- All tables for each change that leaves the forest as it is. Key results:
--   index_add, index_retire      a client is added, or retired
--   index_give, index_withdraw   a consent is given, or withdrawn
--   index_nothing                a fact that changes no table
use Rattle.std.proofs.Common.{◌≡◌, ℕ, ◌&&◌, ◌||◌, not, cond, true, List, Some, refl, ap, ◌∙◌}
use Rattle.std.specs.Option.{option_map}
use Rattle.std.specs.Ordering.{eq_by_cmp}
use Rattle.std.specs.BTreeMap.{BTreeMap}
use Rattle.std.specs.BTreeSet.{BTreeSet, contains}
use Rattle.std.specs.FinMap as map
use Rattle.tk_handle.specs.declared.dot.Dot.{Dot}
use Rattle.tk_handle.specs.Dot.{IsDot, dot_cmp}
use Rattle.tk_store.specs.FactSet.{FactSet}
use Rattle.tk_ledger.specs.Changes.{change_in}
use Rattle.tk_ledger.specs.Index.{row_at, row_added, row_retired, is_at, consent_cmp, consent_key}
use Rattle.tk_ledger.specs.Index.{is_key_at, IsIndexed}
use Rattle.tk_ledger.specs.declared.change.Change.TheVariants as change
use Rattle.tk_ledger.specs.declared.client_rows.ClientRow.{ClientRow}
use Rattle.tk_ledger.specs.declared.consent_keys.ConsentKey.{ConsentKey}
use Rattle.tk_ledger.specs.declared.index.Index.{Index}
use Rattle.tk_ledger.proofs.ChangeLaws.{or_cond, quiet_ties}
use Rattle.tk_ledger.proofs.TableChangeLaws.{clients_by, same_consents, withdrawals_by}
use Rattle.tk_ledger.proofs.TableChangeLaws.{same_revocations, same_codes, same_outs, same_reuses}
use Rattle.tk_ledger.proofs.ConsentTableLaws.{give_row, withdraw_row}
use Rattle.tk_ledger.proofs.KeyLaws.{at_is_same}
use Rattle.tk_ledger.proofs.LoginTableLaws.{same_logins}
use Rattle.tk_ledger.proofs.SecretTableLaws.{same_secrets}

-- all tables after a client was added
pub index_add : (G : FactSet) (d : Dot) (x : Index) (u : BTreeMap Dot ClientRow)
    → option_map change_in (map.get G d) ≡ Some change.Add → IsIndexed (map.remove G d) x
    → ((q : Dot) → row_added (row_at u q) ≡ (is_at d q || row_added (row_at x.clients q)))
    → ((q : Dot) → row_retired (row_at u q) ≡ row_retired (row_at x.clients q))
    → IsIndexed G
    (record {
      clients = u;
      consents = x.consents;
      withdrawn = x.withdrawn;
      revocations = x.revocations;
      codes = x.codes;
      logins = x.logins;
      outs = x.outs;
      reuses = x.reuses;
      secrets = x.secrets;
      forest = x.forest;
    })
index_add G d x u h i a e = record {
  clients_are = clients_by G d change.Add x.clients u h i.clients_are a e;
  consents_are = same_consents G d change.Add x.consents h (λ _ _. refl) (λ _. refl) i.consents_are;
  withdrawn_are =
      withdrawals_by G d change.Add x.withdrawn x.withdrawn h i.withdrawn_are (λ q. refl);
  revocations_are =
      same_revocations G d change.Add x.revocations h (λ _ _ _. refl) i.revocations_are;
  codes_are = same_codes G d change.Add x.codes h refl i.codes_are;
  logins_are = same_logins G d change.Add x.logins h refl i.logins_are;
  outs_are = same_outs G d change.Add x.outs h refl i.outs_are;
  reuses_are = same_reuses G d change.Add x.reuses h (λ _. refl) i.reuses_are;
  secrets_are = same_secrets G d change.Add x.secrets h refl i.secrets_are;
  tied = quiet_ties G d change.Add x.forest h refl refl refl (λ k. refl) i.tied;
}

-- all tables after a client was retired
pub index_retire : (G : FactSet) (d c : Dot) (x : Index) (u : BTreeMap Dot ClientRow)
    → option_map change_in (map.get G d) ≡ Some (change.Retire c) → IsIndexed (map.remove G d) x
    → ((q : Dot) → row_retired (row_at u q) ≡ (is_at c q || row_retired (row_at x.clients q)))
    → ((q : Dot) → row_added (row_at u q) ≡ row_added (row_at x.clients q))
    → IsIndexed G
    (record {
      clients = u;
      consents = x.consents;
      withdrawn = x.withdrawn;
      revocations = x.revocations;
      codes = x.codes;
      logins = x.logins;
      outs = x.outs;
      reuses = x.reuses;
      secrets = x.secrets;
      forest = x.forest;
    })
index_retire G d c x u h i e a = record {
  clients_are = clients_by G d (change.Retire c) x.clients u h i.clients_are a
      (λ q. e q ∙ ap (λ z. z || row_retired (row_at x.clients q)) (at_is_same c q));
  consents_are =
      same_consents G d (change.Retire c) x.consents h (λ _ _. refl) (λ _. refl) i.consents_are;
  withdrawn_are =
      withdrawals_by G d (change.Retire c) x.withdrawn x.withdrawn h i.withdrawn_are (λ q. refl);
  revocations_are =
      same_revocations G d (change.Retire c) x.revocations h (λ _ _ _. refl) i.revocations_are;
  codes_are = same_codes G d (change.Retire c) x.codes h refl i.codes_are;
  logins_are = same_logins G d (change.Retire c) x.logins h refl i.logins_are;
  outs_are = same_outs G d (change.Retire c) x.outs h refl i.outs_are;
  reuses_are = same_reuses G d (change.Retire c) x.reuses h (λ _. refl) i.reuses_are;
  secrets_are = same_secrets G d (change.Retire c) x.secrets h refl i.secrets_are;
  tied = quiet_ties G d (change.Retire c) x.forest h refl refl refl (λ k. refl) i.tied;
}

-- all tables after a consent was given
pub index_give : (G : FactSet) (d client : Dot) (subject : List ℕ) (x : Index)
    (u : BTreeSet ConsentKey)
    → option_map change_in (map.get G d) ≡ Some (change.Give client subject)
    → IsIndexed (map.remove G d) x
    → IsDot d → IsDot client
    → ((k : ConsentKey)
    → contains consent_cmp u k
    ≡ ((eq_by_cmp consent_cmp (consent_key client subject d) k
    && not (contains dot_cmp x.withdrawn d))
    || contains consent_cmp x.consents k))
    → IsIndexed G
    (record {
      clients = x.clients;
      consents = u;
      withdrawn = x.withdrawn;
      revocations = x.revocations;
      codes = x.codes;
      logins = x.logins;
      outs = x.outs;
      reuses = x.reuses;
      secrets = x.secrets;
      forest = x.forest;
    })
index_give G d client subject x u h i here there r =
    let y = change.Give client subject in
    record {
      clients_are = clients_by G d y x.clients x.clients h i.clients_are (λ q. refl) (λ q. refl);
      consents_are = give_row G d client subject x.withdrawn x.consents u h i.withdrawn_are
          i.consents_are here there r;
      withdrawn_are = withdrawals_by G d y x.withdrawn x.withdrawn h i.withdrawn_are (λ q. refl);
      revocations_are = same_revocations G d y x.revocations h (λ _ _ _. refl) i.revocations_are;
      codes_are = same_codes G d y x.codes h refl i.codes_are;
      logins_are = same_logins G d y x.logins h refl i.logins_are;
      outs_are = same_outs G d y x.outs h refl i.outs_are;
      reuses_are = same_reuses G d y x.reuses h (λ _. refl) i.reuses_are;
      secrets_are = same_secrets G d y x.secrets h refl i.secrets_are;
      tied = quiet_ties G d y x.forest h refl refl refl (λ k. refl) i.tied;
    }

-- all tables after a consent was withdrawn
pub index_withdraw : (G : FactSet) (d c : Dot) (x : Index) (u : BTreeSet ConsentKey)
    (v : BTreeSet Dot)
    → option_map change_in (map.get G d) ≡ Some (change.Withdraw c) → IsIndexed (map.remove G d) x
    → ((q : Dot) → contains dot_cmp v q ≡ cond (is_at c q) true (contains dot_cmp x.withdrawn q))
    → ((k : ConsentKey)
    → contains consent_cmp u k ≡ (contains consent_cmp x.consents k && not (is_key_at G c k)))
    → IsIndexed G
    (record {
      clients = x.clients;
      consents = u;
      withdrawn = v;
      revocations = x.revocations;
      codes = x.codes;
      logins = x.logins;
      outs = x.outs;
      reuses = x.reuses;
      secrets = x.secrets;
      forest = x.forest;
    })
index_withdraw G d c x u v h i e r = record {
  clients_are = clients_by G d (change.Withdraw c) x.clients x.clients h i.clients_are (λ q. refl)
      (λ q. refl);
  consents_are = withdraw_row G d c x.consents u h i.consents_are r;
  withdrawn_are = withdrawals_by G d (change.Withdraw c) x.withdrawn v h i.withdrawn_are
      (λ q. e q ∙ or_cond (is_at c q) (contains dot_cmp x.withdrawn q)
      ∙ ap (λ z. z || contains dot_cmp x.withdrawn q) (at_is_same c q));
  revocations_are =
      same_revocations G d (change.Withdraw c) x.revocations h (λ _ _ _. refl) i.revocations_are;
  codes_are = same_codes G d (change.Withdraw c) x.codes h refl i.codes_are;
  logins_are = same_logins G d (change.Withdraw c) x.logins h refl i.logins_are;
  outs_are = same_outs G d (change.Withdraw c) x.outs h refl i.outs_are;
  reuses_are = same_reuses G d (change.Withdraw c) x.reuses h (λ _. refl) i.reuses_are;
  secrets_are = same_secrets G d (change.Withdraw c) x.secrets h refl i.secrets_are;
  tied = quiet_ties G d (change.Withdraw c) x.forest h refl refl refl (λ k. refl) i.tied;
}

-- all tables after a fact that changes none of them
pub index_nothing : (G : FactSet) (d : Dot) (x : Index)
    → option_map change_in (map.get G d) ≡ Some change.Nothing → IsIndexed (map.remove G d) x
    → IsIndexed G x
index_nothing G d x h i = record {
  clients_are =
      clients_by G d change.Nothing x.clients x.clients h i.clients_are (λ q. refl) (λ q. refl);
  consents_are =
      same_consents G d change.Nothing x.consents h (λ _ _. refl) (λ _. refl) i.consents_are;
  withdrawn_are =
      withdrawals_by G d change.Nothing x.withdrawn x.withdrawn h i.withdrawn_are (λ q. refl);
  revocations_are =
      same_revocations G d change.Nothing x.revocations h (λ _ _ _. refl) i.revocations_are;
  codes_are = same_codes G d change.Nothing x.codes h refl i.codes_are;
  logins_are = same_logins G d change.Nothing x.logins h refl i.logins_are;
  outs_are = same_outs G d change.Nothing x.outs h refl i.outs_are;
  reuses_are = same_reuses G d change.Nothing x.reuses h (λ _. refl) i.reuses_are;
  secrets_are = same_secrets G d change.Nothing x.secrets h refl i.secrets_are;
  tied = quiet_ties G d change.Nothing x.forest h refl refl refl (λ k. refl) i.tied;
}
