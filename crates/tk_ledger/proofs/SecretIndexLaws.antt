-- All tables, and the forest, after a change of a secret. Key results:
--   index_secret    the tables with the key of the secret
--   index_secrets   another table of secrets of the same set, if memory ran out
use Rattle.std.proofs.Common.{◌≡◌, ℕ, List, Some, refl}
use Rattle.std.specs.Option.{option_map}
use Rattle.std.specs.BTreeSet.{BTreeSet}
use Rattle.std.specs.FinMap as map
use Rattle.tk_handle.specs.declared.dot.Dot.{Dot}
use Rattle.tk_store.specs.FactSet.{FactSet}
use Rattle.tk_ledger.specs.Changes.{change_in}
use Rattle.tk_ledger.specs.Index.{IsIndexed}
use Rattle.tk_ledger.specs.SecretTables.{IsSecrets}
use Rattle.tk_ledger.specs.declared.change.Change.TheVariants as change
use Rattle.tk_ledger.specs.declared.index.Index.{Index}
use Rattle.tk_ledger.specs.declared.secrets.SecretKey.{SecretKey}
use Rattle.tk_ledger.proofs.ChangeLaws.{quiet_ties}
use Rattle.tk_ledger.proofs.LoginTableLaws.{same_logins}
use Rattle.tk_ledger.proofs.TableChangeLaws.{clients_by, same_consents, withdrawals_by}
use Rattle.tk_ledger.proofs.TableChangeLaws.{same_revocations, same_codes, same_outs, same_reuses}

-- all tables after a secret was set, with the key of the secret
pub index_secret : (G : FactSet) (d client : Dot) (turn : ℕ) (digest : List ℕ) (x : Index)
    (s : BTreeSet SecretKey)
    → option_map change_in (map.get G d) ≡ Some (change.SetSecret client turn digest)
    → IsIndexed (map.remove G d) x → IsSecrets G s
    → IsIndexed G
    (record {
      clients = x.clients;
      consents = x.consents;
      withdrawn = x.withdrawn;
      revocations = x.revocations;
      codes = x.codes;
      logins = x.logins;
      outs = x.outs;
      reuses = x.reuses;
      secrets = s;
      forest = x.forest;
    })
index_secret G d client turn digest x s h i rows =
    let y = change.SetSecret client turn digest in
    record {
      clients_are = clients_by G d y x.clients x.clients h i.clients_are (λ q. refl) (λ q. refl);
      consents_are = same_consents G d y x.consents h (λ _ _. refl) (λ _. refl) i.consents_are;
      withdrawn_are = withdrawals_by G d y x.withdrawn x.withdrawn h i.withdrawn_are (λ q. refl);
      revocations_are = same_revocations G d y x.revocations h (λ _ _ _. refl) i.revocations_are;
      codes_are = same_codes G d y x.codes h refl i.codes_are;
      logins_are = same_logins G d y x.logins h refl i.logins_are;
      outs_are = same_outs G d y x.outs h refl i.outs_are;
      reuses_are = same_reuses G d y x.reuses h (λ _. refl) i.reuses_are;
      secrets_are = rows;
      tied = quiet_ties G d y x.forest h refl refl refl (λ k. refl) i.tied;
    }

-- another table of secrets of the same set
pub index_secrets : (F : FactSet) (x : Index) (s : BTreeSet SecretKey) → IsIndexed F x
    → IsSecrets F s
    → IsIndexed F
    (record {
      clients = x.clients;
      consents = x.consents;
      withdrawn = x.withdrawn;
      revocations = x.revocations;
      codes = x.codes;
      logins = x.logins;
      outs = x.outs;
      reuses = x.reuses;
      secrets = s;
      forest = x.forest;
    })
index_secrets F x s i rows = record {
  clients_are = i.clients_are;
  consents_are = i.consents_are;
  withdrawn_are = i.withdrawn_are;
  revocations_are = i.revocations_are;
  codes_are = i.codes_are;
  logins_are = i.logins_are;
  outs_are = i.outs_are;
  reuses_are = i.reuses_are;
  secrets_are = rows;
  tied = i.tied;
}
