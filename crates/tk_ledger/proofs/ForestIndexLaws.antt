-- All tables, and the forest, for each change of tokens. Key results:
--   index_put, index_issue       a link is put, or a code is issued
--   index_revoke, index_mark     a token is revoked, or its reuse is seen
--   index_out                    a subject signs out
--   index_back                   tables of the same set in place of others, if memory ran out
use Rattle.std.proofs.Common.{◌≡◌, ℕ, List, Some, refl}
use Rattle.std.specs.Option.{option_map}
use Rattle.std.specs.BTreeSet.{BTreeSet}
use Rattle.std.specs.FinMap as map
use Rattle.tk_handle.specs.declared.dot.Dot.{Dot}
use Rattle.tk_handle.specs.declared.token_id.TokenId.{TokenId}
use Rattle.tk_family.specs.declared.link.Link.{Link}
use Rattle.tk_family.specs.ForestFacts.{ForestFacts}
use Rattle.tk_ledger.specs.declared.change.RevokedToken as revoked
use Rattle.tk_store.specs.FactSet.{FactSet}
use Rattle.tk_ledger.specs.Changes.{change_in}
use Rattle.tk_ledger.specs.Index.{IsRevocations, IsReuses, IsTied, IsIndexed}
use Rattle.tk_ledger.specs.SubjectTables.{IsCodes, IsLogins, IsOuts}
use Rattle.tk_ledger.specs.declared.change.Change.TheVariants as change
use Rattle.tk_ledger.specs.declared.index.Index.{Index}
use Rattle.tk_ledger.specs.declared.reuses.ReuseKey.{ReuseKey}
use Rattle.tk_ledger.specs.declared.revocations.Revocation.{Revocation}
use Rattle.tk_ledger.specs.declared.subject_keys.CodeKey.{CodeKey}
use Rattle.tk_ledger.specs.declared.subject_keys.LoginKey.{LoginKey}
use Rattle.tk_ledger.specs.declared.subject_keys.OutKey.{OutKey}
use Rattle.tk_ledger.proofs.TableChangeLaws.{clients_by, same_consents, withdrawals_by}
use Rattle.tk_ledger.proofs.TableChangeLaws.{same_revocations, same_codes, same_outs, same_reuses}
use Rattle.tk_ledger.proofs.LoginTableLaws.{same_logins}
use Rattle.tk_ledger.proofs.SecretTableLaws.{same_secrets}

-- all tables and the forest after a link was put
pub index_put : (G : FactSet) (d : Dot) (l : Link) (x : Index) (z : ForestFacts)
    → option_map change_in (map.get G d) ≡ Some (change.Put l) → IsIndexed (map.remove G d) x
    → IsTied G z
    → IsIndexed G
    (record {
      clients = x.clients;
      consents = x.consents;
      withdrawn = x.withdrawn;
      revocations = x.revocations;
      codes = x.codes;
      logins = x.logins;
      outs = x.outs;
      reuses = x.reuses;
      secrets = x.secrets;
      forest = z;
    })
index_put G d l x z h i tied = record {
  clients_are =
      clients_by G d (change.Put l) x.clients x.clients h i.clients_are (λ q. refl) (λ q. refl);
  consents_are =
      same_consents G d (change.Put l) x.consents h (λ _ _. refl) (λ _. refl) i.consents_are;
  withdrawn_are =
      withdrawals_by G d (change.Put l) x.withdrawn x.withdrawn h i.withdrawn_are (λ q. refl);
  revocations_are =
      same_revocations G d (change.Put l) x.revocations h (λ _ _ _. refl) i.revocations_are;
  codes_are = same_codes G d (change.Put l) x.codes h refl i.codes_are;
  logins_are = same_logins G d (change.Put l) x.logins h refl i.logins_are;
  outs_are = same_outs G d (change.Put l) x.outs h refl i.outs_are;
  reuses_are = same_reuses G d (change.Put l) x.reuses h (λ _. refl) i.reuses_are;
  secrets_are = same_secrets G d (change.Put l) x.secrets h refl i.secrets_are;
  tied = tied;
}

-- all tables and the forest after a code was issued
pub index_issue : (G : FactSet) (d : Dot) (prefix start : ℕ) (x : Index)
    (s : BTreeSet CodeKey) (t : BTreeSet LoginKey) (z : ForestFacts)
    → option_map change_in (map.get G d) ≡ Some (change.Issue prefix start)
    → IsIndexed (map.remove G d) x → IsCodes G s → IsLogins G t → IsTied G z
    → IsIndexed G
    (record {
      clients = x.clients;
      consents = x.consents;
      withdrawn = x.withdrawn;
      revocations = x.revocations;
      codes = s;
      logins = t;
      outs = x.outs;
      reuses = x.reuses;
      secrets = x.secrets;
      forest = z;
    })
index_issue G d prefix start x s t z h i rows begun tied = record {
  clients_are = clients_by G d (change.Issue prefix start) x.clients x.clients h i.clients_are
      (λ q. refl) (λ q. refl);
  consents_are = same_consents G d (change.Issue prefix start) x.consents h (λ _ _. refl)
      (λ _. refl) i.consents_are;
  withdrawn_are = withdrawals_by G d (change.Issue prefix start) x.withdrawn x.withdrawn h
      i.withdrawn_are (λ q. refl);
  revocations_are = same_revocations G d (change.Issue prefix start) x.revocations h
      (λ _ _ _. refl) i.revocations_are;
  codes_are = rows;
  logins_are = begun;
  outs_are = same_outs G d (change.Issue prefix start) x.outs h refl i.outs_are;
  reuses_are = same_reuses G d (change.Issue prefix start) x.reuses h (λ _. refl) i.reuses_are;
  secrets_are = same_secrets G d (change.Issue prefix start) x.secrets h refl i.secrets_are;
  tied = tied;
}

-- all tables and the forest after a token was revoked
pub index_revoke : (G : FactSet) (d : Dot) (f : revoked.RevokedToken) (x : Index)
    (s : BTreeSet Revocation) (z : ForestFacts)
    → option_map change_in (map.get G d) ≡ Some (change.Revoke f) → IsIndexed (map.remove G d) x
    → IsRevocations G s → IsTied G z
    → IsIndexed G
    (record {
      clients = x.clients;
      consents = x.consents;
      withdrawn = x.withdrawn;
      revocations = s;
      codes = x.codes;
      logins = x.logins;
      outs = x.outs;
      reuses = x.reuses;
      secrets = x.secrets;
      forest = z;
    })
index_revoke G d f x s z h i rows tied = record {
  clients_are =
      clients_by G d (change.Revoke f) x.clients x.clients h i.clients_are (λ q. refl) (λ q. refl);
  consents_are =
      same_consents G d (change.Revoke f) x.consents h (λ _ _. refl) (λ _. refl) i.consents_are;
  withdrawn_are =
      withdrawals_by G d (change.Revoke f) x.withdrawn x.withdrawn h i.withdrawn_are (λ q. refl);
  revocations_are = rows;
  codes_are = same_codes G d (change.Revoke f) x.codes h refl i.codes_are;
  logins_are = same_logins G d (change.Revoke f) x.logins h refl i.logins_are;
  outs_are = same_outs G d (change.Revoke f) x.outs h refl i.outs_are;
  reuses_are = same_reuses G d (change.Revoke f) x.reuses h (λ _. refl) i.reuses_are;
  secrets_are = same_secrets G d (change.Revoke f) x.secrets h refl i.secrets_are;
  tied = tied;
}

-- all tables and the forest after a reuse was seen
pub index_mark : (G : FactSet) (d : Dot) (j : TokenId) (x : Index) (s : BTreeSet ReuseKey)
    (z : ForestFacts)
    → option_map change_in (map.get G d) ≡ Some (change.Mark j) → IsIndexed (map.remove G d) x
    → IsReuses G s → IsTied G z
    → IsIndexed G
    (record {
      clients = x.clients;
      consents = x.consents;
      withdrawn = x.withdrawn;
      revocations = x.revocations;
      codes = x.codes;
      logins = x.logins;
      outs = x.outs;
      reuses = s;
      secrets = x.secrets;
      forest = z;
    })
index_mark G d j x s z h i rows tied = record {
  clients_are =
      clients_by G d (change.Mark j) x.clients x.clients h i.clients_are (λ q. refl) (λ q. refl);
  consents_are =
      same_consents G d (change.Mark j) x.consents h (λ _ _. refl) (λ _. refl) i.consents_are;
  withdrawn_are =
      withdrawals_by G d (change.Mark j) x.withdrawn x.withdrawn h i.withdrawn_are (λ q. refl);
  revocations_are =
      same_revocations G d (change.Mark j) x.revocations h (λ _ _ _. refl) i.revocations_are;
  codes_are = same_codes G d (change.Mark j) x.codes h refl i.codes_are;
  logins_are = same_logins G d (change.Mark j) x.logins h refl i.logins_are;
  outs_are = same_outs G d (change.Mark j) x.outs h refl i.outs_are;
  reuses_are = rows;
  secrets_are = same_secrets G d (change.Mark j) x.secrets h refl i.secrets_are;
  tied = tied;
}

-- all tables and the forest after a subject signed out
pub index_out : (G : FactSet) (d : Dot) (subject : List ℕ) (moment : ℕ) (x : Index)
    (s : BTreeSet OutKey) (z : ForestFacts)
    → option_map change_in (map.get G d) ≡ Some (change.SignOut subject moment)
    → IsIndexed (map.remove G d) x → IsOuts G s → IsTied G z
    → IsIndexed G
    (record {
      clients = x.clients;
      consents = x.consents;
      withdrawn = x.withdrawn;
      revocations = x.revocations;
      codes = x.codes;
      logins = x.logins;
      outs = s;
      reuses = x.reuses;
      secrets = x.secrets;
      forest = z;
    })
index_out G d subject moment x s z h i rows tied = record {
  clients_are = clients_by G d (change.SignOut subject moment) x.clients x.clients h i.clients_are
      (λ q. refl) (λ q. refl);
  consents_are = same_consents G d (change.SignOut subject moment) x.consents h (λ _ _. refl)
      (λ _. refl) i.consents_are;
  withdrawn_are = withdrawals_by G d (change.SignOut subject moment) x.withdrawn x.withdrawn h
      i.withdrawn_are (λ q. refl);
  revocations_are = same_revocations G d (change.SignOut subject moment) x.revocations h
      (λ _ _ _. refl) i.revocations_are;
  codes_are = same_codes G d (change.SignOut subject moment) x.codes h refl i.codes_are;
  logins_are = same_logins G d (change.SignOut subject moment) x.logins h refl i.logins_are;
  outs_are = rows;
  reuses_are = same_reuses G d (change.SignOut subject moment) x.reuses h (λ _. refl) i.reuses_are;
  secrets_are = same_secrets G d (change.SignOut subject moment) x.secrets h refl i.secrets_are;
  tied = tied;
}

-- tables of the same set in place of others
pub index_back : (F : FactSet) (x : Index) (revocations : BTreeSet Revocation)
    (codes : BTreeSet CodeKey) (logins : BTreeSet LoginKey) (outs : BTreeSet OutKey)
    (reuses : BTreeSet ReuseKey) (z : ForestFacts)
    → IsIndexed F x → IsRevocations F revocations → IsCodes F codes → IsLogins F logins
    → IsOuts F outs → IsReuses F reuses → IsTied F z
    → IsIndexed F
    (record {
      clients = x.clients;
      consents = x.consents;
      withdrawn = x.withdrawn;
      revocations = revocations;
      codes = codes;
      logins = logins;
      outs = outs;
      reuses = reuses;
      secrets = x.secrets;
      forest = z;
    })
index_back F x revocations codes logins outs reuses z i v c l o r tied = record {
  clients_are = i.clients_are;
  consents_are = i.consents_are;
  withdrawn_are = i.withdrawn_are;
  revocations_are = v;
  codes_are = c;
  logins_are = l;
  outs_are = o;
  reuses_are = r;
  secrets_are = i.secrets_are;
  tied = tied;
}
