-- The loss of a fact that changed no table. Key result: lost_nothing.
use Rattle.std.proofs.Common.{◌≡◌, inl, inr, false, refl, sym, ap, ◌∙◌}
use Rattle.std.proofs.lemmas.Bool.{true≢false}
use Rattle.tk_handle.specs.declared.dot.Dot.{Dot}
use Rattle.tk_family.specs.ForestFacts.{ForestFacts}
use Rattle.tk_fact.specs.declared.body.Body.{Body}
use Rattle.tk_store.specs.FactSet.{FactSet}
use Rattle.tk_store.proofs.OneMoreLaws.{OneMore}
use Rattle.tk_ledger.specs.Changes.{change_in, adds, retires_of, gives_to, withdraws_of, revokes_of}
use Rattle.tk_ledger.specs.Changes.{reuses_of}
use Rattle.tk_ledger.specs.Index.{IsTied, IsIndexed}
use Rattle.tk_ledger.specs.Losses.{WasIndexed}
use Rattle.tk_ledger.specs.declared.change.Change.TheVariants as change
use Rattle.tk_ledger.specs.declared.index.Index.{Index}
use Rattle.tk_ledger.proofs.ForestLaws.{puts, revoking, signs, unsigned, unrevoked, links_still}
use Rattle.tk_ledger.proofs.LossLaws.{Loss, loss, tied_less}
use Rattle.tk_ledger.proofs.LoginTableLaws.{logins_kept}
use Rattle.tk_ledger.proofs.SecretTableLaws.{setting, secrets_less}
use Rattle.tk_ledger.proofs.TableLossLaws.{clients_less, consents_less, withdrawals_less}
use Rattle.tk_ledger.proofs.TableLossLaws.{revocations_kept, outs_less, codes_kept, reuses_kept}
use Rattle.tk_ledger.proofs.SubjectTableLaws.{issuing}

-- the forest is that of the set without the fact
untied_nothing : (F G : FactSet) (d : Dot) (b : Body) (x : ForestFacts) → OneMore F G d b
    → change_in b ≡ change.Nothing → IsTied G x → IsTied F x
untied_nothing F G d b x m is t =
    tied_less F G d b x x x (λ _. false) m t
    (λ q. t.links q ∙ sym (links_still F G d b m (ap puts is) q))
    (λ _ _. refl)
    (record {
      links = refl;
      here = λ q c l at _ _. absurd (true≢false (sym at));
      there = λ _ _. refl;
    })
    (λ k touch _ c under. elim touch [
      | inl seen ↦ true≢false (sym seen ∙ ap (reuses_of k) is)
      | inr (inl r) ↦ unrevoked b k (ap revoking is) r
      | inr (inr (inl r)) ↦ unsigned G b k (ap signs is) r
      | inr (inr (inr r)) ↦ r.before c under
    ])

-- the tables are those of the set without the fact
pub lost_nothing : (F : FactSet) (d : Dot) (x : Index) → WasIndexed F d change.Nothing x
    → IsIndexed F x
lost_nothing F d x w =
    let o : Loss F d change.Nothing x = loss F d change.Nothing x w in
    record {
      clients_are = clients_less F o.before d o.body x.clients o.more (ap adds o.is)
          (λ q. ap (retires_of q) o.is) o.indexed.clients_are;
      consents_are = consents_less F o.before d o.body x.consents o.more
          (λ c g. ap (gives_to c g) o.is) (λ q. ap (withdraws_of q) o.is) o.indexed.consents_are;
      withdrawn_are = withdrawals_less F o.before d o.body x.withdrawn o.more
          (λ q. ap (withdraws_of q) o.is) o.indexed.withdrawn_are;
      revocations_are = revocations_kept F o.before d o.body x.revocations o.more
          (λ k g c. ap (revokes_of k g c) o.is) o.indexed.revocations_are;
      codes_are =
          codes_kept F o.before d o.body x.codes o.more (ap issuing o.is) o.indexed.codes_are;
      logins_are =
          logins_kept F o.before d o.body x.logins o.more (ap issuing o.is) o.indexed.logins_are;
      outs_are = outs_less F o.before d o.body x.outs o.more (ap signs o.is) o.indexed.outs_are;
      reuses_are = reuses_kept F o.before d o.body x.reuses o.more (λ k. ap (reuses_of k) o.is)
          o.indexed.reuses_are;
      secrets_are = secrets_less F o.before d o.body x.secrets o.more (ap setting o.is)
          o.indexed.secrets_are;
      tied = untied_nothing F o.before d o.body x.forest o.more o.is o.indexed.tied;
    }
