-- Empty tables are those of no fact. Key result: empty_indexed.
use Rattle.std.proofs.Common.{◌≡◌, ℕ, Bool, false, ◌&&◌, not, List, [], Option, Some, is_some, sym}
use Rattle.std.proofs.Common.{ap, ◌∙◌}
use Rattle.std.proofs.lemmas.Bool.{true≢false, false_from_ne_true}
use Rattle.std.specs.Option.{option_and_then}
use Rattle.std.specs.List.{list_any}
use Rattle.std.specs.Map.{lookup}
use Rattle.std.specs.BTreeMap.{is_at}
use Rattle.std.specs.FinMap as map
use Rattle.tk_handle.specs.declared.dot.Dot.{Dot}
use Rattle.tk_handle.specs.declared.token_id.TokenId.{TokenId}
use Rattle.tk_handle.specs.Dot.{dot_cmp}
use Rattle.tk_fact.specs.declared.body.Body.{Body}
use Rattle.tk_store.specs.FactSet.{any_fact}
use Rattle.tk_store.proofs.PutLaws.{none_is_not_some}
use Rattle.tk_store.proofs.EntryLaws.{Passing, any_fact-held}
use Rattle.tk_ledger.specs.Clients.{added_in, given_in, retires, withdraws, is_withdrawn}
use Rattle.tk_ledger.specs.SignOuts.{sign_out_in}
use Rattle.tk_ledger.specs.Tokens.{link_of, issued_in}
use Rattle.tk_ledger.specs.Index.{row_added, row_retired, consent_cmp, consent_key, revocation_cmp}
use Rattle.tk_ledger.specs.Index.{revocation_key, is_revocation_of, is_from, reuse_cmp, reuse_key}
use Rattle.tk_ledger.specs.Index.{is_reuse_of, IsIndexed}
use Rattle.tk_ledger.specs.SecretTables.{secret_cmp, secret_key, secret_in, is_left_to}
use Rattle.tk_ledger.specs.SubjectTables.{code_cmp, code_key, is_to, login_cmp, login_key}
use Rattle.tk_ledger.specs.SubjectTables.{begins_under, out_cmp, out_key, is_left_by}
use Rattle.tk_ledger.specs.declared.client_rows.ClientRow.{ClientRow}
use Rattle.tk_ledger.specs.declared.consent_keys.ConsentKey.{ConsentKey}
use Rattle.tk_ledger.specs.declared.index.Index.{Index}
use Rattle.tk_ledger.specs.declared.reuses.ReuseKey.{ReuseKey}
use Rattle.tk_ledger.specs.declared.revocations.Revocation.{Revocation}
use Rattle.tk_ledger.specs.declared.secrets.SecretKey.{SecretKey}
use Rattle.tk_ledger.specs.declared.subject_keys.CodeKey.{CodeKey}
use Rattle.tk_ledger.specs.declared.subject_keys.LoginKey.{LoginKey}
use Rattle.tk_ledger.specs.declared.subject_keys.OutKey.{OutKey}

-- the empty set holds no fact
none_held : (d : Dot) (b : Body) → ¬ (map.get (map.empty {R = dot_cmp}) d ≡ Some b)
none_held d b h = none_is_not_some b (sym (map.get-empty dot_cmp d) ∙ h)

-- no fact of the empty set passes a test
any_fact-empty : (p : Dot × Body → Bool) → any_fact p map.empty ≡ false
any_fact-empty p = false_from_ne_true (any_fact p map.empty)
    (λ h. (let x : Passing p map.empty = any_fact-held p map.empty h in
    none_held x.dot x.body x.held))

-- no fact is at any dot
no_value : {B : Type 0} (f : Body → Option B) (d : Dot) (y : B)
    → ¬ (option_and_then f (map.get (map.empty {R = dot_cmp}) d) ≡ Some y)
no_value f d y h = none_is_not_some y (sym (ap (option_and_then f) (map.get-empty dot_cmp d)) ∙ h)

-- tables without a key, and a forest without a link, are those of no fact
pub empty_indexed : (x : Index) → x.clients.entries ≡ [] → x.consents.keys ≡ []
    → x.withdrawn.keys ≡ [] → x.revocations.keys ≡ [] → x.codes.keys ≡ [] → x.logins.keys ≡ []
    → x.outs.keys ≡ [] → x.reuses.keys ≡ [] → x.secrets.keys ≡ [] → x.forest.links ≡ map.empty
    → IsIndexed map.empty x
empty_indexed x te ce we re co lo ou se ke le = record {
  clients_are = record {
    added = λ q. ap (λ (es : List (Dot × ClientRow)). row_added (lookup (is_at (dot_cmp q)) es)) te
        ∙ sym (ap (λ o. is_some (option_and_then added_in o)) (map.get-empty dot_cmp q));
    retired = λ q. ap (λ (es : List (Dot × ClientRow)). row_retired (lookup (is_at (dot_cmp q)) es))
        te
        ∙ sym (any_fact-empty (retires q));
  };
  consents_are = record {
    listed = λ c s q. none_listed c s q
        ∙ sym (ap (λ o. is_from c s (option_and_then given_in o) && not (is_withdrawn map.empty q))
        (map.get-empty dot_cmp q));
    ranged = λ c s q h. absurd (true≢false (sym h ∙ none_listed c s q));
  };
  withdrawn_are = λ q. ap (λ (es : List Dot). list_any (is_at (dot_cmp q)) es) we
      ∙ sym (any_fact-empty (withdraws q));
  revocations_are = record {
    listed = λ k g c q.
        no_revocation k g c q ∙ sym (ap (is_revocation_of k g c) (map.get-empty dot_cmp q));
    ranged = λ k g c q h. absurd (true≢false (sym h ∙ no_revocation k g c q));
  };
  codes_are = record {
    listed = λ s n q. no_code s n q
        ∙ sym (ap (λ o. is_to s n (option_and_then issued_in o)) (map.get-empty dot_cmp q));
    ranged = λ s n q h. absurd (true≢false (sym h ∙ no_code s n q));
  };
  logins_are = record {
    listed = λ s q. no_login s q
        ∙ sym (ap (λ o. begins_under s (option_and_then issued_in o)) (map.get-empty dot_cmp q));
    ranged = λ s q h. absurd (true≢false (sym h ∙ no_login s q));
  };
  outs_are = record {
    listed = λ s l q. no_out s l q
        ∙ sym (ap (λ o. is_left_by s l (option_and_then sign_out_in o)) (map.get-empty dot_cmp q));
    ranged = λ s l q h. absurd (true≢false (sym h ∙ no_out s l q));
    early = λ d f h. absurd (no_value sign_out_in d f h);
  };
  reuses_are = record {
    listed = λ k q. no_reuse k q ∙ sym (ap (is_reuse_of k) (map.get-empty dot_cmp q));
    ranged = λ k q h. absurd (true≢false (sym h ∙ no_reuse k q));
  };
  secrets_are = record {
    listed = λ c l g q. no_secret c l g q
        ∙ sym (ap (λ o. is_left_to c l g (option_and_then secret_in o)) (map.get-empty dot_cmp q));
    ranged = λ c l g q h. absurd (true≢false (sym h ∙ no_secret c l g q));
    early = λ d f h. absurd (no_value secret_in d f h);
  };
  tied = record {
    links = λ q. ap (λ s. map.get s q) le ∙ map.get-empty dot_cmp q
        ∙ sym (ap (option_and_then link_of) (map.get-empty dot_cmp q));
    marks = λ q c l at _. absurd (no_value link_of q l at);
  };
}
  where
    none_listed : (c : Dot) (s : List _) (q : Dot)
        → list_any (is_at (consent_cmp (consent_key c s q))) x.consents.keys ≡ false
    none_listed c s q =
        ap (λ (es : List ConsentKey). list_any (is_at (consent_cmp (consent_key c s q))) es) ce

    no_revocation : (k : TokenId) (g : List ℕ) (c q : Dot)
        → list_any (is_at (revocation_cmp (revocation_key k g c q))) x.revocations.keys ≡ false
    no_revocation k g c q = ap (λ (es : List Revocation).
        list_any (is_at (revocation_cmp (revocation_key k g c q))) es) re

    no_code : (s n : ℕ) (q : Dot)
        → list_any (is_at (code_cmp (code_key s n q))) x.codes.keys ≡ false
    no_code s n q = ap (λ (es : List CodeKey). list_any (is_at (code_cmp (code_key s n q))) es) co

    no_login : (s : ℕ) (q : Dot)
        → list_any (is_at (login_cmp (login_key s q))) x.logins.keys ≡ false
    no_login s q = ap (λ (es : List LoginKey). list_any (is_at (login_cmp (login_key s q))) es) lo

    no_out : (s : List _) (l : ℕ) (q : Dot)
        → list_any (is_at (out_cmp (out_key s l q))) x.outs.keys ≡ false
    no_out s l q = ap (λ (es : List OutKey). list_any (is_at (out_cmp (out_key s l q))) es) ou

    no_reuse : (k : TokenId) (q : Dot)
        → list_any (is_at (reuse_cmp (reuse_key k q))) x.reuses.keys ≡ false
    no_reuse k q = ap (λ (es : List ReuseKey). list_any (is_at (reuse_cmp (reuse_key k q))) es) se

    no_secret : (c : Dot) (l : ℕ) (g : List ℕ) (q : Dot)
        → list_any (is_at (secret_cmp (secret_key c l g q))) x.secrets.keys ≡ false
    no_secret c l g q =
        ap (λ (es : List SecretKey). list_any (is_at (secret_cmp (secret_key c l g q))) es) ke
