-- The forest and all tables follow the set when that loses a fact. Key results:
--   untied_link, untied_revocation, untied_reuse        the forest after the loss of a fact
--   lost_code, lost_link, lost_revocation, lost_reuse   all tables, and the forest
use Rattle.std.proofs.Common.{◌≡◌, ◌≢◌, ◌⊎◌, inl, inr, ℕ, Bool, true, false, cond, if◌then◌else◌}
use Rattle.std.proofs.Common.{Some, None, refl, sym, ap, subst, ◌∙◌}
use Rattle.std.proofs.lemmas.Bool.{true≢false, cases_Bool, cond-true, cond-false}
use Rattle.std.specs.Option.{option_and_then}
use Rattle.std.specs.Ordering.{eq_by_cmp}
use Rattle.std.specs.BTreeSet.{BTreeSet, contains}
use Rattle.std.specs.FinMap as map
use Rattle.std.specs.FinSet as set
use Rattle.tk_handle.specs.declared.dot.Dot.{Dot}
use Rattle.tk_handle.specs.declared.token_id.TokenId.{TokenId}
use Rattle.tk_handle.specs.Dot.{dot_cmp, dot_cmp_total}
use Rattle.tk_family.specs.declared.link.Link.{Link}
use Rattle.tk_family.specs.declared.link.Link.TheVariants.{Code}
use Rattle.tk_family.specs.Dots.{dot_eq}
use Rattle.tk_family.specs.Families.{IsUnder, grant_at}
use Rattle.tk_family.specs.ForestFacts.{ForestFacts}
use Rattle.tk_family.proofs.FamilyLaws.{IsUnder-within}
use Rattle.tk_fact.specs.declared.body.Body.{Body}
use Rattle.tk_ledger.specs.declared.change.RevokedToken as revoked
use Rattle.tk_store.specs.FactSet.{FactSet}
use Rattle.tk_store.proofs.OneMoreLaws.{OneMore, more_subset, cases_dots, apart_at, at_itself}
use Rattle.tk_ledger.specs.Changes.{change_in, adds, retires_of, gives_to, withdraws_of, revokes_of}
use Rattle.tk_ledger.specs.Changes.{reuses_of}
use Rattle.tk_ledger.specs.Index.{revocation_cmp, revocation_key, IsRevocations, reuse_cmp}
use Rattle.tk_ledger.specs.Index.{reuse_key, IsReuses, IsTied, Wakes, IsIndexed}
use Rattle.tk_ledger.specs.Losses.{WasIndexed}
use Rattle.tk_ledger.specs.SubjectTables.{code_cmp, code_key, login_cmp, login_key, IsOuts}
use Rattle.tk_ledger.specs.Tokens.{link_of, links_in, is_marked}
use Rattle.tk_ledger.specs.declared.change.Change.{Change}
use Rattle.tk_ledger.specs.declared.change.Change.TheVariants as change
use Rattle.tk_ledger.specs.declared.index.Index.{Index}
use Rattle.tk_ledger.specs.declared.reuses.ReuseKey.{ReuseKey}
use Rattle.tk_ledger.specs.declared.revocations.Revocation.{Revocation}
use Rattle.tk_ledger.specs.declared.subject_keys.CodeKey.{CodeKey}
use Rattle.tk_ledger.specs.declared.subject_keys.LoginKey.{LoginKey}
use Rattle.tk_ledger.proofs.EndingLaws.{under_none}
use Rattle.tk_ledger.proofs.ChangeLaws.{Changed, changed}
use Rattle.tk_ledger.proofs.ForestLaws.{puts, revoking, signs, Touches, same_mark, put_reuses}
use Rattle.tk_ledger.proofs.ForestLaws.{put_revokes, put_signs, unsigned, unrevoked, revokes_at}
use Rattle.tk_ledger.proofs.ForestLaws.{links_still}
use Rattle.tk_ledger.proofs.LoginTableLaws.{logins_kept, logins_less}
use Rattle.tk_ledger.proofs.SameLaws.{same_token-true}
use Rattle.tk_ledger.proofs.SecretTableLaws.{setting, secrets_less}
use Rattle.tk_ledger.proofs.SubjectTableLaws.{issuing}
use Rattle.tk_ledger.proofs.RootLaws.{links-below}
use Rattle.tk_ledger.proofs.WakeLaws.{grant_place}
use Rattle.tk_ledger.proofs.TableLossLaws.{clients_less, codes_kept, codes_less, consents_less}
use Rattle.tk_ledger.proofs.TableLossLaws.{outs_less, reuses_kept, reuses_less, revocations_kept}
use Rattle.tk_ledger.proofs.TableLossLaws.{revocations_less, withdrawals_less}

-- ---- the forest

-- the forest of one fact less, if the marks at all dots with a token that the fact touched were
-- written, but for dots that it brought under a code
pub tied_less : (F G : FactSet) (d : Dot) (b : Body) (x y z : ForestFacts) (at : Dot → Bool)
    → OneMore F G d b → IsTied G x
    → ((q : Dot) → map.get y.links q ≡ links_in (map.get F) q)
    → ((k : TokenId) → k.dot ≢ d → set.contains y.marks k ≡ set.contains x.marks k) → Wakes F y at z
    → ((k : TokenId) → Touches F G b k → at k.dot ≡ false → (c : Dot)
    → ¬ IsUnder (links_in (map.get F)) k.dot c) → IsTied F z
tied_less F G d b x y z at m t links kept woke touched = record {
  links = λ q. ap (λ s. map.get s q) woke.links ∙ links q;
  marks = λ q c l link under. by_test q c l link under (cases_Bool (at q));
}
  where
    by_test : (q c : Dot) (l : Link) → links_in (map.get F) q ≡ Some l
        → IsUnder (links_in (map.get F)) q c → (at q ≡ true) ⊎ (at q ≡ false)
        → set.contains z.marks (grant_at q l) ≡ is_marked F (grant_at q l)
    by_test q c l link under (inl now) = woke.here q c l now link under
    by_test q c l link under (inr apart) =
        let other : q ≢ d = λ same. under_none F q c (ap (map.get F) same ∙ m.free) under in
        woke.there (grant_at q l) (ap at (grant_place q l) ∙ apart)
        ∙ kept (grant_at q l) (λ same. other (sym (grant_place q l) ∙ same))
        ∙ t.marks q c l (links-below F G (more_subset F G d b m) q l link)
        (IsUnder-within (links_in (map.get F)) (links_in (map.get G))
        (links-below F G (more_subset F G d b m)) q c under)
        ∙ sym (same_mark F G d b (grant_at q l) m
        (λ touch. absurd
        (touched (grant_at q l) touch (ap at (grant_place q l) ∙ apart) c
        (subst (λ (p : Dot). IsUnder (links_in (map.get F)) p c) (sym (grant_place q l)) under))))

-- the forest without a link
untied_link : (F G : FactSet) (d : Dot) (b : Body) (l : Link) (x y : ForestFacts) → OneMore F G d b
    → puts (change_in b) ≡ Some l → IsTied G x
    → y.links ≡ map.remove x.links d
    → ((k : TokenId)
    → set.contains y.marks k ≡ (if dot_eq d k.dot then false else set.contains x.marks k))
    → IsTied F y
untied_link F G d b l x y m is t links marks =
    tied_less F G d b x y y (λ _. false) m t
    (λ q. ap (λ (s : map.FinMap dot_cmp Link). map.get s q) links
    ∙ map.get-remove dot_cmp_total x.links d q ∙ elim (cases_dots q d) [
      | inl same ↦ cond-true _ _ _ (ap (λ (p : Dot). dot_eq p d) same ∙ at_itself d)
          ∙ sym (ap (option_and_then link_of) (ap (map.get F) same ∙ m.free))
      | inr ne ↦ cond-false _ _ _ (apart_at q d ne) ∙ t.links q
          ∙ ap (option_and_then link_of) (m.there q ne)
    ])
    (λ k ne. marks k ∙ cond-false _ _ _ (apart_at d k.dot (λ same. ne (sym same))))
    (record {
      links = refl;
      here = λ q c l at _ _. absurd (true≢false (sym at));
      there = λ _ _. refl;
    })
    (λ k touch _ c under. elim touch [
      | inl seen ↦ true≢false (sym seen ∙ put_reuses (change_in b) l k is)
      | inr (inl r) ↦ unrevoked b k (put_revokes (change_in b) l is) r
      | inr (inr (inl r)) ↦ unsigned G b k (put_signs (change_in b) l is) r
      | inr (inr (inr r)) ↦ r.before c under
    ])

-- the forest without a reuse, if the marks at the token's dot were written
untied_reuse : (F G : FactSet) (d : Dot) (b : Body) (j : TokenId) (x z : ForestFacts)
    → OneMore F G d b → change_in b ≡ change.Mark j → IsTied G x
    → Wakes F x (λ q. dot_eq q j.dot) z → IsTied F z
untied_reuse F G d b j x z m is t woke =
    tied_less F G d b x x z (λ q. dot_eq q j.dot) m t
    (λ q. t.links q ∙ sym (links_still F G d b m (ap puts is) q))
    (λ _ _. refl)
    woke
    (λ k touch apart c under. elim touch [
      | inl seen ↦ true≢false
          (sym (ap (λ (h : TokenId). dot_eq k.dot h.dot)
          (same_token-true j k (sym (ap (reuses_of k) is) ∙ seen))
          ∙ at_itself k.dot)
          ∙ apart)
      | inr (inl r) ↦ unrevoked b k (ap revoking is) r
      | inr (inr (inl r)) ↦ unsigned G b k (ap signs is) r
      | inr (inr (inr r)) ↦ r.before c under
    ])

-- the forest without a revocation, if the marks at the token's dot were written
untied_revocation : (F G : FactSet) (d : Dot) (b : Body) (f : revoked.RevokedToken)
    (x z : ForestFacts) → OneMore F G d b → change_in b ≡ change.Revoke f → IsTied G x
    → Wakes F x (λ q. dot_eq q f.token.dot) z → IsTied F z
untied_revocation F G d b f x z m is t woke =
    tied_less F G d b x x z (λ q. dot_eq q f.token.dot) m t
    (λ q. t.links q ∙ sym (links_still F G d b m (ap puts is) q))
    (λ _ _. refl)
    woke
    (λ k touch apart c under. elim touch [
      | inl seen ↦ true≢false (sym seen ∙ ap (reuses_of k) is)
      | inr (inl r) ↦ true≢false (sym (revokes_at b f k is r) ∙ apart)
      | inr (inr (inl r)) ↦ unsigned G b k (ap signs is) r
      | inr (inr (inr r)) ↦ r.before c under
    ])

-- ---- all tables

-- the fact that is lost, and the set that had it
pub record Loss (F : FactSet) (d : Dot) (y : Change) (x : Index) : Type 0 where
  pub before : FactSet
  pub body : Body
  pub is : change_in body ≡ y
  pub more : OneMore F before d body
  pub indexed : IsIndexed before x

-- tables of the set before a loss give the fact that is lost
pub loss : (F : FactSet) (d : Dot) (y : Change) (x : Index) → WasIndexed F d y x → Loss F d y x
loss F d y x w =
    let c : Changed w.before d y = changed w.before d y w.makes in
    record {
      before = w.before;
      body = c.body;
      is = c.is;
      more = subst (λ (S : FactSet). OneMore S w.before d c.body) (sym w.rest) c.more;
      indexed = w.indexed;
    }

-- all tables after the loss of a code, without its keys
pub lost_code : (F : FactSet) (d : Dot) (prefix start : ℕ) (x : Index)
    (s : BTreeSet CodeKey) (t : BTreeSet LoginKey) (z : ForestFacts)
    → WasIndexed F d (change.Issue prefix start) x
    → ((k : CodeKey)
    → contains code_cmp s k
    ≡ cond (eq_by_cmp code_cmp (code_key prefix start d) k) false (contains code_cmp x.codes k))
    → ((k : LoginKey)
    → contains login_cmp t k
    ≡ cond (eq_by_cmp login_cmp (login_key prefix d) k) false (contains login_cmp x.logins k))
    → z.links ≡ map.remove x.forest.links d
    → ((k : TokenId)
    → set.contains z.marks k ≡ (if dot_eq d k.dot then false else set.contains x.forest.marks k))
    → IsIndexed F
    (record {
      clients = x.clients;
      consents = x.consents;
      withdrawn = x.withdrawn;
      revocations = x.revocations;
      codes = s;
      logins = t;
      outs = x.outs;
      reuses = x.reuses;
      secrets = x.secrets;
      forest = z;
    })
lost_code F d prefix start x s t z w r e links marks =
    let o : Loss F d (change.Issue prefix start) x = loss F d (change.Issue prefix start) x w in
    record {
      clients_are = clients_less F o.before d o.body x.clients o.more (ap adds o.is)
          (λ q. ap (retires_of q) o.is) o.indexed.clients_are;
      consents_are = consents_less F o.before d o.body x.consents o.more
          (λ c g. ap (gives_to c g) o.is) (λ q. ap (withdraws_of q) o.is) o.indexed.consents_are;
      withdrawn_are = withdrawals_less F o.before d o.body x.withdrawn o.more
          (λ q. ap (withdraws_of q) o.is) o.indexed.withdrawn_are;
      revocations_are = revocations_kept F o.before d o.body x.revocations o.more
          (λ k g c. ap (revokes_of k g c) o.is) o.indexed.revocations_are;
      codes_are =
          codes_less F o.before d o.body prefix start x.codes s o.more o.is o.indexed.codes_are r;
      logins_are = logins_less F o.before d o.body prefix start x.logins t o.more o.is
          o.indexed.logins_are e;
      outs_are = outs_less F o.before d o.body x.outs o.more (ap signs o.is) o.indexed.outs_are;
      reuses_are = reuses_kept F o.before d o.body x.reuses o.more (λ k. ap (reuses_of k) o.is)
          o.indexed.reuses_are;
      secrets_are = secrets_less F o.before d o.body x.secrets o.more (ap setting o.is)
          o.indexed.secrets_are;
      tied = untied_link F o.before d o.body Code x.forest z o.more (ap puts o.is) o.indexed.tied
          links marks;
    }

-- all tables after the loss of a link
pub lost_link : (F : FactSet) (d : Dot) (l : Link) (x : Index) (z : ForestFacts)
    → WasIndexed F d (change.Put l) x
    → z.links ≡ map.remove x.forest.links d
    → ((k : TokenId)
    → set.contains z.marks k ≡ (if dot_eq d k.dot then false else set.contains x.forest.marks k))
    → IsIndexed F
    (record {
      clients = x.clients;
      consents = x.consents;
      withdrawn = x.withdrawn;
      revocations = x.revocations;
      codes = x.codes;
      logins = x.logins;
      outs = x.outs;
      reuses = x.reuses;
      secrets = x.secrets;
      forest = z;
    })
lost_link F d l x z w links marks =
    let o : Loss F d (change.Put l) x = loss F d (change.Put l) x w in
    record {
      clients_are = clients_less F o.before d o.body x.clients o.more (ap adds o.is)
          (λ q. ap (retires_of q) o.is) o.indexed.clients_are;
      consents_are = consents_less F o.before d o.body x.consents o.more
          (λ c g. ap (gives_to c g) o.is) (λ q. ap (withdraws_of q) o.is) o.indexed.consents_are;
      withdrawn_are = withdrawals_less F o.before d o.body x.withdrawn o.more
          (λ q. ap (withdraws_of q) o.is) o.indexed.withdrawn_are;
      revocations_are = revocations_kept F o.before d o.body x.revocations o.more
          (λ k g c. ap (revokes_of k g c) o.is) o.indexed.revocations_are;
      codes_are =
          codes_kept F o.before d o.body x.codes o.more (ap issuing o.is) o.indexed.codes_are;
      logins_are =
          logins_kept F o.before d o.body x.logins o.more (ap issuing o.is) o.indexed.logins_are;
      outs_are = outs_less F o.before d o.body x.outs o.more (ap signs o.is) o.indexed.outs_are;
      reuses_are = reuses_kept F o.before d o.body x.reuses o.more (λ k. ap (reuses_of k) o.is)
          o.indexed.reuses_are;
      secrets_are = secrets_less F o.before d o.body x.secrets o.more (ap setting o.is)
          o.indexed.secrets_are;
      tied = untied_link F o.before d o.body l x.forest z o.more (ap puts o.is) o.indexed.tied links
          marks;
    }

-- the tables by which the marks at the token's dot are written, after the loss of a reuse
pub lost_revocations : (F : FactSet) (d : Dot) (j : TokenId) (x : Index)
    → WasIndexed F d (change.Mark j) x → IsRevocations F x.revocations
lost_revocations F d j x w =
    let o : Loss F d (change.Mark j) x = loss F d (change.Mark j) x w in
    revocations_kept F o.before d o.body x.revocations o.more (λ k g c. ap (revokes_of k g c) o.is)
    o.indexed.revocations_are

-- the table of reuses without the key of a lost reuse
pub lost_reuses : (F : FactSet) (d : Dot) (j : TokenId) (x : Index) (s : BTreeSet ReuseKey)
    → WasIndexed F d (change.Mark j) x
    → ((k : ReuseKey)
    → contains reuse_cmp s k
    ≡ cond (eq_by_cmp reuse_cmp (reuse_key j d) k) false (contains reuse_cmp x.reuses k))
    → IsReuses F s
lost_reuses F d j x s w r =
    let o : Loss F d (change.Mark j) x = loss F d (change.Mark j) x w in
    reuses_less F o.before d o.body j x.reuses s o.more o.is o.indexed.reuses_are r

-- and after the loss of a revocation
pub less_revocations : (F : FactSet) (d : Dot) (f : revoked.RevokedToken) (x : Index)
    (s : BTreeSet Revocation) → WasIndexed F d (change.Revoke f) x
    → ((e : Revocation)
    → contains revocation_cmp s e
    ≡ cond (eq_by_cmp revocation_cmp (revocation_key f.token f.digest f.client d) e) false
    (contains revocation_cmp x.revocations e)) → IsRevocations F s
less_revocations F d f x s w r =
    let o : Loss F d (change.Revoke f) x = loss F d (change.Revoke f) x w in
    revocations_less F o.before d o.body f x.revocations s o.more o.is o.indexed.revocations_are r

-- the loss of a revocation leaves the table of reuses
pub less_reuses : (F : FactSet) (d : Dot) (f : revoked.RevokedToken) (x : Index)
    → WasIndexed F d (change.Revoke f) x → IsReuses F x.reuses
less_reuses F d f x w =
    let o : Loss F d (change.Revoke f) x = loss F d (change.Revoke f) x w in
    reuses_kept F o.before d o.body x.reuses o.more (λ k. ap (reuses_of k) o.is)
    o.indexed.reuses_are

-- and after the loss of either
pub lost_outs : (F : FactSet) (d : Dot) (y : Change) (x : Index) → WasIndexed F d y x
    → signs y ≡ false → IsOuts F x.outs
lost_outs F d y x w none =
    let o : Loss F d y x = loss F d y x w in
    outs_less F o.before d o.body x.outs o.more (ap signs o.is ∙ none) o.indexed.outs_are

-- the loss of a fact that puts no link leaves the links
pub lost_links : (F : FactSet) (d : Dot) (y : Change) (x : Index) → WasIndexed F d y x
    → puts y ≡ None → (q : Dot) → map.get x.forest.links q ≡ links_in (map.get F) q
lost_links F d y x w none q =
    let o : Loss F d y x = loss F d y x w in
    o.indexed.tied.links q ∙ sym (links_still F o.before d o.body o.more (ap puts o.is ∙ none) q)

-- all tables after the loss of a reuse, without its key
pub lost_reuse : (F : FactSet) (d : Dot) (j : TokenId) (x : Index) (s : BTreeSet ReuseKey)
    (z : ForestFacts) → WasIndexed F d (change.Mark j) x
    → ((k : ReuseKey)
    → contains reuse_cmp s k
    ≡ cond (eq_by_cmp reuse_cmp (reuse_key j d) k) false (contains reuse_cmp x.reuses k))
    → Wakes F x.forest (λ q. dot_eq q j.dot) z
    → IsIndexed F
    (record {
      clients = x.clients;
      consents = x.consents;
      withdrawn = x.withdrawn;
      revocations = x.revocations;
      codes = x.codes;
      logins = x.logins;
      outs = x.outs;
      reuses = s;
      secrets = x.secrets;
      forest = z;
    })
lost_reuse F d j x s z w r woke =
    let o : Loss F d (change.Mark j) x = loss F d (change.Mark j) x w in
    record {
      clients_are = clients_less F o.before d o.body x.clients o.more (ap adds o.is)
          (λ q. ap (retires_of q) o.is) o.indexed.clients_are;
      consents_are = consents_less F o.before d o.body x.consents o.more
          (λ c g. ap (gives_to c g) o.is) (λ q. ap (withdraws_of q) o.is) o.indexed.consents_are;
      withdrawn_are = withdrawals_less F o.before d o.body x.withdrawn o.more
          (λ q. ap (withdraws_of q) o.is) o.indexed.withdrawn_are;
      revocations_are = lost_revocations F d j x w;
      codes_are =
          codes_kept F o.before d o.body x.codes o.more (ap issuing o.is) o.indexed.codes_are;
      logins_are =
          logins_kept F o.before d o.body x.logins o.more (ap issuing o.is) o.indexed.logins_are;
      outs_are = lost_outs F d (change.Mark j) x w refl;
      reuses_are = lost_reuses F d j x s w r;
      secrets_are = secrets_less F o.before d o.body x.secrets o.more (ap setting o.is)
          o.indexed.secrets_are;
      tied = untied_reuse F o.before d o.body j x.forest z o.more o.is o.indexed.tied woke;
    }

-- all tables after the loss of a revocation, without its key
pub lost_revocation : (F : FactSet) (d : Dot) (f : revoked.RevokedToken) (x : Index)
    (s : BTreeSet Revocation) (z : ForestFacts) → WasIndexed F d (change.Revoke f) x
    → ((e : Revocation)
    → contains revocation_cmp s e
    ≡ cond (eq_by_cmp revocation_cmp (revocation_key f.token f.digest f.client d) e) false
    (contains revocation_cmp x.revocations e))
    → Wakes F x.forest (λ q. dot_eq q f.token.dot) z
    → IsIndexed F
    (record {
      clients = x.clients;
      consents = x.consents;
      withdrawn = x.withdrawn;
      revocations = s;
      codes = x.codes;
      logins = x.logins;
      outs = x.outs;
      reuses = x.reuses;
      secrets = x.secrets;
      forest = z;
    })
lost_revocation F d f x s z w r woke =
    let o : Loss F d (change.Revoke f) x = loss F d (change.Revoke f) x w in
    record {
      clients_are = clients_less F o.before d o.body x.clients o.more (ap adds o.is)
          (λ q. ap (retires_of q) o.is) o.indexed.clients_are;
      consents_are = consents_less F o.before d o.body x.consents o.more
          (λ c g. ap (gives_to c g) o.is) (λ q. ap (withdraws_of q) o.is) o.indexed.consents_are;
      withdrawn_are = withdrawals_less F o.before d o.body x.withdrawn o.more
          (λ q. ap (withdraws_of q) o.is) o.indexed.withdrawn_are;
      revocations_are = less_revocations F d f x s w r;
      codes_are =
          codes_kept F o.before d o.body x.codes o.more (ap issuing o.is) o.indexed.codes_are;
      logins_are =
          logins_kept F o.before d o.body x.logins o.more (ap issuing o.is) o.indexed.logins_are;
      outs_are = lost_outs F d (change.Revoke f) x w refl;
      reuses_are = less_reuses F d f x w;
      secrets_are = secrets_less F o.before d o.body x.secrets o.more (ap setting o.is)
          o.indexed.secrets_are;
      tied = untied_revocation F o.before d o.body f x.forest z o.more o.is o.indexed.tied woke;
    }
