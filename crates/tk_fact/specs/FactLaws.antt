-- The law of each kind of fact, of a fact and of a framed fact: a value that is read is spelled by
-- the bytes taken, and a spelling is read as its value.
use Rattle.std.proofs.Common.{◌≡◌, ℕ, List, Option, Some, None, refl, sym, ap}
use Rattle.std.proofs.lemmas.Option.{none-some}
use Rattle.tk_format.specs.Format.{Format, Kinds, one_of, ◌and_then◌}
use Rattle.tk_format.specs.Exact.{IsExact, some_is}
use Rattle.tk_format.specs.NumberLaws.{u16_exact, u64_exact}
use Rattle.tk_format.specs.Laws.{both_exact, only_exact, shaped_exact, sized_exact}
use Rattle.tk_format.specs.KindLaws.{kind_exact, no_kind_exact, its, not_its}
use Rattle.tk_handle.proofs.FormatLaws.{dot_field_exact, moment_exact, token_exact}
use Rattle.tk_fact.specs.declared.body.Body.{Body}
use Rattle.tk_fact.specs.declared.body.Body.TheVariants as bodies
use Rattle.tk_fact.specs.declared.by.By.{By}
use Rattle.tk_fact.specs.declared.client_lives.ClientLives.{ClientLives}
use Rattle.tk_fact.specs.Administered.{by_of}
use Rattle.tk_fact.specs.Kinds as fields
use Rattle.tk_fact.specs.Fields.{by_field}
use Rattle.tk_fact.specs.Followed.{bare, followed, if_bare, if_followed}
use Rattle.tk_fact.specs.FactBytes.{kind_bare, kind_by, kinds_by, kinds, body, passes, fact}
use Rattle.tk_fact.specs.FactBytes.{max_bytes, framed, unlimited_in, limited_in, retired_in}
use Rattle.tk_fact.specs.FactBytes.{given_in, withdrawn_in, revoked_in, out_in, set_in}
use Rattle.tk_fact.specs.FieldLaws.{
  by_exact,
  digest_exact,
  client_kind_exact,
  lives_exact,
  scope_exact,
  subject_exact,
  uri_exact,
}
use Rattle.tk_fact.specs.FieldLaws.{redirects_exact, flag_exact, challenge_exact, minted_exact}

-- the law of the fields of ClientAdded without lives
client_terms_exact : IsExact fields.client_terms
client_terms_exact = both_exact _ _ client_kind_exact (both_exact _ _ scope_exact redirects_exact)

-- the law of the fields of ClientAdded with lives
limited_terms_exact : IsExact fields.limited_terms
limited_terms_exact = both_exact _ _ client_terms_exact lives_exact

-- fields with nothing behind them, if those of a value are such, make that value
bare_back : {A F : Type 0} (on : A → Option By → F) (fields : A) (o : Option By) (a : A)
    → if_bare (Some fields) o ≡ Some a → bare on a ≡ on fields o
bare_back on fields None a h = ap (bare on) (sym (some_is fields a h))
bare_back on fields (Some by) a h = absurd (none-some a h)

-- fields with who and when behind them, if those of a value are such, make that value
by_back : {A F : Type 0} (on : A → Option By → F) (fields : A) (o : Option By) (a : A × By)
    → if_followed (Some fields) o ≡ Some a → followed on a ≡ on fields o
by_back on fields None a h = absurd (none-some a h)
by_back on fields (Some by) a h = ap (followed on) (sym (some_is (fields, by) a h))

-- a value of another kind has no fields of this kind, whatever stands behind its own
no_bare : {A B : Type 0} (o : Option B) (a : A) → if_bare None o ≡ Some a → ⊥
no_bare None a h = none-some a h
no_bare (Some more) a h = none-some a h

-- a value of another kind has no fields of this kind with more behind them
no_followed : {A B : Type 0} (o : Option B) (a : A × B) → if_followed None o ≡ Some a → ⊥
no_followed None a h = none-some a h
no_followed (Some more) a h = none-some a h

-- the law of a kind in which no operator is named
bare_exact : {A C : Type 0} {n : ℕ} {f : Format A} (into : C → Body) (on : A → Option By → C)
    (of : Body → Option A) (others : Kinds Body) → IsExact f
    → ((b : Body) (a : A) → if_bare (of b) (by_of b) ≡ Some a → into (bare on a) ≡ b)
    → ((a : A) → if_bare (of (into (bare on a))) (by_of (into (bare on a))) ≡ Some a)
    → ((a : A) → others.Fits (into (bare on a)) → ⊥)
    → ((bytes : List ℕ) → others.read n bytes ≡ None)
    → IsExact (one_of others) → IsExact (one_of (kind_bare n into on of f others))
bare_exact into on of others p back made apart once q =
    kind_exact (λ b. if_bare (of b) (by_of b)) others p back made apart once q

-- the law of a kind in which an operator is named
by_kind_exact : {A C : Type 0} {n : ℕ} {f : Format A} (into : C → Body) (on : A → Option By → C)
    (of : Body → Option A) (others : Kinds Body) → IsExact f
    → ((b : Body) (a : A × By) → if_followed (of b) (by_of b) ≡ Some a
    → into (followed on a) ≡ b)
    → ((a : A × By) → if_followed (of (into (followed on a))) (by_of (into (followed on a)))
    ≡ Some a)
    → ((a : A × By) → others.Fits (into (followed on a)) → ⊥)
    → ((bytes : List ℕ) → others.read n bytes ≡ None)
    → IsExact (one_of others) → IsExact (one_of (kind_by n into on of f others))
by_kind_exact {f = f} into on of others p back made apart once q =
    kind_exact (λ b. if_followed (of b) (by_of b)) others (both_exact f by_field p by_exact) back
    made apart once q

-- a client with the terms of one without lives, in which nobody is named, is that one
unlimited_back : (t : fields.Terms) (lives : Option ClientLives) (o : Option By) (a : fields.Terms)
    → if_bare (if_bare (Some t) lives) o ≡ Some a
    → bare fields.unlimited a ≡ fields.client_on t lives o
unlimited_back t None o a h = bare_back fields.unlimited t o a h
unlimited_back t (Some lives) o a h = absurd (no_bare o a h)

-- a client with the terms and the lives of another, in which nobody is named, is that one
limited_back : (t : fields.Terms) (lives : Option ClientLives) (o : Option By)
    (a : fields.Terms × ClientLives) → if_bare (if_followed (Some t) lives) o ≡ Some a
    → bare fields.limited a ≡ fields.client_on t lives o
limited_back t None o a h = absurd (no_bare o a h)
limited_back t (Some lives) o a h = bare_back fields.limited (t, lives) o a h

-- a client with the terms of one without lives, by whom and when, is that one
unlimited_by_back : (t : fields.Terms) (lives : Option ClientLives) (o : Option By)
    (a : fields.Terms × By) → if_followed (if_bare (Some t) lives) o ≡ Some a
    → followed fields.unlimited a ≡ fields.client_on t lives o
unlimited_by_back t None o a h = by_back fields.unlimited t o a h
unlimited_by_back t (Some lives) o a h = absurd (no_followed o a h)

-- a client with the terms and the lives of another, by whom and when, is that one
limited_by_back : (t : fields.Terms) (lives : Option ClientLives) (o : Option By)
    (a : (fields.Terms × ClientLives) × By) → if_followed (if_followed (Some t) lives) o ≡ Some a
    → followed fields.limited a ≡ fields.client_on t lives o
limited_by_back t None o a h = absurd (no_followed o a h)
limited_by_back t (Some lives) o a h = by_back fields.limited (t, lives) o a h

-- the law of the fields of ConsentGiven
consent_terms_exact : IsExact fields.consent_terms
consent_terms_exact = both_exact _ _ dot_field_exact (both_exact _ _ subject_exact scope_exact)

-- the law of the fields of TokenRevoked
revocation_terms_exact : IsExact fields.revocation_terms
revocation_terms_exact = both_exact _ _ token_exact (both_exact _ _ digest_exact dot_field_exact)

-- the law of the fields of SubjectOut
sign_out_terms_exact : IsExact fields.sign_out_terms
sign_out_terms_exact = both_exact _ _ subject_exact moment_exact

-- the law of the fields of SecretSet
secret_terms_exact : IsExact fields.secret_terms
secret_terms_exact =
    both_exact _ _ dot_field_exact
    (both_exact _ _ u64_exact (both_exact _ _ digest_exact moment_exact))

-- the law of the fields of CodeIssued
code_issued_exact : IsExact fields.code_issued
code_issued_exact = shaped_exact _ _ _
    (both_exact fields.code_parties _ (both_exact _ _ dot_field_exact dot_field_exact)
    (both_exact fields.code_times _
    (both_exact _ _ digest_exact
    (both_exact _ _ moment_exact (both_exact _ _ moment_exact moment_exact)))
    (both_exact fields.code_rights fields.code_bindings (both_exact _ _ subject_exact scope_exact)
    (both_exact _ _ uri_exact (both_exact _ _ flag_exact challenge_exact))))) (λ _. refl)
    (λ _. refl)

-- the law of the fields of CodeRedeemed
code_redeemed_exact : IsExact fields.code_redeemed
code_redeemed_exact =
    shaped_exact _ _ _ (both_exact _ _ dot_field_exact
    (both_exact _ _ moment_exact (both_exact _ _ minted_exact minted_exact))) (λ _. refl)
    (λ _. refl)

-- the law of the fields of RefreshRotated
refresh_rotated_exact : IsExact fields.refresh_rotated
refresh_rotated_exact =
    shaped_exact _ _ _ (both_exact _ _ dot_field_exact
    (both_exact _ _ u16_exact
    (both_exact _ _ moment_exact (both_exact _ _ minted_exact minted_exact)))) (λ _. refl)
    (λ _. refl)

-- the law of the fields of ReuseSeen
reuse_seen_exact : IsExact fields.reuse_seen
reuse_seen_exact = shaped_exact _ _ _ token_exact (λ _. refl) (λ _. refl)

-- the law of the fields of AccessRefreshed
access_refreshed_exact : IsExact fields.access_refreshed
access_refreshed_exact =
    shaped_exact _ _ _ (both_exact _ _ dot_field_exact (both_exact _ _ moment_exact minted_exact))
    (λ _. refl) (λ _. refl)

-- the law of the bodies in which an operator is named: a row for each kind
kinds_by_exact : IsExact (one_of kinds_by)
kinds_by_exact =
    by_kind_exact bodies.ClientAdded fields.unlimited unlimited_in _ client_terms_exact
    (elim [
      | bodies.ClientAdded f ↦ λ a h. ap bodies.ClientAdded
          (unlimited_by_back (fields.terms_of f) f.lives f.by a h)
      | b ↦ λ a h. absurd (no_followed (by_of b) a h)
    ])
    (λ a. refl) (λ a h. h) (λ bytes. refl)
    and_then by_kind_exact bodies.ClientAdded fields.limited limited_in _ limited_terms_exact
    (elim [
      | bodies.ClientAdded f ↦ λ a h. ap bodies.ClientAdded
          (limited_by_back (fields.terms_of f) f.lives f.by a h)
      | b ↦ λ a h. absurd (no_followed (by_of b) a h)
    ])
    (λ a. refl) (λ a h. h) (λ bytes. refl)
    and_then by_kind_exact bodies.ClientRetired fields.retirement_on retired_in _ dot_field_exact
    (elim [
      | bodies.ClientRetired f ↦ λ a h. ap bodies.ClientRetired
          (by_back fields.retirement_on f.client f.by a h)
      | b ↦ λ a h. absurd (no_followed (by_of b) a h)
    ])
    (λ a. refl) (λ a h. h) (λ bytes. refl)
    and_then by_kind_exact bodies.ConsentGiven fields.consent_on given_in _ consent_terms_exact
    (elim [
      | bodies.ConsentGiven f ↦ λ a h. ap bodies.ConsentGiven
          (by_back fields.consent_on (fields.consent_fields f) f.by a h)
      | b ↦ λ a h. absurd (no_followed (by_of b) a h)
    ])
    (λ a. refl) (λ a h. h) (λ bytes. refl)
    and_then by_kind_exact bodies.ConsentWithdrawn fields.withdrawal_on withdrawn_in _
    dot_field_exact
    (elim [
      | bodies.ConsentWithdrawn f ↦ λ a h. ap bodies.ConsentWithdrawn
          (by_back fields.withdrawal_on f.consent f.by a h)
      | b ↦ λ a h. absurd (no_followed (by_of b) a h)
    ])
    (λ a. refl) (λ a h. h) (λ bytes. refl)
    and_then by_kind_exact bodies.TokenRevoked fields.revocation_on revoked_in _
    revocation_terms_exact
    (elim [
      | bodies.TokenRevoked f ↦ λ a h. ap bodies.TokenRevoked
          (by_back fields.revocation_on (fields.revocation_fields f) f.by a h)
      | b ↦ λ a h. absurd (no_followed (by_of b) a h)
    ])
    (λ a. refl) (λ a h. h) (λ bytes. refl)
    and_then by_kind_exact bodies.SubjectOut fields.sign_out_on out_in _ sign_out_terms_exact
    (elim [
      | bodies.SubjectOut f ↦ λ a h. ap bodies.SubjectOut
          (by_back fields.sign_out_on (fields.sign_out_fields f) f.by a h)
      | b ↦ λ a h. absurd (no_followed (by_of b) a h)
    ])
    (λ a. refl) (λ a h. h) (λ bytes. refl)
    and_then by_kind_exact bodies.SecretSet fields.secret_on set_in _ secret_terms_exact
    (elim [
      | bodies.SecretSet f ↦ λ a h. ap bodies.SecretSet
          (by_back fields.secret_on (fields.secret_fields f) f.by a h)
      | b ↦ λ a h. absurd (no_followed (by_of b) a h)
    ])
    (λ a. refl) (λ a h. h) (λ bytes. refl)
    and_then no_kind_exact

-- the law of the format of bodies: a row for each kind
body_exact : IsExact body
unfolding kinds
body_exact =
    bare_exact bodies.ClientAdded fields.unlimited unlimited_in _ client_terms_exact
    (elim [
      | bodies.ClientAdded f ↦ λ a h. ap bodies.ClientAdded
          (unlimited_back (fields.terms_of f) f.lives f.by a h)
      | b ↦ λ a h. absurd (no_bare (by_of b) a h)
    ])
    (λ a. refl) (λ a h. h) (λ bytes. refl)
    and_then bare_exact bodies.ClientRetired fields.retirement_on retired_in _ dot_field_exact
    (elim [
      | bodies.ClientRetired f ↦ λ a h. ap bodies.ClientRetired
          (bare_back fields.retirement_on f.client f.by a h)
      | b ↦ λ a h. absurd (no_bare (by_of b) a h)
    ])
    (λ a. refl) (λ a h. h) (λ bytes. refl)
    and_then bare_exact bodies.ConsentGiven fields.consent_on given_in _ consent_terms_exact
    (elim [
      | bodies.ConsentGiven f ↦ λ a h. ap bodies.ConsentGiven
          (bare_back fields.consent_on (fields.consent_fields f) f.by a h)
      | b ↦ λ a h. absurd (no_bare (by_of b) a h)
    ])
    (λ a. refl) (λ a h. h) (λ bytes. refl)
    and_then bare_exact bodies.ConsentWithdrawn fields.withdrawal_on withdrawn_in _ dot_field_exact
    (elim [
      | bodies.ConsentWithdrawn f ↦ λ a h. ap bodies.ConsentWithdrawn
          (bare_back fields.withdrawal_on f.consent f.by a h)
      | b ↦ λ a h. absurd (no_bare (by_of b) a h)
    ])
    (λ a. refl) (λ a h. h) (λ bytes. refl)
    and_then kind_exact (elim [ bodies.CodeIssued f ↦ Some f | _ ↦ None ]) _
    code_issued_exact
    (elim [ bodies.CodeIssued f ↦ its _ f | b ↦ not_its _ b ]) (λ a. refl) (λ a h. h)
    (λ bytes. refl)
    and_then kind_exact (elim [ bodies.CodeRedeemed f ↦ Some f | _ ↦ None ]) _
    code_redeemed_exact
    (elim [ bodies.CodeRedeemed f ↦ its _ f | b ↦ not_its _ b ]) (λ a. refl) (λ a h. h)
    (λ bytes. refl)
    and_then kind_exact (elim [ bodies.RefreshRotated f ↦ Some f | _ ↦ None ]) _
    refresh_rotated_exact
    (elim [ bodies.RefreshRotated f ↦ its _ f | b ↦ not_its _ b ]) (λ a. refl) (λ a h. h)
    (λ bytes. refl)
    and_then bare_exact bodies.TokenRevoked fields.revocation_on revoked_in _ revocation_terms_exact
    (elim [
      | bodies.TokenRevoked f ↦ λ a h. ap bodies.TokenRevoked
          (bare_back fields.revocation_on (fields.revocation_fields f) f.by a h)
      | b ↦ λ a h. absurd (no_bare (by_of b) a h)
    ])
    (λ a. refl) (λ a h. h) (λ bytes. refl)
    and_then kind_exact (elim [ bodies.ReuseSeen f ↦ Some f | _ ↦ None ]) _
    reuse_seen_exact
    (elim [ bodies.ReuseSeen f ↦ its _ f | b ↦ not_its _ b ]) (λ a. refl) (λ a h. h)
    (λ bytes. refl)
    and_then bare_exact bodies.SubjectOut fields.sign_out_on out_in _ sign_out_terms_exact
    (elim [
      | bodies.SubjectOut f ↦ λ a h. ap bodies.SubjectOut
          (bare_back fields.sign_out_on (fields.sign_out_fields f) f.by a h)
      | b ↦ λ a h. absurd (no_bare (by_of b) a h)
    ])
    (λ a. refl) (λ a h. h) (λ bytes. refl)
    and_then kind_exact (elim [ bodies.AccessRefreshed f ↦ Some f | _ ↦ None ]) _
    access_refreshed_exact
    (elim [ bodies.AccessRefreshed f ↦ its _ f | b ↦ not_its _ b ]) (λ a. refl) (λ a h. h)
    (λ bytes. refl)
    and_then bare_exact bodies.ClientAdded fields.limited limited_in _ limited_terms_exact
    (elim [
      | bodies.ClientAdded f ↦ λ a h. ap bodies.ClientAdded
          (limited_back (fields.terms_of f) f.lives f.by a h)
      | b ↦ λ a h. absurd (no_bare (by_of b) a h)
    ])
    (λ a. refl) (λ a h. h) (λ bytes. refl)
    and_then bare_exact bodies.SecretSet fields.secret_on set_in _ secret_terms_exact
    (elim [
      | bodies.SecretSet f ↦ λ a h. ap bodies.SecretSet
          (bare_back fields.secret_on (fields.secret_fields f) f.by a h)
      | b ↦ λ a h. absurd (no_bare (by_of b) a h)
    ])
    (λ a. refl) (λ a h. h) (λ bytes. refl)
    and_then kinds_by_exact

-- the law of the format of facts
pub fact_exact : IsExact fact
fact_exact = only_exact passes _ (both_exact _ _ dot_field_exact body_exact)

-- the law of the format of framed facts
pub framed_exact : IsExact framed
framed_exact = sized_exact max_bytes fact fact_exact
