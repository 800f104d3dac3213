-- A fact that has a spelling has at most 8,192 bytes (`fact_short`), and has a spelling behind its
-- length too (`framed_fits`).
use Rattle.std.proofs.Common.{◌≡◌, ℕ, ◌*◌, ◌≤◌, Bool, true, false, cond, not, nat_lt, List, [], ◌∷◌}
use Rattle.std.proofs.Common.{◌++◌, length, Option, Some, None, refl, ap, arith}
use Rattle.std.specs.Prelude.{is_some}
use Rattle.std.specs.Int.{w16, w64}
use Rattle.std.specs.List.{list_all, flat_map}
use Rattle.std.specs.Str.{bytes_eq}
use Rattle.std.proofs.lemmas.Bool.{ltb-false}
use Rattle.std.proofs.lemmas.List.{length-append}
use Rattle.std.proofs.lemmas.List.Concat.{flat_map-cons}
use borrow.Author.Tests.{le-leb}
use Rattle.tk_format.specs.Format.{text, number_spelling}
use Rattle.tk_format.specs.Exact.{bind_some}
use Rattle.tk_format.specs.Spellings.{number_length, both_short, text_short}
use Rattle.tk_scope.specs.Scope.{max_length, is_token, max_tokens, scope_of, scope_text}
use Rattle.tk_scope.specs.Scope.{tokens_of}
use Rattle.tk_scope.specs.declared.error.ScopeError.{ScopeError}
use Rattle.tk_match.specs.Redirects.{max_uri_bytes, is_uri}
use Rattle.tk_match.specs.Challenge.{ChallengeFields, max_verifier_bytes}
use Rattle.tk_handle.specs.declared.dot.Dot.{Dot}
use Rattle.tk_handle.specs.DotBytes.{dot_field}
use Rattle.tk_handle.specs.Moment.{moment}
use Rattle.tk_handle.specs.declared.token_id.TokenId.{TokenId}
use Rattle.tk_fact.specs.declared.by.By.{By}
use Rattle.tk_fact.specs.declared.client_kind.ClientKind.{ClientKind}
use Rattle.tk_fact.specs.declared.client_kind.ClientKind.TheVariants.{
  Public,
  Confidential,
  Resource,
  Keeping,
}
use Rattle.tk_fact.specs.declared.client_lives.ClientLives.{ClientLives}
use Rattle.tk_fact.specs.declared.minted_token.MintedToken.{MintedToken}
use Rattle.tk_fact.specs.declared.body.Body.{Body}
use Rattle.tk_fact.specs.declared.body.Body.TheVariants as bodies
use Rattle.tk_fact.specs.Subject.{max_subject_bytes}
use Rattle.tk_fact.specs.Fields.{
  by_field,
  client_kinds,
  client_kind_field,
  lives_field,
  scope_field,
  redirects_field,
  ChallengeFits,
}
use Rattle.tk_fact.specs.Fields.{challenge_field, minted_field}
use Rattle.tk_fact.specs.Kinds as fields
use Rattle.tk_fact.specs.FactBytes.{kinds, body, fact, max_bytes, framed}
use Rattle.tk_fact.specs.FieldLaws.{both_true, kept_list, few, subject_short, uri_short}
use Rattle.tk_fact.specs.FieldLaws.{redirects_keep, verifier_short}

-- ---- lengths of the fields

-- a dot has at most 10 bytes
dot_short : (d : Dot) → length (dot_field.spell d) ≤ 10
dot_short d = both_short (number_spelling w16 d.region) (number_spelling w64 d.serial) 2 8
    (omega (arith, number_length w16 d.region)) (omega (arith, number_length w64 d.serial))

-- a moment has at most 8 bytes
moment_short : (n : ℕ) → length (moment.spell n) ≤ 8
moment_short n = omega (arith, number_length w64 n)

-- for `scope_within`: a text that breaks no rule of a scope is not too long
scope_by : (long grammar many : Bool) (s t : List ℕ)
    → cond (is_some (cond long (Some ScopeError.TooLong)
    (cond grammar (Some ScopeError.Malformed) (cond many (Some ScopeError.TooMany) None)))) None
    (Some s) ≡ Some t → long ≡ false
scope_by true grammar many s t h = absurd cc
scope_by false grammar many s t h = refl

-- a text that is a scope has at most `max_length` bytes
scope_within : (t s : List ℕ) → scope_of t ≡ Some s → length t ≤ max_length
scope_within t s h =
    ltb-false max_length (length t)
    (scope_by (nat_lt max_length (length t)) (not (list_all is_token (tokens_of t)))
    (nat_lt max_tokens (length (tokens_of t))) (scope_text (tokens_of t)) s h)

-- the field of a scope has at most 1,026 bytes
scope_short : (t : List ℕ) → scope_field.Fits t → length (text.spell t) ≤ 1026
scope_short t fits =
    let found = bind_some (scope_of t) (λ s. cond (bytes_eq s t) (Some s) None) t fits.1 in
    text_short t max_length (scope_within t found.0 found.1)

-- a redirection URI has at most 514 bytes with its length
uris_short : (us : List (List ℕ)) → list_all is_uri us ≡ true
    → length (flat_map text.spell us) ≤ 514 * length us
uris_short [] h = omega arith
uris_short (u ∷ us) h =
    let b = both_true (is_uri u) (list_all is_uri us) h in
    omega (
      arith,
      length-append (text.spell u) (flat_map text.spell us),
      ap length (flat_map-cons text.spell u us),
      text_short u max_uri_bytes (uri_short u b.0),
      uris_short us b.1,
    )

-- the field of a list of redirection URIs has at most 4,113 bytes
redirects_short : (us : List (List ℕ)) → redirects_field.Fits us
    → length (redirects_field.spell us) ≤ 4113
redirects_short us fits =
    let kept = kept_list us (redirects_keep us fits.1) in
    omega (arith, few (length us) kept.0, uris_short us kept.1)

-- the field of a minted token has at most 1,066 bytes
minted_short : (m : MintedToken) → minted_field.Fits m → length (minted_field.spell m) ≤ 1066
minted_short m fits =
    both_short m.digest (moment.spell m.expiry ++ text.spell m.scope) 32 1034
    (omega (arith, fits.0))
    (both_short (moment.spell m.expiry) (text.spell m.scope) 8 1026 (moment_short m.expiry)
    (scope_short m.scope fits.1.1))

-- the field of an optional challenge has at most 131 bytes
challenge_short : (c : Option ChallengeFields) → ChallengeFits c
    → length (challenge_field.spell c) ≤ 131
challenge_short None fits = omega arith
challenge_short (Some c) fits =
    omega (arith, text_short c.text max_verifier_bytes (verifier_short c.text fits.1))

-- the field of a client kind has at most 33 bytes
client_kind_short : (s : ClientKind) → client_kind_field.Fits s
    → length (client_kind_field.spell s) ≤ 33
unfolding client_kinds
client_kind_short Public fits = omega arith
client_kind_short (Confidential d) fits = omega (arith, fits)
client_kind_short (Resource d) fits = omega (arith, fits)
client_kind_short (Keeping d) fits = omega (arith, fits)

-- the field of a client's lives has at most 24 bytes
lives_short : (l : ClientLives) → length (lives_field.spell l) ≤ 24
lives_short l =
    both_short (number_spelling w64 l.access)
    (number_spelling w64 l.refresh ++ number_spelling w64 l.family) 8 16
    (omega (arith, number_length w64 l.access))
    (both_short (number_spelling w64 l.refresh) (number_spelling w64 l.family) 8 8
    (omega (arith, number_length w64 l.refresh)) (omega (arith, number_length w64 l.family)))

-- who and when have at most 138 bytes
by_short : (by : By) → by_field.Fits by → length (by_field.spell by) ≤ 138
by_short by fits =
    both_short (text.spell by.operator) (number_spelling w64 by.moment) 130 8
    (text_short by.operator max_subject_bytes (subject_short by.operator fits.0.1))
    (moment_short by.moment)

-- the terms of a client have at most 5,172 bytes
terms_short : (t : fields.Terms) → fields.client_terms.Fits t
    → length (fields.client_terms.spell t) ≤ 5172
terms_short t fits =
    simp length-append (omega (
      arith,
      client_kind_short t.0 fits.0,
      scope_short t.1.0 fits.1.0,
      simp length-append at (redirects_short t.1.1 fits.1.1),
    ))

-- the terms and the lives of a client have at most 5,196 bytes
limited_short : (t : fields.Terms × ClientLives) → fields.limited_terms.Fits t
    → length (fields.limited_terms.spell t) ≤ 5196
limited_short t fits =
    both_short (fields.client_terms.spell t.0) (lives_field.spell t.1) 5172 24
    (terms_short t.0 fits.0) (lives_short t.1)

-- the fields of a consent have at most 1,166 bytes
consent_short : (t : Dot × (List ℕ × List ℕ)) → fields.consent_terms.Fits t
    → length (fields.consent_terms.spell t) ≤ 1166
consent_short t fits =
    both_short (dot_field.spell t.0) (text.spell t.1.0 ++ text.spell t.1.1) 10 1156
    (dot_short t.0)
    (both_short (text.spell t.1.0) (text.spell t.1.1) 130 1026
    (text_short t.1.0 max_subject_bytes (subject_short t.1.0 fits.1.0.1))
    (scope_short t.1.1 fits.1.1))

-- the fields of a revocation have at most 53 bytes
revocation_short : (t : TokenId × (List ℕ × Dot)) → fields.revocation_terms.Fits t
    → length (fields.revocation_terms.spell t) ≤ 53
revocation_short t fits =
    simp length-append (omega (
      arith,
      simp length-append at (dot_short t.0.dot),
      fits.1.0,
      simp length-append at (dot_short t.1.1),
    ))

-- the fields of a sign-out have at most 138 bytes
sign_out_short : (t : List ℕ × ℕ) → fields.sign_out_terms.Fits t
    → length (fields.sign_out_terms.spell t) ≤ 138
sign_out_short t fits =
    both_short (text.spell t.0) (number_spelling w64 t.1) 130 8
    (text_short t.0 max_subject_bytes (subject_short t.0 fits.0.1)) (moment_short t.1)

-- the fields of a secret that was set have at most 58 bytes
secret_short : (t : Dot × (ℕ × (List ℕ × ℕ))) → fields.secret_terms.Fits t
    → length (fields.secret_terms.spell t) ≤ 58
secret_short t fits =
    simp length-append (omega (
      arith,
      simp length-append at (dot_short t.0),
      number_length w64 t.1.0,
      fits.1.1.0,
      moment_short t.1.1.1,
    ))

-- ---- lengths of bodies and facts

-- the body of a client without lives has at most 8,000 bytes
unlimited_body_short : (t : fields.Terms) (o : Option By)
    → body.Fits (bodies.ClientAdded (fields.unlimited t o))
    → length (body.spell (bodies.ClientAdded (fields.unlimited t o))) ≤ 8000
unfolding kinds
unlimited_body_short t None fits = omega (arith, terms_short t fits)
unlimited_body_short t (Some by) fits = omega (
  arith,
  length-append (fields.client_terms.spell t) (by_field.spell by),
  terms_short t fits.0,
  by_short by fits.1,
)

-- the body of a client with lives has at most 8,000 bytes
limited_body_short : (t : fields.Terms × ClientLives) (o : Option By)
    → body.Fits (bodies.ClientAdded (fields.limited t o))
    → length (body.spell (bodies.ClientAdded (fields.limited t o))) ≤ 8000
unfolding kinds
limited_body_short t None fits = omega (arith, limited_short t fits)
limited_body_short t (Some by) fits = omega (
  arith,
  length-append (fields.limited_terms.spell t) (by_field.spell by),
  limited_short t fits.0,
  by_short by fits.1,
)

-- the body of a client has at most 8,000 bytes
client_short : (t : fields.Terms) (lives : Option ClientLives) (o : Option By)
    → body.Fits (bodies.ClientAdded (fields.client_on t lives o))
    → length (body.spell (bodies.ClientAdded (fields.client_on t lives o))) ≤ 8000
client_short t None o fits = unlimited_body_short t o fits
client_short t (Some lives) o fits = limited_body_short (t, lives) o fits

-- the body of a client's retirement has at most 8,000 bytes
retirement_body_short : (t : Dot) (o : Option By)
    → body.Fits (bodies.ClientRetired (fields.retirement_on t o))
    → length (body.spell (bodies.ClientRetired (fields.retirement_on t o))) ≤ 8000
unfolding kinds
retirement_body_short t None fits = omega (arith, dot_short t)
retirement_body_short t (Some by) fits = omega (
  arith,
  length-append (dot_field.spell t) (by_field.spell by),
  dot_short t,
  by_short by fits.1,
)

-- the body of a consent has at most 8,000 bytes
consent_body_short : (t : Dot × (List ℕ × List ℕ)) (o : Option By)
    → body.Fits (bodies.ConsentGiven (fields.consent_on t o))
    → length (body.spell (bodies.ConsentGiven (fields.consent_on t o))) ≤ 8000
unfolding kinds
consent_body_short t None fits = omega (arith, consent_short t fits)
consent_body_short t (Some by) fits = omega (
  arith,
  length-append (fields.consent_terms.spell t) (by_field.spell by),
  consent_short t fits.0,
  by_short by fits.1,
)

-- the body of a withdrawal has at most 8,000 bytes
withdrawal_body_short : (t : Dot) (o : Option By)
    → body.Fits (bodies.ConsentWithdrawn (fields.withdrawal_on t o))
    → length (body.spell (bodies.ConsentWithdrawn (fields.withdrawal_on t o))) ≤ 8000
unfolding kinds
withdrawal_body_short t None fits = omega (arith, dot_short t)
withdrawal_body_short t (Some by) fits = omega (
  arith,
  length-append (dot_field.spell t) (by_field.spell by),
  dot_short t,
  by_short by fits.1,
)

-- the body of a revocation has at most 8,000 bytes
revocation_body_short : (t : TokenId × (List ℕ × Dot)) (o : Option By)
    → body.Fits (bodies.TokenRevoked (fields.revocation_on t o))
    → length (body.spell (bodies.TokenRevoked (fields.revocation_on t o))) ≤ 8000
unfolding kinds
revocation_body_short t None fits = omega (arith, revocation_short t fits)
revocation_body_short t (Some by) fits = omega (
  arith,
  length-append (fields.revocation_terms.spell t) (by_field.spell by),
  revocation_short t fits.0,
  by_short by fits.1,
)

-- the body of a sign-out has at most 8,000 bytes
sign_out_body_short : (t : List ℕ × ℕ) (o : Option By)
    → body.Fits (bodies.SubjectOut (fields.sign_out_on t o))
    → length (body.spell (bodies.SubjectOut (fields.sign_out_on t o))) ≤ 8000
unfolding kinds
sign_out_body_short t None fits = omega (arith, sign_out_short t fits)
sign_out_body_short t (Some by) fits = omega (
  arith,
  length-append (fields.sign_out_terms.spell t) (by_field.spell by),
  sign_out_short t fits.0,
  by_short by fits.1,
)

-- the body of a secret that was set has at most 8,000 bytes
secret_body_short : (t : Dot × (ℕ × (List ℕ × ℕ))) (o : Option By)
    → body.Fits (bodies.SecretSet (fields.secret_on t o))
    → length (body.spell (bodies.SecretSet (fields.secret_on t o))) ≤ 8000
unfolding kinds
secret_body_short t None fits = omega (arith, secret_short t fits)
secret_body_short t (Some by) fits = omega (
  arith,
  length-append (fields.secret_terms.spell t) (by_field.spell by),
  secret_short t fits.0,
  by_short by fits.1,
)

-- a body has at most 8,000 bytes
body_short : (b : Body) → body.Fits b → length (body.spell b) ≤ 8000
unfolding kinds
body_short (bodies.ClientAdded f) fits = client_short (fields.terms_of f) f.lives f.by fits
body_short (bodies.ClientRetired f) fits = retirement_body_short f.client f.by fits
body_short (bodies.ConsentGiven f) fits = consent_body_short (fields.consent_fields f) f.by fits
body_short (bodies.ConsentWithdrawn f) fits = withdrawal_body_short f.consent f.by fits
body_short (bodies.CodeIssued f) fits =
    simp length-append (omega (
      arith,
      simp length-append at (dot_short f.client),
      simp length-append at (dot_short f.consent),
      fits.1.0.0,
      moment_short f.start,
      moment_short f.expiry,
      moment_short f.family_end,
      text_short f.subject max_subject_bytes (subject_short f.subject fits.1.1.0.0.1),
      scope_short f.scope fits.1.1.0.1,
      text_short f.uri max_uri_bytes (uri_short f.uri fits.1.1.1.0.1),
      challenge_short f.challenge fits.1.1.1.1.1,
    ))
body_short (bodies.CodeRedeemed f) fits =
    simp length-append (omega (
      arith,
      simp length-append at (dot_short f.code),
      moment_short f.start,
      simp length-append at (minted_short f.access fits.1.1.0),
      simp length-append at (minted_short f.refresh fits.1.1.1),
    ))
body_short (bodies.RefreshRotated f) fits =
    simp length-append (omega (
      arith,
      simp length-append at (dot_short f.parent),
      number_length w16 f.generation,
      moment_short f.start,
      simp length-append at (minted_short f.access fits.1.1.1.0),
      simp length-append at (minted_short f.refresh fits.1.1.1.1),
    ))
body_short (bodies.TokenRevoked f) fits =
    revocation_body_short (fields.revocation_fields f) f.by fits
body_short (bodies.ReuseSeen f) fits =
    simp length-append (omega (arith, simp length-append at (dot_short f.token.dot)))
body_short (bodies.SubjectOut f) fits = sign_out_body_short (fields.sign_out_fields f) f.by fits
body_short (bodies.AccessRefreshed f) fits =
    simp length-append (omega (
      arith,
      simp length-append at (dot_short f.parent),
      moment_short f.start,
      simp length-append at (minted_short f.access fits.1.1),
    ))
body_short (bodies.SecretSet f) fits = secret_body_short (fields.secret_fields f) f.by fits

-- a fact has at most `max_bytes`
pub fact_short : (f : Dot × Body) → fact.Fits f → length (fact.spell f) ≤ max_bytes
fact_short f fits = omega (
  arith,
  length-append (dot_field.spell f.0) (body.spell f.1),
  dot_short f.0,
  body_short f.1 fits.0.1,
)

-- a fact that has a spelling has one behind its length
pub framed_fits : (f : Dot × Body) → fact.Fits f → framed.Fits f
framed_fits f fits =
    let short = fact_short f fits in
    (fits, (omega (arith, short), le-leb (length (fact.spell f)) max_bytes short))
