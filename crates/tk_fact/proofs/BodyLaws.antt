-- Reading, copying and writing a body by its kind.
--   behind_byte            a body is read behind the byte of its kind
--   made_of, none_of       fields that were read make a body, or no body
--   fails_as               an error in the fields is an error of the body
--   made_by, none_by, fails_by   the same of fields that are put into another shape first
--   copy_of, no_copy       copied fields make a copy of the body, or no copy
use Rattle.std.proofs.Common.{◌≡◌, ℕ, List, Option, Some, None, Result, Ok, Err, refl, sym, ap}
use Rattle.std.proofs.Common.{subst, ◌∙◌, ◌∷◌, ◌++◌, ◌↔◌}
use Rattle.std.proofs.lemmas.List.{append-nil, append_assoc}
use mathlib.Core.Bool.{false≢true}
use Rattle.std.specs.Prelude.{IfOk, OnOk, drop}
use Rattle.std.specs.Option.{option_map}
use Rattle.std.specs.Result.{IsErr, IsErrAnd}
use Rattle.tk_format.specs.declared.error.ReadError.{ReadError}
use Rattle.tk_format.specs.declared.error.ReadError.TheVariants.{Malformed, Memory}
use Rattle.tk_format.specs.Format.{◌>>=◌, Format, byte_at_front, via}
use Rattle.tk_format.specs.Reading.{Gets, GetsBy}
use Rattle.tk_fact.specs.declared.body.Body.{Body}
use Rattle.tk_fact.specs.declared.body.Body.TheVariants as bodies
use Rattle.tk_handle.specs.declared.dot.Dot.{Dot}
use Rattle.tk_handle.specs.declared.token_id.TokenId.{TokenId}
use Rattle.tk_handle.specs.DotBytes.{dot_field}
use Rattle.tk_fact.specs.declared.by.By.{By}
use Rattle.tk_fact.specs.declared.client_added.ClientAdded.{ClientAdded}
use Rattle.tk_fact.specs.declared.client_lives.ClientLives.{ClientLives}
use Rattle.tk_fact.specs.Fields.{by_field, lives_field}
use Rattle.tk_fact.specs.Followed.{IfFits, bytes_behind, number_by}
use Rattle.tk_fact.specs.Kinds as fields
use Rattle.tk_fact.specs.FactBytes.{kinds, number_of, body}

-- a body is what the fields behind the byte of its kind make
pub behind_byte : (old mid : List ℕ) (t k : ℕ) (r : Option (Body × List ℕ))
    → byte_at_front old ≡ Some (t, mid) → t ≡ k → kinds.read k mid ≡ r → body.read old ≡ r
behind_byte old mid t k r front is h = rw (front, is) h

-- fields that were read make the body that is read
pub made_of : {A : Type 0} (into : A → Body) (f : Format A) (mid rest : List ℕ) (a : A)
    → f.read mid ≡ Some (a, rest) → via into f mid ≡ Some (into a, rest)
made_of into f mid rest a h = rw h refl

-- fields that are not there make no body
pub none_of : {A : Type 0} (into : A → Body) (f : Format A) (mid : List ℕ) → f.read mid ≡ None
    → via into f mid ≡ None
none_of into f mid h = rw h refl

-- an error in reading the fields is an error that the body may return
pub fails_as : {A : Type 0} (into : A → Body) (f : Format A) (r : Result Body ReadError)
    (e : ReadError) (old mid rest : List ℕ)
    → IsErrAnd r (λ x. x ≡ e) → Gets (λ a. a) f (Err e) mid rest
    → (via into f mid ≡ None → body.read old ≡ None) → Gets (λ b. b) body r old rest
fails_as into f (Ok b) e old mid rest is h later = absurd is
fails_as into f (Err Malformed) e old mid rest is h later =
    later (none_of into f mid
    (subst (λ (x : ReadError). Gets (λ a. a) f (Err x) mid rest) (sym is) h))
fails_as into f (Err Memory) e old mid rest is h later = tt

-- fields that were read, in another shape, make the body that is read
pub made_by : {A B : Type 0} (into : B → Body) (shape : A → B) (f : Format A) (mid rest : List ℕ)
    (b : B) → via shape f mid ≡ Some (b, rest)
    → via (λ a. into (shape a)) f mid ≡ Some (into b, rest)
made_by {A} {B} into shape f mid rest b h = by (f.read mid) h
  where
    by : (o : Option (A × List ℕ))
        → (◌>>=◌ {B = B × List ℕ} o (λ a. Some (shape a.0, a.1))) ≡ Some (b, rest)
        → (◌>>=◌ {B = Body × List ℕ} o (λ a. Some (into (shape a.0), a.1))) ≡ Some (into b, rest)
    by None h = ap (option_map (λ p. (into p.0, p.1))) h
    by (Some a) h = ap (option_map (λ p. (into p.0, p.1))) h

-- fields that are not there make no body, in another shape either
pub none_by : {A B : Type 0} (into : B → Body) (shape : A → B) (f : Format A) (mid : List ℕ)
    → via shape f mid ≡ None → via (λ a. into (shape a)) f mid ≡ None
none_by {A} {B} into shape f mid h = by (f.read mid) h
  where
    by : (o : Option (A × List ℕ)) → (◌>>=◌ {B = B × List ℕ} o (λ a. Some (shape a.0, a.1))) ≡ None
        → (◌>>=◌ {B = Body × List ℕ} o (λ a. Some (into (shape a.0), a.1))) ≡ None
    by None h = ap (option_map (λ p. (into p.0, p.1))) h
    by (Some a) h = ap (option_map (λ p. (into p.0, p.1))) h

-- an error in reading fields that are put into another shape is one that the body may return
pub fails_by : {A B : Type 0} (into : B → Body) (shape : A → B) (f : Format A)
    (r : Result Body ReadError) (e : ReadError) (old mid rest : List ℕ)
    → IsErrAnd r (λ x. x ≡ e) → GetsBy (via shape f) (Err e) mid rest
    → (via (λ a. into (shape a)) f mid ≡ None → body.read old ≡ None)
    → Gets (λ b. b) body r old rest
fails_by into shape f (Ok b) e old mid rest is h later = absurd is
fails_by into shape f (Err Malformed) e old mid rest is h later =
    later (none_by into shape f mid
    (subst (λ (x : ReadError). GetsBy (via shape f) (Err x) mid rest) (sym is) h))
fails_by into shape f (Err Memory) e old mid rest is h later = tt

-- the body of a client without lives: its number, its fields, and who and when
pub unlimited_spelled : (t : fields.Terms) (o : Option By)
    → body.spell (bodies.ClientAdded (fields.unlimited t o))
    ≡ number_by o 1 16 ∷ (fields.client_terms.spell t ++ bytes_behind by_field o)
unfolding kinds
unlimited_spelled t None =
    ap (λ (s : List ℕ). 1 ∷ s) (sym (append-nil (fields.client_terms.spell t)))
unlimited_spelled t (Some by) = refl

-- the body of a client without lives has a spelling exactly if its fields, and who and when, have
-- one
pub unlimited_fits : (t : fields.Terms) (o : Option By)
    → body.Fits (bodies.ClientAdded (fields.unlimited t o))
    ↔ (fields.client_terms.Fits t × IfFits by_field o)
unfolding kinds
unlimited_fits t None = (λ fits. (fits, tt), λ fits. fits.0)
unlimited_fits t (Some by) = (λ fits. fits, λ fits. fits)

-- the body of a client with lives: its number, its fields, and who and when
pub limited_spelled : (t : fields.Terms × ClientLives) (o : Option By)
    → body.spell (bodies.ClientAdded (fields.limited t o))
    ≡ number_by o 13 17 ∷ (fields.limited_terms.spell t ++ bytes_behind by_field o)
unfolding kinds
limited_spelled t None =
    ap (λ (s : List ℕ). 13 ∷ s) (sym (append-nil (fields.limited_terms.spell t)))
limited_spelled t (Some by) = refl

-- the body of a client with lives has a spelling exactly if its fields, and who and when, have one
pub limited_fits : (t : fields.Terms × ClientLives) (o : Option By)
    → body.Fits (bodies.ClientAdded (fields.limited t o))
    ↔ (fields.limited_terms.Fits t × IfFits by_field o)
unfolding kinds
limited_fits t None = (λ fits. (fits, tt), λ fits. fits.0)
limited_fits t (Some by) = (λ fits. fits, λ fits. fits)

-- the body of a client has a spelling exactly if its fields have one
pub client_fits : (t : fields.Terms) (lives : Option ClientLives) (o : Option By)
    → body.Fits (bodies.ClientAdded (fields.client_on t lives o))
    ↔ fields.ClientFits (fields.client_on t lives o)
client_fits t None o =
    let whole = unlimited_fits t o in
    (λ fits. ((whole.0 fits).0, (tt, (whole.0 fits).1)), λ fits. whole.1 (fits.0, fits.1.1))
client_fits t (Some lives) o =
    let whole = limited_fits (t, lives) o in (
      λ fits. ((whole.0 fits).0.0, ((whole.0 fits).0.1, (whole.0 fits).1)),
      λ fits. whole.1 ((fits.0, fits.1.0), fits.1.1),
    )

-- the number and the fields of a client's body
pub client_spelled : (t : fields.Terms) (lives : Option ClientLives) (o : Option By)
    → body.spell (bodies.ClientAdded (fields.client_on t lives o))
    ≡ number_by lives (number_by o 1 16) (number_by o 13 17)
    ∷ fields.client_bytes (fields.client_on t lives o)
client_spelled t None o = unlimited_spelled t o
client_spelled t (Some lives) o = limited_spelled (t, lives) o
    ∙ ap (λ (s : List ℕ). number_by o 13 17 ∷ s)
    (append_assoc (fields.client_terms.spell t) (lives_field.spell lives) (bytes_behind by_field o))

-- the fields of a client that were written are those behind the number of its body
pub client_written : {A E : Type 0} (r : Result A E) (b : Body) (f : ClientAdded)
    (old new : List ℕ) → b ≡ bodies.ClientAdded f
    → OnOk r (new ≡ old ++ fields.client_bytes f)
    → OnOk r (new ≡ old ++ drop 1 (body.spell b))
client_written r b f old new is h =
    subst (λ (s : List ℕ). OnOk r (new ≡ old ++ s))
    (sym (ap (drop 1) (ap body.spell is ∙ client_spelled (fields.terms_of f) f.lives f.by))) h

-- the body of a client's retirement: its number, its fields, and who and when
pub retirement_spelled : (t : Dot) (o : Option By)
    → body.spell (bodies.ClientRetired (fields.retirement_on t o))
    ≡ number_by o 2 18 ∷ (dot_field.spell t ++ bytes_behind by_field o)
unfolding kinds
retirement_spelled t None = ap (λ (s : List ℕ). 2 ∷ s) (sym (append-nil (dot_field.spell t)))
retirement_spelled t (Some by) = refl

-- the body of a client's retirement has a spelling exactly if its fields, and who and when, have
-- one
pub retirement_fits : (t : Dot) (o : Option By)
    → body.Fits (bodies.ClientRetired (fields.retirement_on t o))
    ↔ (dot_field.Fits t × IfFits by_field o)
unfolding kinds
retirement_fits t None = (λ fits. (fits, tt), λ fits. fits.0)
retirement_fits t (Some by) = (λ fits. fits, λ fits. fits)

-- the body of a consent: its number, its fields, and who and when
pub consent_spelled : (t : Dot × (List ℕ × List ℕ)) (o : Option By)
    → body.spell (bodies.ConsentGiven (fields.consent_on t o))
    ≡ number_by o 3 19 ∷ (fields.consent_terms.spell t ++ bytes_behind by_field o)
unfolding kinds
consent_spelled t None =
    ap (λ (s : List ℕ). 3 ∷ s) (sym (append-nil (fields.consent_terms.spell t)))
consent_spelled t (Some by) = refl

-- the body of a consent has a spelling exactly if its fields, and who and when, have one
pub consent_fits : (t : Dot × (List ℕ × List ℕ)) (o : Option By)
    → body.Fits (bodies.ConsentGiven (fields.consent_on t o))
    ↔ (fields.consent_terms.Fits t × IfFits by_field o)
unfolding kinds
consent_fits t None = (λ fits. (fits, tt), λ fits. fits.0)
consent_fits t (Some by) = (λ fits. fits, λ fits. fits)

-- the body of a withdrawal: its number, its fields, and who and when
pub withdrawal_spelled : (t : Dot) (o : Option By)
    → body.spell (bodies.ConsentWithdrawn (fields.withdrawal_on t o))
    ≡ number_by o 4 20 ∷ (dot_field.spell t ++ bytes_behind by_field o)
unfolding kinds
withdrawal_spelled t None = ap (λ (s : List ℕ). 4 ∷ s) (sym (append-nil (dot_field.spell t)))
withdrawal_spelled t (Some by) = refl

-- the body of a withdrawal has a spelling exactly if its fields, and who and when, have one
pub withdrawal_fits : (t : Dot) (o : Option By)
    → body.Fits (bodies.ConsentWithdrawn (fields.withdrawal_on t o))
    ↔ (dot_field.Fits t × IfFits by_field o)
unfolding kinds
withdrawal_fits t None = (λ fits. (fits, tt), λ fits. fits.0)
withdrawal_fits t (Some by) = (λ fits. fits, λ fits. fits)

-- the body of a revocation: its number, its fields, and who and when
pub revocation_spelled : (t : TokenId × (List ℕ × Dot)) (o : Option By)
    → body.spell (bodies.TokenRevoked (fields.revocation_on t o))
    ≡ number_by o 8 21 ∷ (fields.revocation_terms.spell t ++ bytes_behind by_field o)
unfolding kinds
revocation_spelled t None =
    ap (λ (s : List ℕ). 8 ∷ s) (sym (append-nil (fields.revocation_terms.spell t)))
revocation_spelled t (Some by) = refl

-- the body of a revocation has a spelling exactly if its fields, and who and when, have one
pub revocation_fits : (t : TokenId × (List ℕ × Dot)) (o : Option By)
    → body.Fits (bodies.TokenRevoked (fields.revocation_on t o))
    ↔ (fields.revocation_terms.Fits t × IfFits by_field o)
unfolding kinds
revocation_fits t None = (λ fits. (fits, tt), λ fits. fits.0)
revocation_fits t (Some by) = (λ fits. fits, λ fits. fits)

-- the body of a sign-out: its number, its fields, and who and when
pub sign_out_spelled : (t : List ℕ × ℕ) (o : Option By)
    → body.spell (bodies.SubjectOut (fields.sign_out_on t o))
    ≡ number_by o 10 22 ∷ (fields.sign_out_terms.spell t ++ bytes_behind by_field o)
unfolding kinds
sign_out_spelled t None =
    ap (λ (s : List ℕ). 10 ∷ s) (sym (append-nil (fields.sign_out_terms.spell t)))
sign_out_spelled t (Some by) = refl

-- the body of a sign-out has a spelling exactly if its fields, and who and when, have one
pub sign_out_fits : (t : List ℕ × ℕ) (o : Option By)
    → body.Fits (bodies.SubjectOut (fields.sign_out_on t o))
    ↔ (fields.sign_out_terms.Fits t × IfFits by_field o)
unfolding kinds
sign_out_fits t None = (λ fits. (fits, tt), λ fits. fits.0)
sign_out_fits t (Some by) = (λ fits. fits, λ fits. fits)

-- the body of a secret that was set: its number, its fields, and who and when
pub secret_spelled : (t : Dot × (ℕ × (List ℕ × ℕ))) (o : Option By)
    → body.spell (bodies.SecretSet (fields.secret_on t o))
    ≡ number_by o 15 23 ∷ (fields.secret_terms.spell t ++ bytes_behind by_field o)
unfolding kinds
secret_spelled t None = ap (λ (s : List ℕ). 15 ∷ s) (sym (append-nil (fields.secret_terms.spell t)))
secret_spelled t (Some by) = refl

-- the body of a secret that was set has a spelling exactly if its fields, and who and when, have
-- one
pub secret_fits : (t : Dot × (ℕ × (List ℕ × ℕ))) (o : Option By)
    → body.Fits (bodies.SecretSet (fields.secret_on t o))
    ↔ (fields.secret_terms.Fits t × IfFits by_field o)
unfolding kinds
secret_fits t None = (λ fits. (fits, tt), λ fits. fits.0)
secret_fits t (Some by) = (λ fits. fits, λ fits. fits)

-- a body begins with the number of its kind
pub body_begins : (b : Body) → (rest : List ℕ) × (body.spell b ≡ number_of b ∷ rest)
unfolding kinds
body_begins (bodies.ClientAdded f) =
    (fields.client_bytes f, client_spelled (fields.terms_of f) f.lives f.by)
body_begins (bodies.ClientRetired f) = (_, retirement_spelled f.client f.by)
body_begins (bodies.ConsentGiven f) = (_, consent_spelled (fields.consent_fields f) f.by)
body_begins (bodies.ConsentWithdrawn f) = (_, withdrawal_spelled f.consent f.by)
body_begins (bodies.CodeIssued f) = (fields.code_issued.spell f, refl)
body_begins (bodies.CodeRedeemed f) = (fields.code_redeemed.spell f, refl)
body_begins (bodies.RefreshRotated f) = (fields.refresh_rotated.spell f, refl)
body_begins (bodies.TokenRevoked f) = (_, revocation_spelled (fields.revocation_fields f) f.by)
body_begins (bodies.ReuseSeen f) = (fields.reuse_seen.spell f, refl)
body_begins (bodies.SubjectOut f) = (_, sign_out_spelled (fields.sign_out_fields f) f.by)
body_begins (bodies.AccessRefreshed f) = (fields.access_refreshed.spell f, refl)
body_begins (bodies.SecretSet f) = (_, secret_spelled (fields.secret_fields f) f.by)

-- a result that is an error has no copy to be equal
pub no_copy : {E : Type 0} (r : Result Body E) (b : Body) → IsErr r → IfOk r (λ copy. copy ≡ b)
no_copy (Ok copy) b is = absurd (false≢true is)
no_copy (Err e) b is = tt

-- a copy of the fields makes a copy of the body
pub copy_of : {A : Type 0} (into : A → Body) (copy fields : A) (b : Body) → copy ≡ fields
    → b ≡ into fields → into copy ≡ b
copy_of into copy fields b same is = ap into same ∙ sym is
