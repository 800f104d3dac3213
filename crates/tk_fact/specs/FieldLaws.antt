-- The law of each field (`.._exact`): a value that is read is spelled by the bytes taken, and a
-- spelling is read as its value. The laws `.._fits` and `.._fit` show which values have a spelling.
use Rattle.std.proofs.Common.{◌≡◌, ℕ, Bool, true, false, cond, eqb, ◌==◌, List, [], ◌∷◌, ◌++◌}
use Rattle.std.proofs.Common.{length, Option, Some, None, refl, sym, ap, subst, ◌∙◌, ◌&&◌, nat_le}
use Rattle.std.proofs.Common.{nat_lt, ◌≤◌, codes, is_none, arith}
use Rattle.std.specs.List.{list_all, AllByRecursion}
use Rattle.std.specs.Str.{bytes_eq}
use Rattle.std.proofs.lemmas.Slice.Eq.{bytes_eq-Decides}
use borrow.Author.Tests.{leb-true}
use Rattle.std.proofs.lemmas.Bool.{ltb-false}
use Rattle.tk_format.specs.Format.{Format, via, text, ◌and_then◌}
use Rattle.tk_format.specs.Exact.{IsBytes, Takes, IsExact, bind_some, chosen_some, some_is}
use Rattle.tk_format.specs.NumberLaws.{byte_exact, bytes_exact, nothing_exact, u64_exact}
use Rattle.tk_format.specs.Laws.{text_exact, both_exact, only_exact, shaped_exact, partly_exact}
use Rattle.tk_format.specs.Laws.{counted_exact}
use Rattle.tk_format.specs.CaseLaws.{Follows, coded_exact, choice_exact, via_takes, via_again}
use Rattle.tk_format.specs.CaseLaws.{case_takes}
use Rattle.tk_format.specs.KindLaws.{kind_exact, no_kind_exact, its, not_its}
use Rattle.tk_handle.proofs.FormatLaws.{moment_exact}
use Rattle.tk_scope.specs.Scope.{scope_of}
use Rattle.tk_match.specs.Redirects.{max_uri_bytes, is_uri, is_uri_byte, max_uris, redirects_of}
use Rattle.tk_match.specs.Redirects.{redirects_refusal}
use Rattle.tk_match.specs.declared.redirects.RedirectError.{RedirectError}
use Rattle.tk_match.specs.declared.challenge.ChallengeError.{ChallengeError}
use Rattle.tk_match.specs.Challenge.{ChallengeFields, challenge_of, min_verifier_bytes}
use Rattle.tk_match.specs.Challenge.{max_verifier_bytes, is_verifier, is_unreserved}
use Rattle.tk_fact.specs.declared.client_kind.ClientKind.TheVariants.{
  Public,
  Confidential,
  Resource,
  Keeping,
}
use Rattle.tk_fact.specs.Subject.{is_visible, max_subject_bytes, is_subject}
use Rattle.tk_fact.specs.Fields.{
  digest_field,
  client_kinds,
  client_kind_field,
  lives_field,
  printed_scope_of,
  scope_field,
}
use Rattle.tk_fact.specs.Fields.{by_field, subject_field, uri_field, redirects_field, flag_code}
use Rattle.tk_fact.specs.Fields.{flag_of, flag_field, challenge_tag, challenge_bytes}
use Rattle.tk_fact.specs.Fields.{challenge_rest, ChallengeFits, challenge_with, challenge_cases}
use Rattle.tk_fact.specs.Fields.{challenge_field, minted_field}

-- both of two tests that hold together hold
pub both_true : (a b : Bool) → (a && b) ≡ true → (a ≡ true) × (b ≡ true)
both_true true b h = (refl, h)
both_true false b h = absurd cc

-- `Follows` holds of what a case of a choice reads, if it holds of what the later cases read
pub one_case : {A B : Type 0} (tag : B → ℕ) (fields : B → List ℕ) (Fits : B → Type 0) (t k : ℕ)
    (into : A → B) (f : Format A) (next : Option (B × List ℕ)) (bytes : List ℕ) (x : B × List ℕ)
    → IsExact f → IsBytes bytes → ((a : A) → (tag (into a) ≡ k) × (fields (into a) ≡ f.spell a))
    → ((a : A) → f.Fits a → Fits (into a))
    → (next ≡ Some x → Follows tag fields Fits t bytes x)
    → cond (eqb t k) (via into f bytes) next ≡ Some x → Follows tag fields Fits t bytes x
one_case {A} {B} tag fields Fits t k into f next bytes x p is_bytes spelled fit later e =
    case_takes t k (via into f bytes) next x (Follows tag fields Fits t bytes)
    (λ is h. via_takes into f p bytes x (Follows tag fields Fits t bytes) is_bytes
    (λ a rest taken fits.
    record {
      tagged = (spelled a).0 ∙ sym is;
      taken = subst (λ (s : List ℕ). Takes bytes s rest) (sym (spelled a).1) taken;
      fit = fit a fits;
    }) h)
    later e

-- `Follows` holds of what a case without fields reads, if it holds of what the later cases read
pub bare_case : {B : Type 0} (tag : B → ℕ) (fields : B → List ℕ) (Fits : B → Type 0) (t k : ℕ)
    (b : B) (next : Option (B × List ℕ)) (bytes : List ℕ) (x : B × List ℕ)
    → IsBytes bytes → tag b ≡ k → fields b ≡ [] → Fits b
    → (next ≡ Some x → Follows tag fields Fits t bytes x)
    → cond (eqb t k) (Some (b, bytes)) next ≡ Some x → Follows tag fields Fits t bytes x
bare_case {B} tag fields Fits t k b next bytes x is_bytes tagged nothing fit later e =
    case_takes t k (Some (b, bytes)) next x (Follows tag fields Fits t bytes)
    (λ is h. subst (Follows tag fields Fits t bytes) (some_is (b, bytes) x h)
    (record {
      tagged = tagged ∙ sym is;
      taken = subst (λ (s : List ℕ). Takes bytes s bytes) (sym nothing)
          (record { parts = refl; rest_fits = is_bytes });
      fit = fit;
    }))
    later e

-- the law of the field of a digest
pub digest_exact : IsExact digest_field
digest_exact = bytes_exact 32

-- ---- client kinds

-- the law of the field of a client kind
pub client_kind_exact : IsExact client_kind_field
unfolding client_kinds
client_kind_exact =
    kind_exact {into = λ _. Public} _ _ nothing_exact (elim [ Public ↦ its _ tt | b ↦ not_its _ b ])
    (λ a. refl) (λ a h. h) (λ bytes. refl)
    and_then kind_exact _ _ digest_exact
    (elim [ Confidential digest ↦ its _ digest | b ↦ not_its _ b ]) (λ a. refl) (λ a h. h)
    (λ bytes. refl)
    and_then kind_exact _ _ digest_exact (elim [ Resource digest ↦ its _ digest | b ↦ not_its _ b ])
    (λ a. refl) (λ a h. h) (λ bytes. refl)
    and_then kind_exact _ _ digest_exact (elim [ Keeping digest ↦ its _ digest | b ↦ not_its _ b ])
    (λ a. refl) (λ a h. h) (λ bytes. refl)
    and_then no_kind_exact

-- the law of the field of a client's lives
pub lives_exact : IsExact lives_field
lives_exact =
    shaped_exact _ _ _ (both_exact _ _ u64_exact (both_exact _ _ u64_exact u64_exact)) (λ _. refl)
    (λ _. refl)

-- ---- scopes

-- a scope that was read from its printed form has that form
printed_back : (t s : List ℕ) → printed_scope_of t ≡ Some s → s ≡ t
printed_back t s h =
    let found = bind_some (scope_of t) (λ s. cond (bytes_eq s t) (Some s) None) s h in
    let same = chosen_some (bytes_eq found.0 t) (Some found.0) s found.2 in
    sym (some_is found.0 s same.1) ∙ (bytes_eq-Decides found.0 t).0 same.0

-- the law of the field of a scope
pub scope_exact : IsExact scope_field
scope_exact = partly_exact printed_scope_of (λ s. s) text text_exact printed_back

-- ---- subjects

-- the law of the field of a subject
pub subject_exact : IsExact subject_field
subject_exact = only_exact is_subject text text_exact

-- a subject has at most `max_subject_bytes`
pub subject_short : (t : List ℕ) → is_subject t ≡ true → length t ≤ max_subject_bytes
subject_short t h =
    let outer = both_true (nat_le 1 (length t) && nat_le (length t) max_subject_bytes)
    (list_all is_visible t) h in
    let inner = both_true (nat_le 1 (length t)) (nat_le (length t) max_subject_bytes) outer.0 in
    leb-true (length t) max_subject_bytes inner.1

-- a subject has a spelling
pub subject_fits : (t : List ℕ) → is_subject t ≡ true → subject_field.Fits t
subject_fits t h = (omega (arith, subject_short t h), h)

-- the law of the field of who and when
pub by_exact : IsExact by_field
by_exact = shaped_exact _ _ _ (both_exact _ _ subject_exact moment_exact) (λ _. refl) (λ _. refl)

-- ---- redirection URIs

-- a list that breaks no rule has at most `max_uris` elements, all of them URIs
pub kept_list : (uris : List (List ℕ)) → redirects_refusal uris ≡ None
    → (nat_lt max_uris (length uris) ≡ false) × (list_all is_uri uris ≡ true)
kept_list uris h = by_rules (length uris == 0) (nat_lt max_uris (length uris))
    (list_all is_uri uris) h
  where
    by_rules : (empty many all : Bool)
        → cond empty (Some RedirectError.Empty)
        (cond many (Some RedirectError.TooMany) (cond all None (Some RedirectError.Malformed)))
        ≡ None
        → (many ≡ false) × (all ≡ true)
    by_rules true many all h = absurd cc
    by_rules false true all h = absurd cc
    by_rules false false true h = (refl, refl)
    by_rules false false false h = absurd cc

-- a list that `redirects_of` returns is the list given
redirects_back : (uris kept : List (List ℕ)) → redirects_of uris ≡ Some kept → kept ≡ uris
redirects_back uris kept h =
    sym (some_is uris kept (chosen_some (is_none (redirects_refusal uris)) (Some uris) kept h).1)

-- an option that passes `is_none` is `None`
none_is : {A : Type 0} (o : Option A) → is_none o ≡ true → o ≡ None
none_is None h = refl
none_is (Some x) h = absurd cc

-- a list that `redirects_of` returns breaks no rule
pub redirects_keep : (uris : List (List ℕ)) → redirects_of uris ≡ Some uris
    → redirects_refusal uris ≡ None
redirects_keep uris h =
    none_is (redirects_refusal uris)
    (chosen_some (is_none (redirects_refusal uris)) (Some uris) uris h).0

-- a URI has at most `max_uri_bytes`
pub uri_short : (u : List ℕ) → is_uri u ≡ true → length u ≤ max_uri_bytes
uri_short u h =
    let outer = both_true (nat_le 1 (length u) && nat_le (length u) max_uri_bytes)
    (list_all is_uri_byte u) h in
    let inner = both_true (nat_le 1 (length u)) (nat_le (length u) max_uri_bytes) outer.0 in
    leb-true (length u) max_uri_bytes inner.1

-- the law of the field of a URI
pub uri_exact : IsExact uri_field
uri_exact = only_exact is_uri text text_exact

-- a URI has a spelling
pub uri_fits : (u : List ℕ) → is_uri u ≡ true → uri_field.Fits u
uri_fits u h = (omega (arith, uri_short u h), h)

-- each URI of a list has a spelling
uris_fit : (us : List (List ℕ)) → list_all is_uri us ≡ true → AllByRecursion text.Fits us
uris_fit [] h = tt
uris_fit (u ∷ us) h = let b =
    both_true (is_uri u) (list_all is_uri us) h in (omega (arith, uri_short u b.0), uris_fit us b.1)

-- a list that is not too long has at most `max_uris` elements
pub few : (n : ℕ) → nat_lt max_uris n ≡ false → n ≤ max_uris
few n h = ltb-false max_uris n h

-- a list that breaks no rule has a spelling
pub redirects_fit : (uris : List (List ℕ)) → redirects_refusal uris ≡ None
    → redirects_field.Fits uris
redirects_fit uris h =
    let kept = kept_list uris h in (
      (omega (arith, few (length uris) kept.0), uris_fit uris kept.1),
      ap (λ o. cond (is_none o) (Some uris) None) h,
    )

-- the law of the field of a list of redirection URIs
pub redirects_exact : IsExact redirects_field
redirects_exact = partly_exact redirects_of (λ r. r) _
    (counted_exact _ _ byte_exact text_exact) redirects_back

-- ---- flags

-- a flag that was found by its number has that number
flag_back : (b : ℕ) (f : Bool) → flag_of b ≡ Some f → flag_code f ≡ b
flag_back b f e =
    case_takes b 0 (Some false) (cond (eqb b 1) (Some true) None) f (λ f. flag_code f ≡ b)
    (λ is h. rw (← some_is false f h) (sym is))
    (case_takes b 1 (Some true) None f (λ f. flag_code f ≡ b)
    (λ is h. rw (← some_is true f h) (sym is)) (λ h. absurd cc)) e

-- a flag is found by its number
flag_forth : (f : Bool) → flag_of (flag_code f) ≡ Some f
flag_forth true = refl
flag_forth false = refl

-- the law of the field of a flag
pub flag_exact : IsExact flag_field
flag_exact = coded_exact flag_code flag_of (record { back = flag_back; forth = flag_forth })

-- ---- challenges

-- the law of the text of a challenge
challenge_bytes_exact : IsExact challenge_bytes
challenge_bytes_exact = only_exact is_verifier text text_exact

-- what a challenge's cases read follows its tag
challenge_takes : (t : ℕ) (bytes : List ℕ) (x : Option ChallengeFields × List ℕ) → IsBytes bytes
    → challenge_cases t bytes ≡ Some x
    → Follows challenge_tag challenge_rest ChallengeFits t bytes x
challenge_takes t bytes x fits e =
    bare_case challenge_tag challenge_rest ChallengeFits t 0 None _ bytes x fits refl refl tt
    (one_case challenge_tag challenge_rest ChallengeFits t 1
    (challenge_with false) challenge_bytes _ bytes x challenge_bytes_exact fits
    (λ a. (refl, refl)) (λ a h. h)
    (one_case challenge_tag challenge_rest ChallengeFits t 2
    (challenge_with true) challenge_bytes _ bytes x challenge_bytes_exact fits
    (λ a. (refl, refl)) (λ a h. h) (λ h. absurd cc))) e

-- the text of a challenge is read back, with either method
challenge_again_with : (is_s256 : Bool) (t rest : List ℕ) → challenge_bytes.Fits t
    → challenge_cases (challenge_tag (challenge_with is_s256 t)) (challenge_bytes.spell t ++ rest)
    ≡ Some (challenge_with is_s256 t, rest)
challenge_again_with false t rest fits =
    via_again (challenge_with false) challenge_bytes challenge_bytes_exact t rest fits
challenge_again_with true t rest fits =
    via_again (challenge_with true) challenge_bytes challenge_bytes_exact t rest fits

-- the fields of an optional challenge are read back
challenge_again : (c : Option ChallengeFields) (rest : List ℕ) → ChallengeFits c
    → challenge_cases (challenge_tag c) (challenge_rest c ++ rest) ≡ Some (c, rest)
challenge_again None rest fits = refl
challenge_again (Some c) rest fits = challenge_again_with c.is_s256 c.text rest fits

-- the law of the field of an optional challenge
pub challenge_exact : IsExact challenge_field
challenge_exact = choice_exact challenge_tag challenge_rest ChallengeFits challenge_cases
    (record { takes = challenge_takes; again = challenge_again })

-- a verifier has at most `max_verifier_bytes`
pub verifier_short : (t : List ℕ) → is_verifier t ≡ true → length t ≤ max_verifier_bytes
verifier_short t h =
    let outer = both_true
    (nat_le min_verifier_bytes (length t) && nat_le (length t) max_verifier_bytes)
    (list_all is_unreserved t) h in
    let inner = both_true (nat_le min_verifier_bytes (length t))
    (nat_le (length t) max_verifier_bytes) outer.0 in
    leb-true (length t) max_verifier_bytes inner.1

-- the text of a challenge has a spelling
pub challenge_fits : (c : ChallengeFields) → is_verifier c.text ≡ true → challenge_bytes.Fits c.text
challenge_fits c h = (omega (arith, verifier_short c.text h), h)

-- for `plain_challenge` and `s256_challenge`: a known method gives a challenge exactly if the text
-- has the grammar
by_text : (is_s256 verifier : Bool) (t : List ℕ)
    → cond (is_none (cond verifier None (Some ChallengeError.Malformed)))
    (challenge_with is_s256 t) None ≡ cond verifier (challenge_with is_s256 t) None
by_text is_s256 true t = refl
by_text is_s256 false t = refl

-- the challenge of the method `plain` and a text
pub plain_challenge : (t : List ℕ)
    → challenge_of (codes "plain") t ≡ cond (is_verifier t) (challenge_with false t) None
plain_challenge t = by_text false (is_verifier t) t

-- the challenge of the method `S256` and a text
pub s256_challenge : (t : List ℕ)
    → challenge_of (codes "S256") t ≡ cond (is_verifier t) (challenge_with true t) None
s256_challenge t = by_text true (is_verifier t) t

-- ---- minted tokens

-- the law of the field of a minted token
pub minted_exact : IsExact minted_field
minted_exact = shaped_exact _ _ _
    (both_exact _ _ digest_exact (both_exact _ _ moment_exact scope_exact)) (λ _. refl) (λ _. refl)
