-- The forest after a sign-out: the codes that a sign-out held before had stopped stay as they are,
-- and the marks at the others that it stops are written. Key result:
--   tied_out   the forest after a sign-out
use Rattle.std.proofs.Common.{◌≡◌, ◌≢◌, ◌⊎◌, inl, inr, ℕ, ◌≤◌, true, false, ◌&&◌, List, Option}
use Rattle.std.proofs.Common.{Some, None, sym, ap, subst, ◌∙◌, arith}
use Rattle.std.proofs.lemmas.Bool.{true≢false, cases_Bool, ltb-true, ltb-false, le-leb, and_from}
use Rattle.std.specs.BTreeSet.{BTreeSet, contains}
use Rattle.std.specs.FinMap as map
use Rattle.std.specs.Option.{option_and_then}
use Rattle.std.specs.Prelude.{nat_le, nat_lt}
use Rattle.sha2.specs.Sha256.{sha256}
use Rattle.tk_handle.specs.declared.dot.Dot.{Dot}
use Rattle.tk_handle.specs.declared.token_id.TokenId.{TokenId}
use Rattle.tk_family.specs.Dots.{has}
use Rattle.tk_family.specs.ForestFacts.{ForestFacts}
use Rattle.tk_fact.specs.declared.body.Body.{Body}
use Rattle.tk_fact.specs.declared.subject_out.SubjectOut as out
use Rattle.tk_store.specs.FactSet.{FactSet}
use Rattle.tk_store.proofs.PutLaws.{some_injective, none_is_not_some}
use Rattle.tk_store.proofs.OneMoreLaws.{OneMore}
use Rattle.tk_ledger.specs.Changes.{digest_prefix, change_in, reuses_of}
use Rattle.tk_ledger.specs.Index.{IsTied, Wakes}
use Rattle.tk_ledger.specs.SignOuts.{IsSignedOut, IsFirstUnreached, sign_out_in, sign_out_at}
use Rattle.tk_ledger.specs.SubjectTables.{IsCodes, code_cmp, code_key, codes_started, dots_of}
use Rattle.tk_ledger.specs.Tokens.{issued_in, IsOut, is_marked}
use Rattle.tk_ledger.specs.declared.change.Change.{Change}
use Rattle.tk_ledger.specs.declared.change.Change.TheVariants as change
use Rattle.tk_ledger.specs.declared.subject_keys.CodeKey.{CodeKey}
use Rattle.tk_ledger.proofs.EndingLaws.{SignsOut}
use Rattle.tk_ledger.proofs.ForestLaws.{puts, revoking, tied_quiet, unrevoked}
use Rattle.tk_ledger.proofs.SubjectKeyLaws.{code_listed, in_codes}
use Rattle.tk_ledger.proofs.SubjectTableLaws.{moment_of}
use Rattle.tk_ledger.proofs.TokenLaws.{is_marked-complete}

-- the digest of the subject that a change signs out
abbrev signed : Change → Option (List ℕ)
signed (change.SignOut subject moment) = Some subject
signed other = None

-- the code that a sign-out stops is at another dot
elsewhere : (F G : FactSet) (d : Dot) (b : Body) (k : TokenId) (r : SignsOut G b k)
    → OneMore F G d b → k.dot ≢ d
elsewhere F G d b k r m same =
    none_is_not_some r.issued
    (sym (ap (option_and_then issued_in)
    (ap (map.get G) same ∙ m.here ∙ ap (λ (x : Body). Some x) r.body))
    ∙ r.issues)

-- the code starts before the first moment that is left: its subject was out before
stopped_before : (F G : FactSet) (d : Dot) (b : Body) (k : TokenId) (r : SignsOut G b k)
    → OneMore F G d b → IsSignedOut (map.get F) r.issued.subject r.issued.start
    → is_marked F k ≡ true
stopped_before F G d b k r m gone = is_marked-complete F k (inr (inr (r.kind_is, here)))
  where
    here : IsOut (map.get F) k.dot
    here = record {
      issued = r.issued;
      issues =
          sym (ap (option_and_then issued_in) (m.there k.dot (elsewhere F G d b k r m))) ∙ r.issues;
      signed_out = gone;
    }

-- the forest after a sign-out, and the marks at the codes of the subject that start from the first
-- moment that no other sign-out of the subject reaches, to the moment of this one
pub tied_out : (F G : FactSet) (d : Dot) (b : Body) (subject : List ℕ) (moment first : ℕ)
    (codes : BTreeSet CodeKey) (x z : ForestFacts)
    → OneMore F G d b → map.get G d ≡ Some b → change_in b ≡ change.SignOut subject moment
    → IsTied F x → IsCodes G codes
    → ((f : out.SubjectOut) → sign_out_at (map.get G) d ≡ Some f
    → IsFirstUnreached (map.get F) f.subject first)
    → Wakes G x
    (λ q. nat_le first moment
    && has (dots_of (codes_started codes (digest_prefix subject) first moment)) q) z
    → IsTied G z
tied_out F G d b subject moment first codes x z m held is t listed left woke =
    tied_quiet F G d b x z
    (λ q. nat_le first moment
    && has (dots_of (codes_started codes (digest_prefix subject) first moment)) q) m
    (ap puts is) t woke
    (λ k h. absurd (true≢false (sym h ∙ ap (reuses_of k) is)))
    (λ k r. unrevoked b k (ap revoking is) r)
    (λ k r. by_start k r (cases_Bool (nat_lt r.issued.start first)))
  where
    by_start : (k : TokenId) (r : SignsOut G b k)
        → (nat_lt r.issued.start first ≡ true) ⊎ (nat_lt r.issued.start first ≡ false)
        → ((nat_le first moment
        && has (dots_of (codes_started codes (digest_prefix subject) first moment)) k.dot)
        ≡ true)
        ⊎ (is_marked F k ≡ true)
    by_start k r (inl before) =
        let gone : IsFirstUnreached (map.get F) r.sign_out.subject first =
        left r.sign_out
        (ap (option_and_then sign_out_in) (held ∙ ap (λ (y : Body). Some y) r.body)) in
        inr (stopped_before F G d b k r m
        (subst (λ s. IsSignedOut (map.get F) s r.issued.start) r.subject_is
        (gone.reached r.issued.start (ltb-true r.issued.start first before))))
    by_start k r (inr from) =
        let same : sha256 r.issued.subject ≡ subject =
        ap sha256 (sym r.subject_is)
        ∙ some_injective (sha256 r.sign_out.subject) subject
        (sym (ap (λ (c : Body). signed (change_in c)) r.body) ∙ ap signed is) in
        let last : r.sign_out.moment ≡ moment = some_injective r.sign_out.moment moment
        (sym (ap (λ (c : Body). moment_of (change_in c)) r.body) ∙ ap moment_of is) in
        let above : first ≤ r.issued.start = ltb-false r.issued.start first from in
        let below : r.issued.start ≤ moment = subst (λ n. r.issued.start ≤ n) last r.not_before in
        let key = code_listed G codes k.dot r.issued listed r.issues in
        let under = ap digest_prefix same in
        inl (and_from (nat_le first moment)
        (has (dots_of (codes_started codes (digest_prefix subject) first moment)) k.dot)
        (le-leb first moment (omega (arith, above, below)))
        (in_codes codes (digest_prefix subject) first moment r.issued.start k.dot above below
        (sym (ap (λ s. contains code_cmp codes (code_key s r.issued.start k.dot)) under) ∙ key.0)
        key.1))
