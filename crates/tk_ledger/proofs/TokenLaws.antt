-- The tests of a fact set decide the relations over the body at each dot. Key results:
--   uses_agree                                 a fact uses what its link uses
--   use_at, use_from                           the token that the fact at a dot uses
--   is_used-sound .. is_dead-complete          the tests decide the relations
use Rattle.std.proofs.Common.{◌≡◌, inl, inr, ℕ, ◌≤◌, true, ◌&&◌, List, Option, Some, None, refl}
use Rattle.std.proofs.Common.{sym, ap, ◌∙◌}
use borrow.Author.Tests.{le-leb}
use Rattle.std.proofs.lemmas.Bool.{leb-true, true≢false, or_cases, or_left, or_right, and_parts}
use Rattle.std.proofs.lemmas.Bool.{and_from, not-true, not_from_false}
use Rattle.std.proofs.lemmas.Slice.Eq.{bytes_eq-Decides}
use Rattle.std.specs.Option.{option_and_then}
use Rattle.std.specs.FinMap as map
use Rattle.tk_handle.specs.declared.dot.Dot.{Dot}
use Rattle.tk_handle.specs.declared.kind.Kind.TheVariants as kind
use Rattle.tk_handle.specs.declared.token_id.TokenId.{TokenId}
use Rattle.tk_handle.specs.Kind.{is_code, is_refresh}
use Rattle.tk_family.specs.declared.link.Link.{Link}
use Rattle.tk_family.specs.Families.{IsUsed, IsTwice, IsBad, IsDead, use_of, grant_at}
use Rattle.tk_family.proofs.WalkLaws.{code_of-sound, code_of-complete}
use Rattle.tk_fact.specs.declared.body.Body.{Body}
use Rattle.tk_fact.specs.declared.body.Body.TheVariants as bodies
use Rattle.tk_fact.specs.declared.body.Body.TheVariants.{TokenRevoked, ReuseSeen}
use Rattle.tk_fact.specs.declared.code_issued.CodeIssued as issued
use Rattle.tk_fact.specs.declared.token_revoked.TokenRevoked as revoked
use Rattle.tk_fact.specs.declared.reuse_seen.ReuseSeen as seen
use Rattle.tk_fact.specs.declared.subject_out.SubjectOut as out
use Rattle.tk_fact.specs.Tokens.{MintedFields, uses_of}
use Rattle.tk_store.specs.FactSet.{FactSet}
use Rattle.tk_store.proofs.EntryLaws.{Passing, any_fact-held, any_fact-of}
use Rattle.tk_ledger.specs.Bodies.{is_same_dot, is_same_token}
use Rattle.tk_ledger.specs.Tokens.{link_of, links_in, code_in, issued_at, Root, root_in, minted_in}
use Rattle.tk_ledger.specs.Tokens.{uses, is_used, uses_elsewhere, uses_first, is_twice, IsRevoked}
use Rattle.tk_ledger.specs.Tokens.{revoked_by, revokes, is_revoked, IsEnded, is_ended_by, is_ended}
use Rattle.tk_ledger.specs.Tokens.{reuse_of, sees_reuse, is_reused, IsOut, is_out_by, is_out}
use Rattle.tk_ledger.specs.Tokens.{IsStopped, is_stopped, IsMarked, is_marked, is_bad_grant, kills}
use Rattle.tk_ledger.specs.Tokens.{is_dead}
use Rattle.tk_ledger.specs.SignOuts.{IsSignedOut, signs_out_in, signs_out, is_signed_out}
use Rattle.tk_ledger.proofs.RootLaws.{from_some, root-sound, root-complete}
use Rattle.tk_ledger.proofs.SameLaws.{same_dot-true, same_dot-false, same_dot-apart}
use Rattle.tk_ledger.proofs.SameLaws.{same_dot-itself, same_token-true, same_token-itself}
use Rattle.tk_ledger.proofs.SameLaws.{names_token-true, names_token-of, names_dot-true}
use Rattle.tk_ledger.proofs.SameLaws.{names_dot-of}
use Rattle.tk_family.proofs.Growth.{kind_code as code_is}
use Rattle.tk_family.proofs.Growth.{kind_refresh as refresh_is}

-- ---- uses

-- a fact uses what its link uses
pub uses_agree : (body : Body) → uses_of body ≡ use_of (link_of body)
uses_agree (bodies.ClientAdded f) = refl
uses_agree (bodies.ClientRetired f) = refl
uses_agree (bodies.ConsentGiven f) = refl
uses_agree (bodies.ConsentWithdrawn f) = refl
uses_agree (bodies.CodeIssued f) = refl
uses_agree (bodies.CodeRedeemed f) = refl
uses_agree (bodies.RefreshRotated f) = refl
uses_agree (bodies.TokenRevoked f) = refl
uses_agree (bodies.ReuseSeen f) = refl
uses_agree (bodies.SubjectOut f) = refl
uses_agree (bodies.AccessRefreshed f) = refl
uses_agree (bodies.SecretSet f) = refl

-- the link at a dot is that of its body
pub links_at : (F : FactSet) (d : Dot) (b : Body) → map.get F d ≡ Some b
    → links_in (map.get F) d ≡ link_of b
links_at F d b h = ap (option_and_then link_of) h

-- the fact at a dot uses what the link of its body uses
pub use_at : (F : FactSet) (d : Dot) (b : Body) (k : TokenId) → map.get F d ≡ Some b
    → use_of (link_of b) ≡ Some k → use_of (links_in (map.get F) d) ≡ Some k
use_at F d b k held h = ap use_of (links_at F d b held) ∙ h

-- what uses a token is the link of a body
pub use_from : (o : Option Body) (k : TokenId) → use_of (option_and_then link_of o) ≡ Some k
    → (b : Body) × (o ≡ Some b) × (use_of (link_of b) ≡ Some k)
use_from None k h = absurd (nothing h)
  where
    nothing : ¬ (None ≡ Some k)
    nothing h = cc
use_from (Some b) k h = (b, refl, h)

-- a token that is used by the test is used
pub is_used-sound : (F : FactSet) (k : TokenId) → is_used F k ≡ true
    → IsUsed (links_in (map.get F)) k
is_used-sound F k h =
    let x : Passing (uses k) F = any_fact-held (uses k) F h in
    record {
      user = x.dot;
      by = use_at F x.dot x.body k x.held (names_token-true (use_of (link_of x.body)) k x.passes);
    }

-- a used token is used by the test
pub is_used-complete : (F : FactSet) (k : TokenId) → IsUsed (links_in (map.get F)) k
    → is_used F k ≡ true
is_used-complete F k u =
    let x : (b : Body) × (map.get F u.user ≡ Some b) × (use_of (link_of b) ≡ Some k) =
    use_from (map.get F u.user) k u.by in
    any_fact-of (uses k) F u.user x.0 x.1 (names_token-of (use_of (link_of x.0)) k x.2)

-- a token that is used twice by the test is used twice
pub is_twice-sound : (F : FactSet) (k : TokenId) → is_twice F k ≡ true
    → IsTwice (links_in (map.get F)) k
is_twice-sound F k h =
    let x : Passing (uses_first F k) F = any_fact-held (uses_first F k) F h in
    let p = and_parts _ _ x.passes in
    let y : Passing (uses_elsewhere k x.dot) F = any_fact-held (uses_elsewhere k x.dot) F p.1 in
    let q = and_parts _ _ y.passes in
    record {
      one = x.dot;
      two = y.dot;
      apart = same_dot-false x.dot y.dot (not-true (is_same_dot x.dot y.dot) q.0);
      by_one = use_at F x.dot x.body k x.held (names_token-true (use_of (link_of x.body)) k p.0);
      by_two = use_at F y.dot y.body k y.held (names_token-true (use_of (link_of y.body)) k q.1);
    }

-- a token that is used twice is so by the test
pub is_twice-complete : (F : FactSet) (k : TokenId) → IsTwice (links_in (map.get F)) k
    → is_twice F k ≡ true
is_twice-complete F k t =
    let x : (b : Body) × (map.get F t.one ≡ Some b) × (use_of (link_of b) ≡ Some k) =
    use_from (map.get F t.one) k t.by_one in
    let y : (b : Body) × (map.get F t.two ≡ Some b) × (use_of (link_of b) ≡ Some k) =
    use_from (map.get F t.two) k t.by_two in
    any_fact-of (uses_first F k) F t.one x.0 x.1
    (and_from _ _ (names_token-of (use_of (link_of x.0)) k x.2)
    (any_fact-of (uses_elsewhere k t.one) F t.two y.0 y.1
    (and_from _ _ (not_from_false (is_same_dot t.one t.two) (same_dot-apart t.one t.two t.apart))
    (names_token-of (use_of (link_of y.0)) k y.2))))

-- ---- revocations

-- a body that is that the client revoked the token with the digest
record Revoking (k : TokenId) (digest : List ℕ) (client : Dot) (b : Body) : Type 0 where
  pub revocation : revoked.TokenRevoked
  pub body : b ≡ TokenRevoked revocation
  pub token : revocation.token ≡ k
  pub digested : revocation.digest ≡ digest
  pub by : revocation.client ≡ client

-- a body that revokes the token, by the test, is its revocation by the client, with the digest
revoking : (k : TokenId) (digest : List ℕ) (client : Dot) (b : Body)
    → revoked_by k digest client b ≡ true → Revoking k digest client b
revoking k digest client (TokenRevoked x) h =
    let p = and_parts _ _ h in
    let q = and_parts _ _ p.1 in
    record {
      revocation = x;
      body = refl;
      token = same_token-true x.token k p.0;
      digested = (bytes_eq-Decides x.digest digest).0 q.0;
      by = same_dot-true x.client client q.1;
    }
revoking k digest client body h = absurd (true≢false (sym h))

-- a token that is revoked by the test was revoked by the client, with the digest
pub is_revoked-sound : (F : FactSet) (k : TokenId) (digest : List ℕ) (client : Dot)
    → is_revoked F k digest client ≡ true → IsRevoked (map.get F) k digest client
is_revoked-sound F k digest client h =
    let x : Passing (revokes k digest client) F = any_fact-held (revokes k digest client) F h in
    let r : Revoking k digest client x.body = revoking k digest client x.body x.passes in
    record {
      place = x.dot;
      revocation = r.revocation;
      held = x.held ∙ ap (λ (b : Body). Some b) r.body;
      token = r.token;
      digest_is = r.digested;
      client_is = r.by;
    }

-- a token that the client revoked with the digest is revoked by the test
pub is_revoked-complete : (F : FactSet) (k : TokenId) (digest : List ℕ) (client : Dot)
    → IsRevoked (map.get F) k digest client → is_revoked F k digest client ≡ true
is_revoked-complete F k digest client r =
    any_fact-of (revokes k digest client) F r.place (TokenRevoked r.revocation) r.held
    (and_from _ _ (ap (λ (t : TokenId). is_same_token t k) r.token ∙ same_token-itself k)
    (and_from _ _ ((bytes_eq-Decides r.revocation.digest digest).1 r.digest_is)
    (ap (λ (d : Dot). is_same_dot d client) r.client_is ∙ same_dot-itself client)))

-- for `is_ended-sound`: by the minted token and the root
ended_by-sound : (F : FactSet) (k : TokenId) (m : Option MintedFields) (o : Option Root)
    → minted_in (map.get F) k ≡ m → root_in (map.get F) k.dot ≡ o → is_ended_by F k m o ≡ true
    → IsEnded (map.get F) k
ended_by-sound F k None o i j h = absurd (true≢false (sym h))
ended_by-sound F k (Some m) None i j h = absurd (true≢false (sym h))
ended_by-sound F k (Some m) (Some o) i j h =
    let p = root-sound F k.dot o j in
    record {
      minted = m;
      code = o.code;
      issued = o.issued;
      mints = i;
      under = p.0;
      issues = p.1;
      by_client = is_revoked-sound F k m.digest o.issued.client h;
    }

-- a token that is ended by the test was revoked by the client of its code
pub is_ended-sound : (F : FactSet) (k : TokenId) → is_ended F k ≡ true → IsEnded (map.get F) k
is_ended-sound F k h =
    ended_by-sound F k (minted_in (map.get F) k) (root_in (map.get F) k.dot) refl refl h

-- a token that the client of its code revoked is ended by the test
pub is_ended-complete : (F : FactSet) (k : TokenId) → IsEnded (map.get F) k → is_ended F k ≡ true
is_ended-complete F k e =
    ap (λ (m : Option MintedFields). is_ended_by F k m (root_in (map.get F) k.dot)) e.mints
    ∙ ap (is_ended_by F k (Some e.minted)) (root-complete F k.dot e.code e.issued e.under e.issues)
    ∙ is_revoked-complete F k e.minted.digest e.issued.client e.by_client

-- ---- sign-outs

-- a body that is that the subject signed out at the moment, or later
record SigningOut (subject : List ℕ) (moment : ℕ) (b : Body) : Type 0 where
  pub sign_out : out.SubjectOut
  pub body : b ≡ bodies.SubjectOut sign_out
  pub subject_is : sign_out.subject ≡ subject
  pub not_before : moment ≤ sign_out.moment

-- a body that signs the subject out, by the test, is its sign-out at the moment or later
signing_out : (subject : List ℕ) (moment : ℕ) (b : Body) → signs_out_in subject moment b ≡ true
    → SigningOut subject moment b
signing_out subject moment (bodies.SubjectOut x) h =
    let p = and_parts _ _ h in
    record {
      sign_out = x;
      body = refl;
      subject_is = (bytes_eq-Decides x.subject subject).0 p.0;
      not_before = leb-true moment x.moment p.1;
    }
signing_out subject moment body h = absurd (true≢false (sym h))

-- a subject that is signed out by the test signed out at the moment or later
pub is_signed_out-sound : (F : FactSet) (subject : List ℕ) (moment : ℕ)
    → is_signed_out F subject moment ≡ true → IsSignedOut (map.get F) subject moment
is_signed_out-sound F subject moment h =
    let x : Passing (signs_out subject moment) F = any_fact-held (signs_out subject moment) F h in
    let s : SigningOut subject moment x.body = signing_out subject moment x.body x.passes in
    record {
      place = x.dot;
      sign_out = s.sign_out;
      held = x.held ∙ ap (λ (b : Body). Some b) s.body;
      subject_is = s.subject_is;
      not_before = s.not_before;
    }

-- a subject that signed out at the moment or later is signed out by the test
pub is_signed_out-complete : (F : FactSet) (subject : List ℕ) (moment : ℕ)
    → IsSignedOut (map.get F) subject moment → is_signed_out F subject moment ≡ true
is_signed_out-complete F subject moment s =
    any_fact-of (signs_out subject moment) F s.place (bodies.SubjectOut s.sign_out) s.held
    (and_from _ _ ((bytes_eq-Decides s.sign_out.subject subject).1 s.subject_is)
    (le-leb moment s.sign_out.moment s.not_before))

-- for `is_out-sound`: by the code that was issued at the dot, if there is one
out_by-sound : (F : FactSet) (d : Dot) (o : Option issued.CodeIssued) → issued_at (map.get F) d ≡ o
    → is_out_by F o ≡ true → IsOut (map.get F) d
out_by-sound F d None at h = absurd (true≢false (sym h))
out_by-sound F d (Some code) at h = record {
  issued = code;
  issues = at;
  signed_out = is_signed_out-sound F code.subject code.start h;
}

-- the subject of a code that is out by the test signed out at the code's start or later
pub is_out-sound : (F : FactSet) (d : Dot) → is_out F d ≡ true → IsOut (map.get F) d
is_out-sound F d h = out_by-sound F d (issued_at (map.get F) d) refl h

-- a code whose subject signed out at its start or later is out by the test
pub is_out-complete : (F : FactSet) (d : Dot) → IsOut (map.get F) d → is_out F d ≡ true
is_out-complete F d o = ap (is_out_by F) o.issues
    ∙ is_signed_out-complete F o.issued.subject o.issued.start o.signed_out

-- ---- marks

-- a body that is of the token's reuse, by the test, is a reuse of that token
reusing : (k : TokenId) (b : Body) → reuse_of k b ≡ true
    → (r : seen.ReuseSeen) × (b ≡ ReuseSeen r) × (r.token ≡ k)
reusing k (ReuseSeen x) h = (x, refl, same_token-true x.token k h)
reusing k body h = absurd (true≢false (sym h))

-- a token that is stopped by the test is stopped
pub is_stopped-sound : (F : FactSet) (k : TokenId) → is_stopped F k ≡ true → IsStopped (map.get F) k
is_stopped-sound F k h =
    elim (or_cases (is_refresh k.kind && is_ended F k) (is_code k.kind && is_out F k.dot) h) [
      | inl ended ↦ let p = and_parts _ _ ended in
          inl (refresh_is k.kind p.0, is_ended-sound F k p.1)
      | inr gone ↦ let p = and_parts _ _ gone in inr (code_is k.kind p.0, is_out-sound F k.dot p.1)
    ]

-- a stopped token is stopped by the test
pub is_stopped-complete : (F : FactSet) (k : TokenId) → IsStopped (map.get F) k
    → is_stopped F k ≡ true
is_stopped-complete F k (inl e) = or_left (is_refresh k.kind && is_ended F k)
    (is_code k.kind && is_out F k.dot)
    (and_from _ _ (ap is_refresh e.0) (is_ended-complete F k e.1))
is_stopped-complete F k (inr o) = or_right (is_refresh k.kind && is_ended F k)
    (is_code k.kind && is_out F k.dot) (and_from _ _ (ap is_code o.0) (is_out-complete F k.dot o.1))

-- a token that is marked by the test is marked
pub is_marked-sound : (F : FactSet) (k : TokenId) → is_marked F k ≡ true → IsMarked (map.get F) k
is_marked-sound F k h = elim (or_cases (is_reused F k) (is_stopped F k) h) [
  | inl reused ↦
      let x : Passing (sees_reuse k) F = any_fact-held (sees_reuse k) F reused in
      let r : (r : seen.ReuseSeen) × (x.body ≡ ReuseSeen r) × (r.token ≡ k) =
      reusing k x.body x.passes in
      inl (record {
        place = x.dot;
        reuse = r.0;
        held = x.held ∙ ap (λ (b : Body). Some b) r.1;
        token = r.2;
      })
  | inr stopped ↦ inr (is_stopped-sound F k stopped)
]

-- a marked token is marked by the test
pub is_marked-complete : (F : FactSet) (k : TokenId) → IsMarked (map.get F) k → is_marked F k ≡ true
is_marked-complete F k (inl r) = or_left (is_reused F k) (is_stopped F k)
    (any_fact-of (sees_reuse k) F r.place (ReuseSeen r.reuse) r.held
    (ap (λ (t : TokenId). is_same_token t k) r.token ∙ same_token-itself k))
is_marked-complete F k (inr s) =
    or_right (is_reused F k) (is_stopped F k) (is_stopped-complete F k s)

-- ---- bad grants and dead families

-- a grant that is bad by the test is bad
bad-sound : (F : FactSet) (d : Dot) (o : Option Link) → links_in (map.get F) d ≡ o
    → is_bad_grant F d o ≡ true → IsBad (links_in (map.get F)) (IsMarked (map.get F)) d
bad-sound F d None at h = absurd (true≢false (sym h))
bad-sound F d (Some l) at h = record {
  link = l;
  here = at;
  why = elim (or_cases (is_marked F (grant_at d l)) (is_twice F (grant_at d l)) h) [
    | inl marked ↦ inl (is_marked-sound F (grant_at d l) marked)
    | inr twice ↦ inr (is_twice-sound F (grant_at d l) twice)
  ];
}

-- a bad grant is bad by the test
bad-complete : (F : FactSet) (d : Dot) → IsBad (links_in (map.get F)) (IsMarked (map.get F)) d
    → is_bad_grant F d (links_in (map.get F) d) ≡ true
bad-complete F d b = ap (is_bad_grant F d) b.here ∙ (elim b.why [
  | inl marked ↦ or_left (is_marked F (grant_at d b.link)) (is_twice F (grant_at d b.link))
      (is_marked-complete F (grant_at d b.link) marked)
  | inr twice ↦ or_right (is_marked F (grant_at d b.link)) (is_twice F (grant_at d b.link))
      (is_twice-complete F (grant_at d b.link) twice)
])

-- a family that is dead by the test is dead
pub is_dead-sound : (F : FactSet) (c : Dot) → is_dead F c ≡ true
    → IsDead (links_in (map.get F)) (IsMarked (map.get F)) c
is_dead-sound F c h =
    let x : Passing (kills F c) F = any_fact-held (kills F c) F h in
    let p = and_parts _ _ x.passes in
    record {
      member = x.dot;
      under = code_of-sound (links_in (map.get F)) x.dot c
          (names_dot-true (code_in (map.get F) x.dot) c p.0);
      bad = bad-sound F x.dot (link_of x.body) (links_at F x.dot x.body x.held) p.1;
    }

-- a dead family is dead by the test
pub is_dead-complete : (F : FactSet) (c : Dot)
    → IsDead (links_in (map.get F)) (IsMarked (map.get F)) c → is_dead F c ≡ true
is_dead-complete F c x =
    let y : (b : Body) × (map.get F x.member ≡ Some b) × (link_of b ≡ Some x.bad.link) =
    from_some link_of (map.get F x.member) x.bad.link x.bad.here in
    any_fact-of (kills F c) F x.member y.0 y.1 (and_from _ _
    (names_dot-of (code_in (map.get F) x.member) c
    (code_of-complete (links_in (map.get F)) x.member c x.under))
    (ap (is_bad_grant F x.member) (sym (links_at F x.member y.0 y.1))
    ∙ bad-complete F x.member x.bad))
