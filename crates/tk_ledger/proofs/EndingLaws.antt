-- One more fact stops the token that it revokes, the codes of the subject that it signs out, and
-- tokens at dots that it brings under a code, but no other. Key result:
--   marks_by_one   the marks after one more fact
use Rattle.std.proofs.Common.{◌≡◌, ◌≢◌, ◌≤◌, ◌⊎◌, inl, inr, true, Option, Some, None, []}
use Rattle.std.proofs.Common.{refl, sym, ap, subst, ◌∙◌}
use Rattle.std.proofs.lemmas.Bool.{or_cases, or_left, or_right}
use Rattle.std.specs.Option.{option_and_then}
use Rattle.std.specs.FinMap as map
use Rattle.tk_handle.specs.declared.dot.Dot.{Dot}
use Rattle.tk_handle.specs.declared.kind.Kind.TheVariants as kind
use Rattle.tk_handle.specs.declared.token_id.TokenId.{TokenId}
use Rattle.tk_family.specs.declared.link.Link.{Link}
use Rattle.tk_family.specs.declared.link.Link.TheVariants.{Code}
use Rattle.tk_family.specs.Families.{IsUnder}
use Rattle.tk_family.specs.Tops.{IsRaised}
use Rattle.tk_family.specs.Walks.{code_of}
use Rattle.tk_family.proofs.FamilyLaws.{IsUnder-within, IsUnder-one}
use Rattle.tk_family.proofs.WalkLaws.{code_of-sound, code_of-complete}
use Rattle.tk_fact.specs.declared.body.Body.{Body}
use Rattle.tk_fact.specs.declared.body.Body.TheVariants.{CodeIssued, TokenRevoked, SubjectOut}
use Rattle.tk_fact.specs.declared.code_issued.CodeIssued as issued
use Rattle.tk_fact.specs.declared.subject_out.SubjectOut as out
use Rattle.tk_fact.specs.declared.token_revoked.TokenRevoked as revoked
use Rattle.tk_fact.specs.Tokens.{minted_of}
use Rattle.tk_store.specs.FactSet.{FactSet, IsSubset}
use Rattle.tk_store.proofs.PutLaws.{some_injective, none_is_not_some}
use Rattle.tk_store.proofs.OneMoreLaws.{OneMore, more_subset, any_fact-more, cases_dots}
use Rattle.tk_ledger.specs.Tokens.{link_of, links_in, issued_in, issued_at, sees_reuse, is_reused}
use Rattle.tk_ledger.specs.Tokens.{IsOut, IsStopped, is_stopped, is_marked, IsEnded}
use Rattle.tk_ledger.proofs.RootLaws.{from_some, link_under, links-below, ended-under, under-minted}
use Rattle.tk_ledger.proofs.TokenLaws.{is_stopped-sound}
use Rattle.tk_ledger.proofs.TokenLaws.{is_stopped-complete}

-- the body revokes the token
pub record Revokes (b : Body) (k : TokenId) : Type 0 where
  pub revocation : revoked.TokenRevoked
  pub body : b ≡ TokenRevoked revocation
  pub token : revocation.token ≡ k

-- a set with a link at a dot has there what every greater set has
same_at : {B : Type 0} (g : Body → Option B) (F G : FactSet) → IsSubset F G
    → (q : Dot) (l : Link) (y : B) → links_in (map.get F) q ≡ Some l
    → option_and_then g (map.get G q) ≡ Some y → option_and_then g (map.get F q) ≡ Some y
same_at g F G w q l y at h =
    let x : (b : Body) × (map.get F q ≡ Some b) × (link_of b ≡ Some l) =
    from_some link_of (map.get F q) l at in
    ap (option_and_then g) (x.1 ∙ sym (w q x.0 x.1)) ∙ h

-- a grant under a code that its client revoked by an older fact was revoked before the new one
ended_before : (F G : FactSet) (d : Dot) (b : Body) (k : TokenId) (c : Dot)
    → k.kind ≢ kind.Access → OneMore F G d b
    → (e : IsEnded (map.get G) k) → e.by_client.place ≢ d → IsUnder (links_in (map.get F)) k.dot c
    → IsEnded (map.get F) k
ended_before F G d b k c other m e apart under =
    let w : IsSubset F G = more_subset F G d b m in
    let after : IsUnder (links_in (map.get G)) k.dot c =
    IsUnder-within (links_in (map.get F)) (links_in (map.get G)) (links-below F G w) k.dot c
    under in
    let one : c ≡ e.code =
    IsUnder-one (links_in (map.get G)) k.dot c e.code after (ended-under (map.get G) k other e) in
    let l : (l : Link) × (links_in (map.get F) k.dot ≡ Some l) =
    link_under (links_in (map.get F)) k.dot c under in
    let code : links_in (map.get F) e.code ≡ Some Code =
    ap (links_in (map.get F)) (sym one) ∙ under.leads.1 in
    record {
      minted = e.minted;
      code = e.code;
      issued = e.issued;
      mints = same_at (λ x. minted_of x k.kind) F G w k.dot l.0 e.minted l.1 e.mints;
      under = under-minted (map.get F) k.dot e.code
          (subst (λ (x : Dot). IsUnder (links_in (map.get F)) k.dot x) one under);
      issues = same_at issued_in F G w e.code Code e.issued code e.issues;
      by_client = record {
        place = e.by_client.place;
        revocation = e.by_client.revocation;
        held = sym (m.there e.by_client.place apart) ∙ e.by_client.held;
        token = e.by_client.token;
        digest_is = e.by_client.digest_is;
        client_is = e.by_client.client_is;
      };
    }

-- a code or refresh token that one more fact ends is the one that it revokes, or is at a dot that
-- it brings under a code
ended_by_one : (F G : FactSet) (d : Dot) (b : Body) (k : TokenId) → k.kind ≢ kind.Access
    → OneMore F G d b → IsEnded (map.get G) k
    → IsEnded (map.get F) k
    ⊎ (Revokes b k ⊎ IsRaised (links_in (map.get F)) (links_in (map.get G)) k.dot)
ended_by_one F G d b k other m e = elim (cases_dots e.by_client.place d) [
  | inl same ↦ inr (inl (record {
    revocation = e.by_client.revocation;
    body = some_injective b (TokenRevoked e.by_client.revocation)
        (sym m.here ∙ ap (map.get G) (sym same) ∙ e.by_client.held);
    token = e.by_client.token;
  }))
  | inr apart ↦ by_code (code_of (links_in (map.get F)) k.dot) refl apart
]
  where
    by_code : (o : Option Dot) → code_of (links_in (map.get F)) k.dot ≡ o → e.by_client.place ≢ d
        → IsEnded (map.get F) k
        ⊎ (Revokes b k ⊎ IsRaised (links_in (map.get F)) (links_in (map.get G)) k.dot)
    by_code None none apart = inr
        (inr (record {
          code = e.code;
          now = ended-under (map.get G) k other e;
          before =
              λ c u. none_is_not_some c
              (sym none ∙ code_of-complete (links_in (map.get F)) k.dot c u);
        }))
    by_code (Some c) at apart = inl
        (ended_before F G d b k c other m e apart (code_of-sound (links_in (map.get F)) k.dot c at))

-- the body signs out the subject of a code at its start, or later
pub record SignsOut (G : FactSet) (b : Body) (k : TokenId) : Type 0 where
  pub kind_is : k.kind ≡ kind.Code
  pub issued : issued.CodeIssued
  pub issues : issued_at (map.get G) k.dot ≡ Some issued
  pub sign_out : out.SubjectOut
  pub body : b ≡ SubjectOut sign_out
  pub subject_is : sign_out.subject ≡ issued.subject
  pub not_before : issued.start ≤ sign_out.moment

-- a body that issues a code has the link of a code
issued_link : (b : Body) (f : issued.CodeIssued) → issued_in b ≡ Some f → link_of b ≡ Some Code
issued_link (CodeIssued x) f h = refl
issued_link body f h = absurd (none_is_not_some f h)

-- a code is under itself
pub under_itself : (F : FactSet) (d : Dot) (f : issued.CodeIssued)
    → issued_at (map.get F) d ≡ Some f → IsUnder (links_in (map.get F)) d d
under_itself F d f h =
    let x : (b : Body) × (map.get F d ≡ Some b) × (issued_in b ≡ Some f) =
    from_some issued_in (map.get F d) f h in
    record { path = []; leads = (refl, ap (option_and_then link_of) x.1 ∙ issued_link x.0 f x.2) }

-- a dot without a fact is under no code
pub under_none : (F : FactSet) (d c : Dot) → map.get F d ≡ None
    → ¬ IsUnder (links_in (map.get F)) d c
under_none F d c free u =
    let l : (l : Link) × (links_in (map.get F) d ≡ Some l) =
    link_under (links_in (map.get F)) d c u in
    none_is_not_some l.0 (sym (ap (option_and_then link_of) free) ∙ l.1)

-- a code that one more fact stops is one of the subject that it signs out, or the one that it
-- issues
out_by_one : (F G : FactSet) (d : Dot) (b : Body) (k : TokenId) → k.kind ≡ kind.Code
    → OneMore F G d b → IsOut (map.get G) k.dot
    → IsOut (map.get F) k.dot
    ⊎ (SignsOut G b k ⊎ IsRaised (links_in (map.get F)) (links_in (map.get G)) k.dot)
out_by_one F G d b k code m o = elim (cases_dots o.signed_out.place d) [
  | inl same ↦ inr (inl (record {
    kind_is = code;
    issued = o.issued;
    issues = o.issues;
    sign_out = o.signed_out.sign_out;
    body = some_injective b (SubjectOut o.signed_out.sign_out)
        (sym m.here ∙ ap (map.get G) (sym same) ∙ o.signed_out.held);
    subject_is = o.signed_out.subject_is;
    not_before = o.signed_out.not_before;
  }))
  | inr apart ↦ elim (cases_dots k.dot d) [
    | inl here ↦ inr (inr (record {
      code = k.dot;
      now = under_itself G k.dot o.issued o.issues;
      before = λ c u. under_none F k.dot c (ap (map.get F) here ∙ m.free) u;
    }))
    | inr there ↦ inl (record {
      issued = o.issued;
      issues = ap (option_and_then issued_in) (sym (m.there k.dot there)) ∙ o.issues;
      signed_out = record {
        place = o.signed_out.place;
        sign_out = o.signed_out.sign_out;
        held = sym (m.there o.signed_out.place apart) ∙ o.signed_out.held;
        subject_is = o.signed_out.subject_is;
        not_before = o.signed_out.not_before;
      };
    })
  ]
]

-- what one more fact may stop
abbrev pub Stops : FactSet → FactSet → Body → TokenId → Type 0
Stops F G b k =
    Revokes b k ⊎ (SignsOut G b k ⊎ IsRaised (links_in (map.get F)) (links_in (map.get G)) k.dot)

-- a refresh token is no access token
no_access : (k : TokenId) → k.kind ≡ kind.Refresh → k.kind ≢ kind.Access
no_access k is other = absurd (apart (sym is ∙ other))
  where
    apart : ¬ (kind.Refresh ≡ kind.Access)
    apart e = cc

-- a token that is stopped with one more fact was stopped before, or that fact stops it
stopped_by_one : (F G : FactSet) (d : Dot) (b : Body) (k : TokenId) → OneMore F G d b
    → IsStopped (map.get G) k → IsStopped (map.get F) k ⊎ Stops F G b k
stopped_by_one F G d b k m (inl e) = elim (ended_by_one F G d b k (no_access k e.0) m e.1) [
  | inl old ↦ inl (inl (e.0, old))
  | inr (inl revokes) ↦ inr (inl revokes)
  | inr (inr raised) ↦ inr (inr (inr raised))
]
stopped_by_one F G d b k m (inr o) = elim (out_by_one F G d b k o.0 m o.1) [
  | inl old ↦ inl (inr (o.0, old))
  | inr new ↦ inr (inr new)
]

-- the marks after one more fact: the old ones, the one of its reuse, revocation or sign-out, and
-- those of tokens at dots that it brings under a code
pub marks_by_one : (F G : FactSet) (d : Dot) (b : Body) (k : TokenId) → OneMore F G d b
    → is_marked G k ≡ true
    → (is_marked F k ≡ true)
    ⊎ ((sees_reuse k (d, b) ≡ true) ⊎ ((is_stopped G k ≡ true) × Stops F G b k))
marks_by_one F G d b k m h = elim (or_cases (is_reused G k) (is_stopped G k) h) [
  | inl seen ↦ elim (or_cases (sees_reuse k (d, b)) (is_reused F k)
      (sym (any_fact-more (sees_reuse k) F G d b m) ∙ seen)) [
        | inl new ↦ inr (inl new)
        | inr old ↦ inl (or_left (is_reused F k) (is_stopped F k) old)
      ]
  | inr stopped ↦ elim (stopped_by_one F G d b k m (is_stopped-sound G k stopped)) [
    | inl old ↦ inl (or_right (is_reused F k) (is_stopped F k) (is_stopped-complete F k old))
    | inr new ↦ inr (inr (stopped, new))
  ]
]
