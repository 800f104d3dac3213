-- Each status is returned for exactly the handles that it describes. Key results:
--   known_parts, known_status          the parts of a standing, and the standing of these parts
--   says                               a status describes its handle
--   unseen_exactly .. known_exactly    a status is that of each handle that it describes
use Rattle.std.proofs.Common.{◌≡◌, inl, inr, ℕ, Bool, true, false, List, Option, Some, None, refl}
use Rattle.std.proofs.Common.{sym, ap, subst, ◌∙◌}
use Rattle.std.proofs.lemmas.Bool.{true≢false, cases_Bool, cond-true, cond-false}
use Rattle.std.proofs.lemmas.Slice.Eq.{bytes_eq-Decides}
use Rattle.std.specs.Option.{option_and_then}
use Rattle.std.specs.Str.{bytes_eq}
use Rattle.std.specs.FinMap as map
use Rattle.tk_handle.specs.declared.dot.Dot.{Dot}
use Rattle.tk_handle.specs.declared.handle.Handle.{Handle}
use Rattle.tk_family.specs.declared.link.Link.TheVariants.{Code}
use Rattle.tk_family.specs.Families.{IsInFamily}
use Rattle.tk_fact.specs.declared.body.Body.{Body}
use Rattle.tk_fact.specs.declared.body.Body.TheVariants.{CodeIssued, CodeRedeemed, RefreshRotated}
use Rattle.tk_fact.specs.declared.code_issued.CodeIssued as issued
use Rattle.tk_fact.specs.Tokens.{MintedFields, minted_of}
use Rattle.tk_store.specs.FactSet.{FactSet}
use Rattle.tk_store.proofs.PutLaws.{none_is_not_some, some_injective}
use Rattle.tk_ledger.specs.declared.status.Status.{Status}
use Rattle.tk_ledger.specs.declared.status.Status.TheVariants.{Unseen, Wrong, Broken, Known}
use Rattle.tk_ledger.specs.StandingFields.{StandingFields}
use Rattle.tk_ledger.specs.Bodies.{Bodies}
use Rattle.tk_ledger.specs.Tokens.{link_of, links_in, anchor_in, IsMintedUnder, issued_in}
use Rattle.tk_ledger.specs.Tokens.{issued_at, Root, root_in}
use Rattle.tk_ledger.specs.Tokens.{minted_in}
use Rattle.tk_ledger.specs.Status.{standing_in, state_in, digest_of, with_digest, minted_as}
use Rattle.tk_ledger.specs.Status.{status_by, status_in, IsMintedToken, IsKnownToken, Says, IsKnown}
use Rattle.tk_ledger.proofs.RootLaws.{from_some, root-sound, root-complete}

-- ---- a token that is minted with the digest

-- what is found with a digest was minted, and has the digest
with_digest-sound : (digest : List ℕ) (o : Option MintedFields) (m : MintedFields)
    → with_digest digest o ≡ Some m → (o ≡ Some m) × (m.digest ≡ digest)
with_digest-sound digest None m h = absurd (none_is_not_some m h)
with_digest-sound digest (Some x) m h = elim (cases_Bool (bytes_eq x.digest digest)) [
  | inl same ↦
      let e : x ≡ m =
      some_injective x m (sym (cond-true (bytes_eq x.digest digest) (Some x) None same) ∙ h) in (
        ap (λ (y : MintedFields). Some y) e,
        subst (λ (y : MintedFields). y.digest ≡ digest) e
            ((bytes_eq-Decides x.digest digest).0 same),
      )
  | inr apart ↦ absurd
      (none_is_not_some m (sym (cond-false (bytes_eq x.digest digest) (Some x) None apart) ∙ h))
]

-- what was minted with a digest is found with it
with_digest-complete : (digest : List ℕ) (o : Option MintedFields) (m : MintedFields) → o ≡ Some m
    → m.digest ≡ digest → with_digest digest o ≡ Some m
with_digest-complete digest o m h d = ap (with_digest digest) h
    ∙ cond-true (bytes_eq m.digest digest) (Some m) None ((bytes_eq-Decides m.digest digest).1 d)

-- ---- the parts of a standing

-- the facts have the handle's token and its root, with this standing
pub record Knows (F : FactSet) (now : ℕ) (h : Handle) (s : StandingFields) : Type 0 where
  pub body : Body
  pub minted : MintedFields
  pub root : Root
  pub here : map.get F h.id.dot ≡ Some body
  pub mints : minted_in (map.get F) h.id ≡ Some minted
  pub digest_is : minted.digest ≡ digest_of h
  pub under : IsMintedUnder (map.get F) h.id.dot root.code
  pub issues : issued_at (map.get F) root.code ≡ Some root.issued
  pub standing : standing_in F now h.id body minted root ≡ s

-- a status has a standing
abbrev is_known : Status → Bool
is_known Unseen = false
is_known Wrong = false
is_known (Broken t) = false
is_known (Known s) = true

-- a status that is not known, by the test, has no standing
other : (x : Status) (s : StandingFields) → is_known x ≡ false → x ≡ Known s → ⊥
other x s h same = true≢false (sym (ap is_known same) ∙ h)

-- equal known statuses have equal standings
same_standing : (a s : StandingFields) → Known a ≡ Known s → a ≡ s
same_standing a s h = cc

-- for `known_parts`: by the body at the dot, the minted token and the root
known_by : (F : FactSet) (now : ℕ) (h : Handle) (s : StandingFields) (b : Option Body)
    (m : Option MintedFields) (o : Option Root)
    → map.get F h.id.dot ≡ b → minted_as (map.get F) h ≡ m → root_in (map.get F) h.id.dot ≡ o
    → status_by F now h.id b m o ≡ Known s → Knows F now h s
known_by F now h s None m o i j n e = absurd (other Unseen s refl e)
known_by F now h s (Some b) None o i j n e = absurd (other Wrong s refl e)
known_by F now h s (Some b) (Some m) None i j n e = absurd (other (Broken m.expiry) s refl e)
known_by F now h s (Some b) (Some m) (Some o) i j n e =
    let d = with_digest-sound (digest_of h) (minted_in (map.get F) h.id) m j in
    let p = root-sound F h.id.dot o n in
    record {
      body = b;
      minted = m;
      root = o;
      here = i;
      mints = d.0;
      digest_is = d.1;
      under = p.0;
      issues = p.1;
      standing = same_standing (standing_in F now h.id b m o) s e;
    }

-- the parts of a known status
pub known_parts : (F : FactSet) (now : ℕ) (h : Handle) (s : StandingFields)
    → status_in F now h ≡ Known s → Knows F now h s
known_parts F now h s e = known_by F now h s (map.get F h.id.dot) (minted_as (map.get F) h)
    (root_in (map.get F) h.id.dot) refl refl refl e

-- the standing of these parts
pub known_status : (F : FactSet) (now : ℕ) (h : Handle) (m : MintedFields) (o : Root)
    → minted_in (map.get F) h.id ≡ Some m → m.digest ≡ digest_of h
    → IsMintedUnder (map.get F) h.id.dot o.code → issued_at (map.get F) o.code ≡ Some o.issued
    → (s : StandingFields) × (status_in F now h ≡ Known s) × (s.state ≡ state_in F now h.id m o)
known_status F now h m o mints d under issues =
    let x : (b : Body) × (map.get F h.id.dot ≡ Some b) × (minted_of b h.id.kind ≡ Some m) =
    from_some (λ b. minted_of b h.id.kind) (map.get F h.id.dot) m mints in (
      standing_in F now h.id x.0 m o,
      ap (λ (b : Option Body).
          status_by F now h.id b (minted_as (map.get F) h) (root_in (map.get F) h.id.dot)) x.1
          ∙ ap (λ (y : Option MintedFields).
          status_by F now h.id (Some x.0) y (root_in (map.get F) h.id.dot))
          (with_digest-complete (digest_of h) (minted_in (map.get F) h.id) m mints d)
          ∙ ap (status_by F now h.id (Some x.0) (Some m))
          (root-complete F h.id.dot o.code o.issued under issues),
      refl,
    )

-- ---- a status describes its handle

-- if no fact is at the dot, no token is minted there
unseen_unminted : (body_at : Bodies) (h : Handle) → body_at h.id.dot ≡ None
    → ¬ IsMintedToken body_at h
unseen_unminted body_at h none t = none_is_not_some t.minted
    (sym (ap (option_and_then (λ b. minted_of b h.id.kind)) none) ∙ t.mints)

-- a token that is found minted is minted
abbrev minted_token : (F : FactSet) (h : Handle) (m : MintedFields)
    → minted_as (map.get F) h ≡ Some m → IsMintedToken (map.get F) h
minted_token F h m j =
    let d = with_digest-sound (digest_of h) (minted_in (map.get F) h.id) m j in
    record { minted = m; mints = d.0; digest = d.1 }

-- a handle for which no minted token is found has none
unminted : (F : FactSet) (h : Handle) → minted_as (map.get F) h ≡ None
    → ¬ IsMintedToken (map.get F) h
unminted F h j t = none_is_not_some t.minted
    (sym j ∙ with_digest-complete (digest_of h) (minted_in (map.get F) h.id) t.minted t.mints
    t.digest)

-- a body with the link of a code issues a code
code_issued : (b : Body) → link_of b ≡ Some Code
    → (code : issued.CodeIssued) × (issued_in b ≡ Some code)
code_issued (CodeIssued f) h = (f, refl)
code_issued (CodeRedeemed f) h = absurd (cc)
code_issued (RefreshRotated f) h = absurd (cc)
code_issued body h = absurd (none_is_not_some Code h)

-- the anchor of a dot that has a root is in a family
in_family : (F : FactSet) (d : Dot) (o : Root) → root_in (map.get F) d ≡ Some o
    → IsInFamily (links_in (map.get F)) (anchor_in (map.get F) d)
in_family F d o n = record { code = o.code; under = (root-sound F d o n).0 }

-- the anchor of a dot that has no root is in no family
no_family : (F : FactSet) (d : Dot) → root_in (map.get F) d ≡ None
    → ¬ IsInFamily (links_in (map.get F)) (anchor_in (map.get F) d)
no_family F d n f =
    let x : (b : Body) × (map.get F f.code ≡ Some b) × (link_of b ≡ Some Code) =
    from_some link_of (map.get F f.code) Code f.under.leads.1 in
    let i : (code : issued.CodeIssued) × (issued_in x.0 ≡ Some code) = code_issued x.0 x.2 in
    none_is_not_some (record { code = f.code; issued = i.0 })
    (sym n ∙ root-complete F d f.code i.0 f.under (ap (option_and_then issued_in) x.1 ∙ i.1))

-- for `says`: by the body at the dot, the minted token and the root
says_by : (F : FactSet) (now : ℕ) (h : Handle) (b : Option Body) (m : Option MintedFields)
    (o : Option Root)
    → map.get F h.id.dot ≡ b → minted_as (map.get F) h ≡ m → root_in (map.get F) h.id.dot ≡ o
    → Says (map.get F) h (status_by F now h.id b m o)
says_by F now h None m o i j n = i
says_by F now h (Some b) None o i j n = (λ none. none_is_not_some b (sym none ∙ i), unminted F h j)
says_by F now h (Some b) (Some m) None i j n =
    ((minted_token F h m j, refl), no_family F h.id.dot n)
says_by F now h (Some b) (Some m) (Some o) i j n = (minted_token F h m j, in_family F h.id.dot o n)

-- a status describes its handle
pub says : (F : FactSet) (now : ℕ) (h : Handle) → Says (map.get F) h (status_in F now h)
says F now h = says_by F now h (map.get F h.id.dot) (minted_as (map.get F) h)
    (root_in (map.get F) h.id.dot) refl refl refl

-- ---- a status is that of each handle that it describes

-- a status of a handle that Unseen describes is Unseen
unseen_from : (body_at : Bodies) (h : Handle) (x : Status) → Says body_at h x
    → Says body_at h Unseen → x ≡ Unseen
unseen_from body_at h Unseen x none = refl
unseen_from body_at h Wrong x none = absurd (x.0 none)
unseen_from body_at h (Broken t) x none = absurd (unseen_unminted body_at h none x.0.0)
unseen_from body_at h (Known s) x none = absurd (unseen_unminted body_at h none x.0)

-- the status of exactly the handles that Unseen describes
pub unseen_exactly : (F : FactSet) (now : ℕ) (h : Handle)
    → (status_in F now h ≡ Unseen → Says (map.get F) h Unseen)
    × (Says (map.get F) h Unseen → status_in F now h ≡ Unseen)
unseen_exactly F now h = (
  λ e. subst (Says (map.get F) h) e (says F now h),
  unseen_from (map.get F) h (status_in F now h) (says F now h),
)

-- a status of a handle that Wrong describes is Wrong
wrong_from : (body_at : Bodies) (h : Handle) (x : Status) → Says body_at h x → Says body_at h Wrong
    → x ≡ Wrong
wrong_from body_at h Unseen x w = absurd (w.0 x)
wrong_from body_at h Wrong x w = refl
wrong_from body_at h (Broken t) x w = absurd (w.1 x.0.0)
wrong_from body_at h (Known s) x w = absurd (w.1 x.0)

-- the status of exactly the handles that Wrong describes
pub wrong_exactly : (F : FactSet) (now : ℕ) (h : Handle)
    → (status_in F now h ≡ Wrong → Says (map.get F) h Wrong)
    × (Says (map.get F) h Wrong → status_in F now h ≡ Wrong)
wrong_exactly F now h = (
  λ e. subst (Says (map.get F) h) e (says F now h),
  wrong_from (map.get F) h (status_in F now h) (says F now h),
)

-- a handle has at most one minted token
one_minted : (body_at : Bodies) (h : Handle) (t u : IsMintedToken body_at h) → t.minted ≡ u.minted
one_minted body_at h t u = some_injective t.minted u.minted (sym t.mints ∙ u.mints)

-- a status of a handle that Broken describes is Broken, with the same expiry
broken_from : (body_at : Bodies) (h : Handle) (expiry : ℕ) (x : Status) → Says body_at h x
    → Says body_at h (Broken expiry) → x ≡ Broken expiry
broken_from body_at h expiry Unseen x b = absurd (unseen_unminted body_at h x b.0.0)
broken_from body_at h expiry Wrong x b = absurd (x.1 b.0.0)
broken_from body_at h expiry (Broken t) x b =
    ap Broken
    (x.0.1 ∙ ap (λ (m : MintedFields). m.expiry) (one_minted body_at h x.0.0 b.0.0) ∙ sym b.0.1)
broken_from body_at h expiry (Known s) x b = absurd (b.1 x.1)

-- the status of exactly the handles that Broken describes
pub broken_exactly : (F : FactSet) (now : ℕ) (h : Handle) (expiry : ℕ)
    → (status_in F now h ≡ Broken expiry → Says (map.get F) h (Broken expiry))
    × (Says (map.get F) h (Broken expiry) → status_in F now h ≡ Broken expiry)
broken_exactly F now h expiry = (
  λ e. subst (Says (map.get F) h) e (says F now h),
  broken_from (map.get F) h expiry (status_in F now h) (says F now h),
)

-- a handle that a known status describes has a known token
known_to : (body_at : Bodies) (h : Handle) (x : Status) → Says body_at h x → IsKnown x
    → IsKnownToken body_at h
known_to body_at h Unseen x k = absurd k
known_to body_at h Wrong x k = absurd k
known_to body_at h (Broken t) x k = absurd k
known_to body_at h (Known s) x k = x

-- a status of a handle that has a known token is known
known_from : (body_at : Bodies) (h : Handle) (x : Status) → Says body_at h x
    → IsKnownToken body_at h → IsKnown x
known_from body_at h Unseen x k = absurd (unseen_unminted body_at h x k.0)
known_from body_at h Wrong x k = absurd (x.1 k.0)
known_from body_at h (Broken t) x k = absurd (x.1 k.1)
known_from body_at h (Known s) x k = tt

-- the status of exactly the handles whose token is known
pub known_exactly : (F : FactSet) (now : ℕ) (h : Handle)
    → (IsKnown (status_in F now h) → IsKnownToken (map.get F) h)
    × (IsKnownToken (map.get F) h → IsKnown (status_in F now h))
known_exactly F now h = (
  known_to (map.get F) h (status_in F now h) (says F now h),
  known_from (map.get F) h (status_in F now h) (says F now h),
)
