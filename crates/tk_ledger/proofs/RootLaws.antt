-- The place of a token in a family: its anchor and its root. Key results:
--   links-below, minted-below     links and what is minted stay in a greater set
--   anchor-linked                 the anchor of a link is its own dot
--   grant-linked                  a code or refresh token is minted by a fact with a link
--   ended-under                   a grant that its client revoked is under its code by its link
--   under-minted, minted-linked   what is minted at a link is under the link's code
--   minted-under-below            a token stays under its code in a greater set
--   root-sound, root-complete     the root of a family
use Rattle.std.proofs.Common.{◌≡◌, ◌≢◌, List, [], ◌∷◌, Option, Some, None, refl, sym, ap, subst}
use Rattle.std.proofs.Common.{◌∙◌}
use Rattle.std.specs.Option.{option_and_then, option_map}
use Rattle.std.specs.FinMap as map
use Rattle.tk_handle.specs.declared.dot.Dot.{Dot}
use Rattle.tk_handle.specs.declared.kind.Kind.{Kind}
use Rattle.tk_handle.specs.declared.kind.Kind.TheVariants as kind
use Rattle.tk_handle.specs.declared.token_id.TokenId.{TokenId}
use Rattle.tk_family.specs.declared.link.Link.{Link}
use Rattle.tk_family.specs.declared.link.Link.TheVariants.{Code, Redeems, Rotates}
use Rattle.tk_family.specs.Families.{Links, IsPath, IsUnder, LinksWithin}
use Rattle.tk_family.proofs.FamilyLaws.{IsUnder-within}
use Rattle.tk_family.proofs.WalkLaws.{code_of-sound, code_of-complete}
use Rattle.tk_fact.specs.declared.body.Body.{Body}
use Rattle.tk_fact.specs.declared.body.Body.TheVariants as bodies
use Rattle.tk_fact.specs.declared.code_issued.CodeIssued as issued
use Rattle.tk_fact.specs.Tokens.{MintedFields, anchor_of, minted_of}
use Rattle.tk_store.specs.FactSet.{FactSet, IsSubset}
use Rattle.tk_ledger.specs.Bodies.{Bodies}
use Rattle.tk_ledger.specs.Tokens.{link_of, links_in, code_in, anchor_by, anchor_in, IsMintedUnder}
use Rattle.tk_ledger.specs.Tokens.{issued_at, Root, root_of, root_in, minted_in, IsEnded}

-- a value of a function on an option is that of a value in the option
pub from_some : {A B : Type 0} (f : A → Option B) (o : Option A) (y : B)
    → option_and_then f o ≡ Some y → (x : A) × (o ≡ Some x) × (f x ≡ Some y)
from_some f None y h = absurd (nothing h)
  where
    nothing : ¬ (None ≡ Some y)
    nothing h = cc
from_some f (Some x) y h = (x, refl, h)

-- ---- more facts

-- what the body at a dot gives, it gives in a greater set
pub below-and_then : {B : Type 0} (f : Body → Option B) (F G : FactSet) → IsSubset F G
    → (d : Dot) (y : B) → option_and_then f (map.get F d) ≡ Some y
    → option_and_then f (map.get G d) ≡ Some y
below-and_then f F G w d y h =
    let x : (b : Body) × (map.get F d ≡ Some b) × (f b ≡ Some y) = from_some f (map.get F d) y h in
    ap (option_and_then f) (w d x.0 x.1) ∙ x.2

-- the links of a set are links of a greater set
pub links-below : (F G : FactSet) → IsSubset F G
    → LinksWithin (links_in (map.get F)) (links_in (map.get G))
links-below F G w d l h = below-and_then link_of F G w d l h

-- a token is minted the same in a greater set
pub minted-below : (F G : FactSet) → IsSubset F G → (k : TokenId) (m : MintedFields)
    → minted_in (map.get F) k ≡ Some m → minted_in (map.get G) k ≡ Some m
minted-below F G w k m h = below-and_then (λ b. minted_of b k.kind) F G w k.dot m h

-- ---- anchors

-- a fact with a link is its own anchor
own_anchor : (d : Dot) (b : Body) (l : Link) → link_of b ≡ Some l → anchor_of d b ≡ d
own_anchor d (bodies.AccessRefreshed f) l h = absurd (nothing h)
  where
    nothing : ¬ (None ≡ Some l)
    nothing h = cc
own_anchor d (bodies.ClientAdded f) l h = refl
own_anchor d (bodies.ClientRetired f) l h = refl
own_anchor d (bodies.ConsentGiven f) l h = refl
own_anchor d (bodies.ConsentWithdrawn f) l h = refl
own_anchor d (bodies.CodeIssued f) l h = refl
own_anchor d (bodies.CodeRedeemed f) l h = refl
own_anchor d (bodies.RefreshRotated f) l h = refl
own_anchor d (bodies.TokenRevoked f) l h = refl
own_anchor d (bodies.ReuseSeen f) l h = refl
own_anchor d (bodies.SubjectOut f) l h = refl
own_anchor d (bodies.SecretSet f) l h = refl

-- the anchor of a dot with a link is the dot
pub anchor-linked : (body_at : Bodies) (d : Dot) (l : Link) → links_in body_at d ≡ Some l
    → anchor_in body_at d ≡ d
anchor-linked body_at d l h =
    let x = from_some link_of (body_at d) l h in
    ap (anchor_by d) x.1 ∙ own_anchor d x.0 l x.2

-- a dot that is under a code has a link
pub link_under : (f : Links) (d c : Dot) → IsUnder f d c → (l : Link) × (f d ≡ Some l)
link_under f d c under = by under.path under.leads
  where
    by : (ps : List Dot) → IsPath f d ps c → (l : Link) × (f d ≡ Some l)
    by [] leads = (Code, ap f leads.0 ∙ leads.1)
    by (p ∷ ps) leads = (leads.0.0.link, leads.0.0.here)

-- what is minted at a dot under a code is under that code
pub under-minted : (body_at : Bodies) (d c : Dot) → IsUnder (links_in body_at) d c
    → IsMintedUnder body_at d c
under-minted body_at d c under =
    let x = link_under (links_in body_at) d c under in
    subst (λ (q : Dot). IsUnder (links_in body_at) q c) (sym (anchor-linked body_at d x.0 x.1))
    under

-- what is minted at a link is under a code only if the link is
pub minted-linked : (body_at : Bodies) (d c : Dot) (l : Link) → links_in body_at d ≡ Some l
    → IsMintedUnder body_at d c → IsUnder (links_in body_at) d c
minted-linked body_at d c l at under =
    subst (λ (q : Dot). IsUnder (links_in body_at) q c) (anchor-linked body_at d l at) under

-- a body that mints a code or a refresh token has a link
grant_link : (b : Body) (k : Kind) (m : MintedFields) → k ≢ kind.Access → minted_of b k ≡ Some m
    → (l : Link) × (link_of b ≡ Some l)
grant_link (bodies.CodeIssued f) k m other h = (Code, refl)
grant_link (bodies.CodeRedeemed f) k m other h = (Redeems f.code, refl)
grant_link (bodies.RefreshRotated f) k m other h = (Rotates f.parent f.generation, refl)
grant_link (bodies.AccessRefreshed f) kind.Access m other h = absurd (other refl)
grant_link b k m other h = absurd (nothing h)
  where
    nothing : ¬ (None ≡ Some m)
    nothing h = cc

-- a code or refresh token is minted by a fact with a link
pub grant-linked : (body_at : Bodies) (k : TokenId) (m : MintedFields) → k.kind ≢ kind.Access
    → minted_in body_at k ≡ Some m → (l : Link) × (links_in body_at k.dot ≡ Some l)
grant-linked body_at k m other h =
    let x = from_some (λ (b : Body). minted_of b k.kind) (body_at k.dot) m h in
    let l = grant_link x.0 k.kind m other x.2 in
    (l.0, ap (option_and_then link_of) x.1 ∙ l.1)

-- a code or refresh token that its client revoked is under its code by its own link
pub ended-under : (body_at : Bodies) (k : TokenId) → k.kind ≢ kind.Access
    → (e : IsEnded body_at k) → IsUnder (links_in body_at) k.dot e.code
ended-under body_at k other e =
    let l = grant-linked body_at k e.minted other e.mints in
    minted-linked body_at k.dot e.code l.0 l.1 e.under

-- an anchor under a code is that of a fact, and stays so in a greater set
anchor-below : (F G : FactSet) → IsSubset F G → (d c : Dot) (o : Option Body) → map.get F d ≡ o
    → IsMintedUnder (map.get F) d c → anchor_in (map.get G) d ≡ anchor_in (map.get F) d
anchor-below F G w d c (Some b) at under = ap (anchor_by d) (w d b at) ∙ sym (ap (anchor_by d) at)
anchor-below F G w d c None at under =
    let here : IsUnder (links_in (map.get F)) d c =
    subst (λ (q : Dot). IsUnder (links_in (map.get F)) q c) (ap (anchor_by d) at) under in
    let x = link_under (links_in (map.get F)) d c here in
    absurd (nothing x.0 (sym (ap (option_and_then link_of) at) ∙ x.1))
  where
    nothing : (l : Link) → ¬ (None ≡ Some l)
    nothing l h = cc

-- what is minted under a code stays under it in a greater set
pub minted-under-below : (F G : FactSet) → IsSubset F G → (d c : Dot)
    → IsMintedUnder (map.get F) d c → IsMintedUnder (map.get G) d c
minted-under-below F G w d c under =
    subst (λ (q : Dot). IsUnder (links_in (map.get G)) q c)
    (sym (anchor-below F G w d c (map.get F d) refl under))
    (IsUnder-within (links_in (map.get F)) (links_in (map.get G)) (links-below F G w)
    (anchor_in (map.get F) d) c under)

-- ---- roots

-- the root of a code is the code itself, with the fact that issued it
pub root_at : (F : FactSet) (c : Dot) (o : Root) → root_of (map.get F) c ≡ Some o
    → (c ≡ o.code) × (issued_at (map.get F) o.code ≡ Some o.issued)
root_at F c o h = parts (issued_at (map.get F) c) refl h
  where
    parts : (i : Option issued.CodeIssued) → issued_at (map.get F) c ≡ i
        → option_map (λ f. record { code = c; issued = f }) i ≡ Some o
        → (c ≡ o.code) × (issued_at (map.get F) o.code ≡ Some o.issued)
    parts None at h = absurd (nothing h)
      where
        nothing : ¬ (None ≡ Some o)
        nothing h = cc
    parts (Some f) at h = subst (λ (x : Root).
        (c ≡ x.code) × (issued_at (map.get F) x.code ≡ Some x.issued)) (same h) (refl, at)
      where
        same : Some (record { code = c; issued = f }) ≡ Some o → record { code = c; issued = f } ≡ o
        same h = cc

-- the root that is found has the code that what is minted at the dot is under, and the fact that
-- issued that code
pub root-sound : (F : FactSet) (d : Dot) (o : Root) → root_in (map.get F) d ≡ Some o
    → IsMintedUnder (map.get F) d o.code × (issued_at (map.get F) o.code ≡ Some o.issued)
root-sound F d o h =
    let a : Dot = anchor_in (map.get F) d in
    let c : (c : Dot) × (code_in (map.get F) a ≡ Some c) × (root_of (map.get F) c ≡ Some o) =
    from_some (root_of (map.get F)) (code_in (map.get F) a) o h in
    let p = root_at F c.0 o c.2 in (
      subst (λ (x : Dot). IsMintedUnder (map.get F) d x) p.0
          (code_of-sound (links_in (map.get F)) a c.0 c.1),
      p.1,
    )

-- the root of a dot under a code that was issued is that code
pub root-complete : (F : FactSet) (d c : Dot) (code : issued.CodeIssued)
    → IsMintedUnder (map.get F) d c → issued_at (map.get F) c ≡ Some code
    → root_in (map.get F) d ≡ Some (record { code = c; issued = code })
root-complete F d c code under issues =
    ap (option_and_then (root_of (map.get F)))
    (code_of-complete (links_in (map.get F)) (anchor_in (map.get F) d) c under)
    ∙ ap (option_map (λ (f : issued.CodeIssued). record { code = c; issued = f })) issues
