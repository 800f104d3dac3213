-- Revoked tokens and tokens of families with a bad grant are not active, at any moment, once those
-- facts are held. Key results:
--   bad_grants                  a minted grant is bad exactly if it is marked or used twice
--   family_ends, revoked_ends   not active in the set itself
--   family_inactive, revoked_inactive, signed_out_inactive
--                               not active in every greater set
use Rattle.std.proofs.Common.{◌≡◌, ◌≢◌, ◌⊎◌, inl, inr, ℕ, Some, refl, sym, ap, subst, ◌∙◌}
use Rattle.std.proofs.Common.{option_and_then}
use Rattle.std.specs.FinMap as map
use Rattle.tk_handle.specs.declared.dot.Dot.{Dot}
use Rattle.tk_handle.specs.declared.kind.Kind.{Kind}
use Rattle.tk_handle.specs.declared.kind.Kind.TheVariants as kind
use Rattle.tk_handle.specs.declared.token_id.TokenId.{TokenId}
use Rattle.tk_handle.specs.declared.handle.Handle.{Handle}
use Rattle.tk_family.specs.declared.link.Link.{Link}
use Rattle.tk_family.specs.declared.link.Link.TheVariants.{Code, Redeems, Rotates}
use Rattle.tk_family.specs.Families.{IsUnder, IsDead, IsBad, IsTwice, grant_at}
use Rattle.tk_family.proofs.FamilyLaws.{IsUnder-one}
use Rattle.tk_fact.specs.declared.body.Body.{Body}
use Rattle.tk_fact.specs.declared.body.Body.TheVariants.{ClientAdded, ClientRetired, ConsentGiven}
use Rattle.tk_fact.specs.declared.body.Body.TheVariants.{ConsentWithdrawn, CodeIssued, CodeRedeemed}
use Rattle.tk_fact.specs.declared.body.Body.TheVariants.{RefreshRotated, TokenRevoked, ReuseSeen}
use Rattle.tk_fact.specs.declared.body.Body.TheVariants.{SubjectOut, AccessRefreshed, SecretSet}
use Rattle.tk_fact.specs.Tokens.{MintedFields, minted_of}
use Rattle.tk_store.specs.FactSet.{FactSet, IsSubset}
use Rattle.tk_ledger.specs.Bodies.{Bodies}
use Rattle.tk_ledger.specs.Tokens.{link_of, links_in, anchor_in, IsMintedUnder, minted_in, IsEnded}
use Rattle.tk_ledger.specs.Tokens.{IsOut, IsMarked}
use Rattle.tk_ledger.specs.Status.{IsActive}
use Rattle.tk_ledger.specs.Ends.{FamilyEnds}
use Rattle.tk_ledger.proofs.EndingLaws.{under_itself}
use Rattle.tk_ledger.proofs.RootLaws.{from_some, ended-under}
use Rattle.tk_ledger.proofs.TokenGrowthLaws.{IsBad-below, IsEnded-below, IsOut-below}
use Rattle.tk_ledger.proofs.StatusLaws.{no_code_is}

-- ---- bad grants

-- a token that a body mints, and that is no access token, is the grant of the body's link
grant_of : (k : Kind) (d : Dot) (b : Body) (m : MintedFields) → k ≢ kind.Access
    → minted_of b k ≡ Some m
    → (l : Link) × (link_of b ≡ Some l) × (grant_at d l ≡ record { dot = d; kind = k })
grant_of kind.Code d (CodeIssued b) m na h = (Code, refl, refl)
grant_of kind.Refresh d (CodeRedeemed b) m na h = (Redeems b.code, refl, refl)
grant_of kind.Refresh d (RefreshRotated b) m na h = (Rotates b.parent b.generation, refl, refl)
grant_of kind.Access d b m na h = absurd (na refl)
grant_of kind.Code d (ClientAdded b) m na h = absurd (cc)
grant_of kind.Code d (ClientRetired b) m na h = absurd (cc)
grant_of kind.Code d (ConsentGiven b) m na h = absurd (cc)
grant_of kind.Code d (ConsentWithdrawn b) m na h = absurd (cc)
grant_of kind.Code d (CodeRedeemed b) m na h = absurd (cc)
grant_of kind.Code d (RefreshRotated b) m na h = absurd (cc)
grant_of kind.Code d (TokenRevoked b) m na h = absurd (cc)
grant_of kind.Code d (ReuseSeen b) m na h = absurd (cc)
grant_of kind.Code d (SubjectOut b) m na h = absurd (cc)
grant_of kind.Code d (AccessRefreshed b) m na h = absurd (cc)
grant_of kind.Code d (SecretSet b) m na h = absurd (cc)
grant_of kind.Refresh d (ClientAdded b) m na h = absurd (cc)
grant_of kind.Refresh d (ClientRetired b) m na h = absurd (cc)
grant_of kind.Refresh d (ConsentGiven b) m na h = absurd (cc)
grant_of kind.Refresh d (ConsentWithdrawn b) m na h = absurd (cc)
grant_of kind.Refresh d (CodeIssued b) m na h = absurd (cc)
grant_of kind.Refresh d (TokenRevoked b) m na h = absurd (cc)
grant_of kind.Refresh d (ReuseSeen b) m na h = absurd (cc)
grant_of kind.Refresh d (SubjectOut b) m na h = absurd (cc)
grant_of kind.Refresh d (AccessRefreshed b) m na h = absurd (cc)
grant_of kind.Refresh d (SecretSet b) m na h = absurd (cc)

-- a minted token that is no access token is the grant of the link at its dot
grant_there : (body_at : Bodies) (k : TokenId) (m : MintedFields) → k.kind ≢ kind.Access
    → minted_in body_at k ≡ Some m
    → (l : Link) × (links_in body_at k.dot ≡ Some l) × (grant_at k.dot l ≡ k)
grant_there body_at k m na mints =
    let x : (b : Body) × (body_at k.dot ≡ Some b) × (minted_of b k.kind ≡ Some m) =
    from_some (λ b. minted_of b k.kind) (body_at k.dot) m mints in
    let l : (l : Link) × (link_of x.0 ≡ Some l) × (grant_at k.dot l ≡ k) =
    grant_of k.kind k.dot x.0 m na x.2 in
    (l.0, ap (option_and_then link_of) x.1 ∙ l.1, l.2)

-- links that are equal as options are equal
same_link : (l j : Link) → Some l ≡ Some j → l ≡ j
same_link l j h = cc

-- a minted grant is bad exactly if it is marked or used twice
pub bad_grants : (body_at : Bodies) (k : TokenId) (m : MintedFields) → k.kind ≢ kind.Access
    → minted_in body_at k ≡ Some m
    → (IsBad (links_in body_at) (IsMarked body_at) k.dot
    → IsMarked body_at k ⊎ IsTwice (links_in body_at) k)
    × (IsMarked body_at k ⊎ IsTwice (links_in body_at) k
    → IsBad (links_in body_at) (IsMarked body_at) k.dot)
bad_grants body_at k m na mints =
    let l : (l : Link) × (links_in body_at k.dot ≡ Some l) × (grant_at k.dot l ≡ k) =
    grant_there body_at k m na mints in (
      λ bad. subst (λ (t : TokenId). IsMarked body_at t ⊎ IsTwice (links_in body_at) t)
          (ap (grant_at k.dot) (same_link bad.link l.0 (sym bad.here ∙ l.1)) ∙ l.2) bad.why,
      λ why. record {
        link = l.0;
        here = l.1;
        why = subst (λ (t : TokenId). IsMarked body_at t ⊎ IsTwice (links_in body_at) t)
            (sym l.2) why;
      },
    )

-- ---- in the set itself

-- no token of a family with a bad grant is active
pub family_ends : (body_at : Bodies) (now : ℕ) (h : Handle) → FamilyEnds body_at now h
family_ends body_at now h d c bad under member a =
    let one : c ≡ a.code =
    IsUnder-one (links_in body_at) (anchor_in body_at h.id.dot) c a.code member a.under in
    a.alive (subst (λ (x : Dot). IsDead (links_in body_at) (IsMarked body_at) x) one
    (record { member = d; under = under; bad = bad }))

-- no token that its client revoked is active
pub revoked_ends : (body_at : Bodies) (now : ℕ) (h : Handle) → IsEnded body_at h.id
    → ¬ IsActive body_at now h
revoked_ends body_at now h e a = elim (no_code_is h.id.kind a.no_code) [
  | inl access ↦ a.access access e
  | inr refresh ↦
      let bad = (bad_grants body_at h.id e.minted (λ same. clash (sym refresh ∙ same)) e.mints).1
      (inl (inr (inl (refresh, e)))) in
      family_ends body_at now h h.id.dot e.code bad
      (ended-under body_at h.id (λ same. clash (sym refresh ∙ same)) e) e.under a
]
  where
    clash : ¬ (kind.Refresh ≡ kind.Access)
    clash h = cc

-- ---- in every greater set

-- a token under the code of a grant that is bad by some facts is active at no moment by more facts
pub family_inactive : (F G : FactSet) → IsSubset F G → (now : ℕ) (h : Handle) (d c : Dot)
    → IsBad (links_in (map.get F)) (IsMarked (map.get F)) d → IsUnder (links_in (map.get G)) d c
    → IsMintedUnder (map.get G) h.id.dot c → ¬ IsActive (map.get G) now h
family_inactive F G w now h d c bad under member =
    family_ends (map.get G) now h d c (IsBad-below F G w d bad) under member

-- a token that the client of its code revoked, by some facts, is active at no moment by more facts
pub revoked_inactive : (F G : FactSet) → IsSubset F G → (now : ℕ) (h : Handle)
    → IsEnded (map.get F) h.id → ¬ IsActive (map.get G) now h
revoked_inactive F G w now h e = revoked_ends (map.get G) now h (IsEnded-below F G w h.id e)

-- a code whose subject signed out is a bad grant, under itself
pub signed_out_inactive : (F G : FactSet) → IsSubset F G → (now : ℕ) (h : Handle) (c : Dot)
    → IsOut (map.get F) c → IsMintedUnder (map.get G) h.id.dot c → ¬ IsActive (map.get G) now h
signed_out_inactive F G w now h c gone member =
    let before = under_itself F c gone.issued gone.issues in
    let after = IsOut-below F G w c gone in
    family_inactive F G w now h c c
    (record { link = Code; here = before.leads.1; why = inl (inr (inr (refl, gone))) })
    (under_itself G c after.issued after.issues) member
