-- Families that are over, and what mints at a dot. Key results:
--   IsOver          the family of a code is over at a moment
--   linked_mints    what has a link mints
--   minting         what is under a code mints
--   kept_anchor     what mints is kept for a token at its anchor
--   over_from       a family that is over, by a token's dot
--   anchor_link     what mints has its anchor at a link, where all facts made are sound
--   over_here       what mints and may be skipped is of a family that is over
use Rattle.std.proofs.Common.{◌≡◌, ◌≢◌, ◌⊎◌, inl, inr, ℕ, ◌≤◌, true, false, Option, None, Some}
use Rattle.std.proofs.Common.{refl, sym, ap, subst, ◌∙◌}
use Rattle.std.proofs.lemmas.Bool.{true≢false, cases_Bool}
use Rattle.std.specs.Option.{option_and_then}
use Rattle.std.specs.FinMap as map
use Rattle.tk_handle.specs.declared.dot.Dot.{Dot}
use Rattle.tk_handle.specs.declared.token_id.TokenId.{TokenId}
use Rattle.tk_family.specs.declared.link.Link.{Link}
use Rattle.tk_family.specs.declared.link.Link.TheVariants.{Code, Redeems, Rotates}
use Rattle.tk_family.specs.Families.{Links, used_by, named_by, use_of, IsUnder}
use Rattle.tk_family.proofs.FamilyLaws.{IsUnder-one}
use Rattle.tk_fact.specs.Keeping.{kept_for}
use Rattle.tk_fact.specs.Tokens.{anchor_of}
use Rattle.tk_fact.specs.declared.body.Body.{Body}
use Rattle.tk_fact.specs.declared.body.Body.TheVariants as body
use Rattle.tk_fact.specs.declared.code_issued.CodeIssued as issued
use Rattle.tk_store.specs.FactSet.{FactSet}
use Rattle.tk_store.proofs.PutLaws.{none_is_not_some, some_injective}
use Rattle.tk_ledger.specs.Bodies.{Bodies}
use Rattle.tk_ledger.specs.Retention.{IsOverAt, MintsNothing, MaySkip, mints}
use Rattle.tk_ledger.specs.Tokens.{anchor_by, anchor_in, IsMintedUnder, link_of, links_in}
use Rattle.tk_ledger.specs.Tokens.{issued_at}
use Rattle.tk_ledger.proofs.RootLaws.{link_under}
use Rattle.tk_retention.specs.StandsFor.{AreSound}
use Rattle.tk_ledger.proofs.RootLaws.{minted-linked as minted_linked}

-- the family of the code at c is over at the moment
pub record IsOver (U : FactSet) (t : ℕ) (c : Dot) : Type 0 where
  pub code : issued.CodeIssued
  pub is : issued_at (map.get U) c ≡ Some code
  pub over : code.family_end ≤ t

-- ---- small facts

-- an option is not both absent and present
pub none_some : {A : Type 0} (o : Option A) (a : A) → o ≡ None → o ≡ Some a → ⊥
none_some o a n s = none_is_not_some a (sym n ∙ s)

-- what makes a link is kept for a token of its own
pub kept_linked : (d : Dot) (b : Body) (l : Link) (k : TokenId) → link_of b ≡ Some l
    → kept_for d b ≡ Some k → k.dot ≡ d
kept_linked d (body.CodeIssued c) l k h e = ap (λ (x : TokenId). x.dot) (sym (some_injective _ k e))
kept_linked d (body.CodeRedeemed r) l k h e =
    ap (λ (x : TokenId). x.dot) (sym (some_injective _ k e))
kept_linked d (body.RefreshRotated r) l k h e =
    ap (λ (x : TokenId). x.dot) (sym (some_injective _ k e))
kept_linked d b l k h e = absurd (none_is_not_some l h)

-- a link that uses a token names the token's dot
used_named : (l : Link) (k : TokenId) → used_by l ≡ Some k → named_by l ≡ Some k.dot
used_named Code k h = absurd (none_is_not_some k h)
used_named (Redeems c) k h = ap (λ (x : TokenId). Some x.dot) (some_injective _ k h)
used_named (Rotates p g) k h = ap (λ (x : TokenId). Some x.dot) (some_injective _ k h)

-- the token that a link uses is at the dot that the link names
pub use_named : (o : Option Link) (k : TokenId) (l : Link) (p : Dot) → use_of o ≡ Some k
    → o ≡ Some l → named_by l ≡ Some p → k.dot ≡ p
use_named None k l p u e n = absurd (none_is_not_some k u)
use_named (Some m) k l p u e n =
    some_injective k.dot p (sym (used_named m k u) ∙ ap named_by (some_injective m l e) ∙ n)

-- the link at a dot is the link of the body there
pub link_from : (o : Option Body) (b : Body) → o ≡ Some b → (l : Link)
    → option_and_then link_of o ≡ Some l → link_of b ≡ Some l
link_from o b h l e = sym (ap (option_and_then link_of) h) ∙ e

-- what uses a token is a link
pub used_link : (o : Option Link) (k : TokenId) → use_of o ≡ Some k → (l : Link) × (o ≡ Some l)
used_link None k h = absurd (none_is_not_some k h)
used_link (Some l) k h = (l, refl)

-- what is under a code at a dot is so at an equal dot
pub under_at : (f : Links) (d e c : Dot) → d ≡ e → IsUnder f d c → IsUnder f e c
under_at f d e c same u = subst (λ (q : Dot). IsUnder f q c) same u

-- a code whose family ended by the moment is over, also by an equal dot
pub over_at : (U : FactSet) (t : ℕ) (b c : Dot) (code : issued.CodeIssued) → b ≡ c
    → issued_at (map.get U) b ≡ Some code → code.family_end ≤ t → IsOver U t c
over_at U t b c code same is over =
    subst (λ (q : Dot). IsOver U t q) same (record { code = code; is = is; over = over })

-- what is minted under a code at a dot is so at an equal dot
pub minted_to : (body_at : Bodies) (d e c : Dot) → d ≡ e → IsMintedUnder body_at d c
    → IsMintedUnder body_at e c
minted_to body_at d e c same u = subst (λ (q : Dot). IsMintedUnder body_at q c) same u

-- what has a link mints a token
pub linked_mints : (b : Body) (l : Link) → link_of b ≡ Some l → mints b ≡ true
linked_mints (body.CodeIssued f) l h = refl
linked_mints (body.CodeRedeemed f) l h = refl
linked_mints (body.RefreshRotated f) l h = refl
linked_mints b l h = absurd (none_is_not_some l h)

-- what mints no token has no link
pub barren_unlinked : (body_at : Bodies) (d : Dot) (l : Link) → links_in body_at d ≡ Some l
    → MintsNothing body_at d → ⊥
barren_unlinked body_at d l at none =
    true≢false
    (sym (linked_mints none.fact l (link_from (body_at d) none.fact none.here l at)) ∙ none.barren)

-- what mints no token is its own anchor
barren_anchor : (d : Dot) (b : Body) → mints b ≡ false → anchor_of d b ≡ d
barren_anchor d (body.AccessRefreshed f) h = absurd (true≢false h)
barren_anchor d b h = refl

-- the anchor of a dot is that of the body there
pub anchor_here : (body_at : Bodies) (d : Dot) (b : Body) → body_at d ≡ Some b
    → anchor_in body_at d ≡ anchor_of d b
anchor_here body_at d b h = ap (anchor_by d) h

-- where what a dot mints is under a code, its fact mints a token
under_mints : (body_at : Bodies) (d c : Dot) → IsMintedUnder body_at d c → MintsNothing body_at d
    → ⊥
under_mints body_at d c under none =
    let own : anchor_in body_at d ≡ d =
    anchor_here body_at d none.fact none.here ∙ barren_anchor d none.fact none.barren in
    let here = under_at (links_in body_at) (anchor_in body_at d) d c own under in
    let link = link_under (links_in body_at) d c here in
    barren_unlinked body_at d link.0 link.1 none

-- a body at a dot that is minted under a code mints
pub minting : (body_at : Bodies) (d c : Dot) (b : Body) → body_at d ≡ Some b
    → IsMintedUnder body_at d c → mints b ≡ true
minting body_at d c b here under = elim (cases_Bool (mints b)) [
  | inl mint ↦ mint
  | inr barren ↦
      absurd (under_mints body_at d c under (record { fact = b; here = here; barren = barren }))
]

-- what mints is kept for a token at its anchor
pub kept_anchor : (d : Dot) (b : Body) (k : TokenId) → mints b ≡ true → kept_for d b ≡ Some k
    → k.dot ≡ anchor_of d b
kept_anchor d (body.CodeIssued f) k h e = ap (λ (x : TokenId). x.dot) (sym (some_injective _ k e))
kept_anchor d (body.CodeRedeemed f) k h e = ap (λ (x : TokenId). x.dot) (sym (some_injective _ k e))
kept_anchor d (body.RefreshRotated f) k h e =
    ap (λ (x : TokenId). x.dot) (sym (some_injective _ k e))
kept_anchor d (body.AccessRefreshed f) k h e =
    ap (λ (x : TokenId). x.dot) (sym (some_injective _ k e))
kept_anchor d b k h e = absurd (true≢false (sym h))

-- a family that is over, by a token's dot
pub over_from : (U : FactSet) (t : ℕ) (e d c : Dot)
    → IsOverAt (map.get U) t e ⊎ MintsNothing (map.get U) e → e ≡ d → IsMintedUnder (map.get U) d c
    → IsOver U t c
over_from U t e d c (inl o) same under =
    over_at U t o.root c o.code
    (IsUnder-one (links_in (map.get U)) (anchor_in (map.get U) d) o.root c
    (minted_to (map.get U) e d o.root same o.under) under) o.issues o.over
over_from U t e d c (inr none) same under =
    absurd (under_mints (map.get U) d c under
    (subst (λ (q : Dot). MintsNothing (map.get U) q) same none))

-- ---- anchors, where all facts made are sound

-- a link that isn't missing is there
some_link : (o : Option Link) → o ≢ None → (l : Link) × (o ≡ Some l)
some_link None some = absurd (some refl)
some_link (Some l) some = (l, refl)

-- what mints has its anchor at a link
pub anchor_link : (U : FactSet) → AreSound U → (d : Dot) (b : Body) → map.get U d ≡ Some b
    → mints b ≡ true → (l : Link) × (links_in (map.get U) (anchor_of d b) ≡ Some l)
anchor_link U sound d (body.CodeIssued f) here h = (Code, ap (option_and_then link_of) here)
anchor_link U sound d (body.CodeRedeemed f) here h =
    (Redeems f.code, ap (option_and_then link_of) here)
anchor_link U sound d (body.RefreshRotated f) here h =
    (Rotates f.parent f.generation, ap (option_and_then link_of) here)
anchor_link U sound d (body.AccessRefreshed f) here h =
    some_link (links_in (map.get U) f.parent) (sound.refreshed d f here)
anchor_link U sound d b here h = absurd (true≢false (sym h))

-- what mints, and may be skipped, is of a family that is over
pub over_here : (U : FactSet) (t : ℕ) → AreSound U → (d : Dot) (may : MaySkip (map.get U) t d)
    → mints may.fact ≡ true → IsOverAt (map.get U) t d
over_here U t sound d may h = by may.token.dot (kept_anchor d may.fact may.token h may.kept) may.why
  where
    link : (l : Link) × (links_in (map.get U) (anchor_of d may.fact) ≡ Some l)
    link = anchor_link U sound d may.fact may.here h

    by : (q : Dot) → q ≡ anchor_of d may.fact
        → IsOverAt (map.get U) t q ⊎ MintsNothing (map.get U) q → IsOverAt (map.get U) t d
    by q own (inl o) = record {
      root = o.root;
      under = (let there = minted_linked (map.get U) (anchor_of d may.fact) o.root link.0 link.1
          (minted_to (map.get U) q (anchor_of d may.fact) o.root own o.under) in
          under_at (links_in (map.get U)) (anchor_of d may.fact) (anchor_in (map.get U) d) o.root
          (sym (anchor_here (map.get U) d may.fact may.here)) there);
      code = o.code;
      issues = o.issues;
      over = o.over;
    }
    by q own (inr none) =
        absurd (barren_unlinked (map.get U) (anchor_of d may.fact) link.0 link.1
        (subst (λ (x : Dot). MintsNothing (map.get U) x) own none))
