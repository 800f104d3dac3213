-- One more link, and the dots that it brings under a code. Key results:
--   Within-adds         links are within those with one more link
--   IsPath-adds         a dot that comes under a code was under that code before, or is brought
--   alone, below_under  the new link is under itself; what hangs below it is under its code
use Rattle.std.proofs.Common.{◌≡◌, ◌≢◌, ◌⊎◌, inl, inr, Bool, true, None, Some, List, [], ◌∷◌, ap}
use Rattle.std.proofs.Common.{sym, ◌∙◌}
use Rattle.tk_family.proofs.DotLaws.{cases_dots}
use Rattle.tk_handle.specs.declared.dot.Dot.{Dot}
use Rattle.tk_family.specs.declared.link.Link.{Link}
use Rattle.tk_family.specs.declared.link.Link.TheVariants.{Code}
use Rattle.tk_family.specs.Families.{Links, IsParent, IsPath, IsUnder, LinksWithin}
pub use Rattle.tk_family.specs.Puts.{Adds}

-- links are within those with one more link
pub Within-adds : (f g : Links) (d : Dot) (l : Link) → Adds f g d l → LinksWithin f g
Within-adds f g d l a q k h = elim (cases_dots q d) [
  | inl same ↦ absurd
      (let free : f q ≡ None = ap f same ∙ a.free in let clash : Some k ≡ None = sym h ∙ free in cc)
  | inr ne ↦ a.others q ne ∙ h
]

-- a path begins at a dot with a link
pub IsPath-here : (f : Links) (d : Dot) (ps : List Dot) (c : Dot) → IsPath f d ps c → f d ≡ None → ⊥
IsPath-here f d [] c m none = let clash : Some Code ≡ None = sym m.1 ∙ (ap f (sym m.0) ∙ none) in cc
IsPath-here f d (p ∷ ps) c m none = let clash : Some m.0.0.link ≡ None = sym m.0.0.here ∙ none in cc

-- a code other than the new link was under itself before
pub alone : (f g : Links) (d : Dot) (l : Link) → Adds f g d l → (q c : Dot) → q ≢ d
    → IsPath g q [] c → IsUnder f q c
alone f g d l a q c ne m =
    record { path = []; leads = (m.0, ap f (sym m.0) ∙ (sym (a.others q ne) ∙ (ap g m.0 ∙ m.1))) }

-- a parent whose two dots are not the new link's was a parent before
pub IsParent-before : (f g : Links) (d : Dot) (l : Link) → Adds f g d l → (q p : Dot) → q ≢ d
    → p ≢ d → IsParent g q p → IsParent f q p
IsParent-before f g d l a q p ne nep m = record {
  link = m.link;
  above = m.above;
  here = sym (a.others q ne) ∙ m.here;
  names = m.names;
  there = sym (a.others p nep) ∙ m.there;
  fitting = m.fitting;
}

-- a dot whose parent was under a code was under that code itself
pub below_under : (f g : Links) (d : Dot) (l : Link) → Adds f g d l → (q p c : Dot) → q ≢ d
    → IsParent g q p → IsUnder f p c → IsUnder f q c
below_under f g d l a q p c ne m under =
    let nep : p ≢ d = λ same. IsPath-here f p under.path c under.leads (ap f same ∙ a.free) in
    record {
      path = p ∷ under.path;
      leads = ((IsParent-before f g d l a q p ne nep m, under.leads.0), under.leads.1);
    }

-- a dot that is under a code with one more link was under that code before, or is in the set `In`;
-- the set has the new dot and all children of its dots
pub IsPath-adds : (f g : Links) (d : Dot) (l : Link) (In : Dot → Bool) → Adds f g d l → In d ≡ true
    → ((x e : Dot) → In x ≡ true → IsParent g e x → In e ≡ true)
    → (q : Dot) (ps : List Dot) (c : Dot) → IsPath g q ps c → (In q ≡ true) ⊎ IsUnder f q c
IsPath-adds f g d l In a root closed q [] c m = elim (cases_dots q d) [
  | inl same ↦ inl (ap In same ∙ root)
  | inr ne ↦ inr (alone f g d l a q c ne m)
]
IsPath-adds f g d l In a root closed q (p ∷ ps) c m =
    elim (IsPath-adds f g d l In a root closed p ps c (m.0.1, m.1)) [
      | inl above ↦ inl (closed p q above m.0.0)
      | inr under ↦ elim (cases_dots q d) [
        | inl same ↦ inl (ap In same ∙ root)
        | inr ne ↦ inr (below_under f g d l a q p c ne m.0.0 under)
      ]
    ]
