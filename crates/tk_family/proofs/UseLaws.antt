-- The tokens that links use.
use Rattle.std.proofs.Common.{◌≡◌, ◌≢◌, true, false, Option, None, Some, ap, sym, ◌∙◌, refl}
use Rattle.std.proofs.lemmas.Bool.{true≢false, and_parts, false_from_ne_true}
use Rattle.tk_handle.specs.declared.dot.Dot.{Dot}
use Rattle.tk_handle.specs.declared.token_id.TokenId.{TokenId}
use Rattle.tk_family.specs.declared.link.Link.{Link}
use Rattle.tk_family.specs.declared.link.Link.TheVariants.{Code, Redeems, Rotates}
use Rattle.tk_family.specs.Families.{named_by, use_of}
use Rattle.tk_family.specs.Rows.{named_of}
use Rattle.tk_family.specs.Uses.{uses_it, uses_by}
use Rattle.tk_family.proofs.DotLaws.{dot_eq-true}
use Rattle.tk_family.proofs.Growth.{uses_it-true, used_by-uses}

-- a link uses the grant that the test finds
pub uses_by-true : (o : Option Link) (k : TokenId) → uses_by o k ≡ true → use_of o ≡ Some k
uses_by-true None k h = absurd (true≢false (sym h))
uses_by-true (Some l) k h = uses_it-true l k h

-- the test finds the grant that a link uses
pub use_of-uses : (o : Option Link) (k : TokenId) → use_of o ≡ Some k → uses_by o k ≡ true
use_of-uses None k h = absurd (cc)
use_of-uses (Some l) k h = used_by-uses l k h

-- a link uses only tokens of the dot that it names
pub uses_it-apart : (l : Link) (p : Dot) (k : TokenId) → named_by l ≡ Some p → k.dot ≢ p
    → uses_it l k ≡ false
uses_it-apart Code p k names ne = refl
uses_it-apart (Redeems c) p k names ne =
    let both : Some c ≡ Some p = names in
    let same : c ≡ p = cc in
    false_from_ne_true (uses_it (Redeems c) k)
    (λ h. let parts = and_parts _ _ h in ne (sym (dot_eq-true c k.dot parts.0) ∙ same))
uses_it-apart (Rotates c g) p k names ne =
    let both : Some c ≡ Some p = names in
    let same : c ≡ p = cc in
    false_from_ne_true (uses_it (Rotates c g) k)
    (λ h. let parts = and_parts _ _ h in ne (sym (dot_eq-true c k.dot parts.0) ∙ same))

-- a link that uses a token names the token's dot
pub uses_named : (o : Option Link) (k : TokenId) → uses_by o k ≡ true → named_of o ≡ Some k.dot
uses_named None k h = absurd (true≢false (sym h))
uses_named (Some Code) k h = absurd (true≢false (sym h))
uses_named (Some (Redeems c)) k h = let parts = and_parts _ _ h in
    ap (λ (y : Dot). Some y) (dot_eq-true c k.dot parts.0)
uses_named (Some (Rotates c g)) k h = let parts = and_parts _ _ h in
    ap (λ (y : Dot). Some y) (dot_eq-true c k.dot parts.0)
