-- A dot whose link uses a token, by the first child of the token's dot and the set of the others.
-- Key results:
--   unnamed_unused   no link uses a token of a dot that no link names
--   listed_uses      a child that is in the set under a token uses the token
--   unlisted_unused  no link uses a token that neither the first child nor one of the set uses
use Rattle.std.proofs.Common.{◌≡◌, Bool, true, false, ◌&&◌, not, Option, Some, None, refl, sym, ap}
use Rattle.std.proofs.Common.{◌∙◌}
use Rattle.std.proofs.lemmas.Bool.{true≢false, and_parts}
use Rattle.tk_handle.specs.declared.dot.Dot.{Dot}
use Rattle.tk_handle.specs.declared.token_id.TokenId.{TokenId}
use Rattle.tk_family.specs.Children.{Others}
use Rattle.tk_family.specs.Families.{Links, IsUsed, use_of}
use Rattle.tk_family.specs.Kept.{has_dot, Hangs}
use Rattle.tk_family.specs.Uses.{uses_by}
use Rattle.tk_family.proofs.DotLaws.{dot_eq-true}
use Rattle.tk_family.proofs.UseLaws.{uses_by-true, use_of-uses, uses_named}

-- a grant at a dot without a first child is used by none
pub unnamed_unused : (f : Links) (first : Dot → Option Dot) (E : Others) (k : TokenId)
    → Hangs f first E → first k.dot ≡ None → ¬ IsUsed f k
unnamed_unused f first E k h none u =
    h.none k.dot u.user none (uses_named (f u.user) k (use_of-uses (f u.user) k u.by))

-- a user that is listed uses its grant
pub listed_uses : (f : Links) (first : Dot → Option Dot) (E : Others) (k : TokenId) (e : Dot)
    → Hangs f first E → E k e ≡ true → use_of (f e) ≡ Some k
listed_uses f first E k e h at =
    uses_by-true (f e) k (and_parts (uses_by (f e) k) _ (sym (h.rest k e) ∙ at)).0

-- a grant whose first child doesn't use it, and which has no other user, is not used
pub unlisted_unused : (f : Links) (first : Dot → Option Dot) (E : Others) (k : TokenId) (d : Dot)
    → Hangs f first E → first k.dot ≡ Some d → uses_by (f d) k ≡ false
    → ((e : Dot) → E k e ≡ false) → ¬ IsUsed f k
unlisted_unused f first E k d h is apart none u =
    let by : uses_by (f u.user) k ≡ true = use_of-uses (f u.user) k u.by in
    let here : has_dot (first k.dot) u.user ≡ true =
    kept (uses_by (f u.user) k) (has_dot (first k.dot) u.user) by
    (sym (h.rest k u.user) ∙ none u.user) in
    let same : d ≡ u.user = dot_eq-true d u.user (sym (ap (λ o. has_dot o u.user) is) ∙ here) in
    true≢false (sym by ∙ ap (λ (q : Dot). uses_by (f q) k) (sym same) ∙ apart)
  where
    kept : (a b : Bool) → a ≡ true → (a && not b) ≡ false → b ≡ true
    kept true true a h = refl
    kept true false a h = absurd (true≢false h)
    kept false b a h = absurd (true≢false (sym a))
