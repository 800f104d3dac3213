-- Keys tie exactly if their parts are equal. Key results:
--   at_is_same                      dots, by their order and by their numbers
--   token_tied                      tokens
--   consent_tied                    the keys of consents
use Rattle.std.proofs.Common.{◌≡◌, ℕ, Bool, true, false, ◌&&◌, List, refl, sym, ap, ◌∙◌}
use Rattle.std.proofs.lemmas.Cmp.{tied_itself}
use Rattle.std.proofs.lemmas.Map.Lookups.{exact_bytes}
use Rattle.std.proofs.lemmas.Slice.Eq.{bytes_eq-Decides}
use Rattle.std.specs.Cmp.Lexicographic.{slice_cmp, nat_list_cmp_total}
use Rattle.std.specs.Ordering.{nat_cmp, eq_by_cmp, is_eq}
use Rattle.std.specs.Str.{bytes_eq}
use Rattle.tk_handle.specs.declared.dot.Dot.{Dot}
use Rattle.tk_handle.specs.declared.token_id.TokenId.{TokenId}
use Rattle.tk_handle.specs.Dot.{dot_cmp}
use Rattle.tk_handle.specs.Kind.{kind_number}
use Rattle.tk_handle.specs.TokenId.{token_cmp}
use Rattle.tk_handle.proofs.TestLaws.{tied}
use Rattle.tk_ledger.specs.Bodies.{is_same_dot, is_same_token}
use Rattle.tk_ledger.specs.Index.{consent_cmp, consent_key}
use Rattle.tk_ledger.proofs.SameLaws.{same_dot-true, same_dot-itself, same_token-true}
use Rattle.tk_ledger.proofs.SameLaws.{same_token-itself}
use Rattle.tk_family.proofs.ChildLaws.{both_tied}
use Rattle.tk_handle.proofs.TestLaws.{equal_of}
use Rattle.tk_store.proofs.OneMoreLaws.{at_itself}
use Rattle.tk_vector.proofs.VersionVectorLaws.{number_tied}

-- two tests that imply each other are equal
pub same_tests : (a b : Bool) → (a ≡ true → b ≡ true) → (b ≡ true → a ≡ true) → a ≡ b
same_tests true b h i = sym (h refl)
same_tests false true h i = i refl
same_tests false false h i = refl

-- equality of dots by their order is equality by their numbers
pub at_is_same : (a b : Dot) → eq_by_cmp dot_cmp a b ≡ is_same_dot a b
at_is_same a b = same_tests (eq_by_cmp dot_cmp a b) (is_same_dot a b)
    (λ h. ap (is_same_dot a) (sym (tied a b h)) ∙ same_dot-itself a)
    (λ h. ap (eq_by_cmp dot_cmp a) (sym (same_dot-true a b h)) ∙ at_itself a)

-- bytes compare as equal exactly if they are equal
pub bytes_tied : (xs ys : List ℕ) → is_eq (slice_cmp nat_cmp xs ys) ≡ bytes_eq xs ys
bytes_tied xs ys = same_tests (is_eq (slice_cmp nat_cmp xs ys)) (bytes_eq xs ys)
    (λ h. (bytes_eq-Decides xs ys).1 (exact_bytes xs ys (equal_of (slice_cmp nat_cmp xs ys) h)))
    (λ h. ap is_eq
    (ap (slice_cmp nat_cmp xs) (sym ((bytes_eq-Decides xs ys).0 h))
    ∙ tied_itself nat_list_cmp_total xs))

-- tokens tie exactly if they are equal, either way round
pub token_tied : (j k : TokenId) → eq_by_cmp token_cmp k j ≡ is_same_token j k
token_tied j k =
    both_tied (dot_cmp k.dot j.dot) _
    ∙ ap (λ x. x && is_eq (nat_cmp (kind_number k.kind) (kind_number j.kind)))
    (at_is_same k.dot j.dot)
    ∙ ap (λ x. is_same_dot k.dot j.dot && x) (number_tied (kind_number k.kind) (kind_number j.kind))
    ∙ same_tests (is_same_token k j) (is_same_token j k)
    (λ h. ap (is_same_token j) (same_token-true k j h) ∙ same_token-itself j)
    (λ h. ap (is_same_token k) (same_token-true j k h) ∙ same_token-itself k)

-- the keys of consents tie exactly if client, digest and dot are equal
pub consent_tied : (c e : Dot) (g h : List ℕ) (d q : Dot)
    → eq_by_cmp consent_cmp (consent_key c g d) (consent_key e h q)
    ≡ (is_same_dot c e && (bytes_eq g h && is_same_dot d q))
consent_tied c e g h d q =
    both_tied (slice_cmp nat_cmp g h) _
    ∙ ap (λ x. is_eq (slice_cmp nat_cmp g h) && x) (both_tied (dot_cmp d q) (dot_cmp c e))
    ∙ ap (λ x. x && (is_eq (dot_cmp d q) && is_eq (dot_cmp c e))) (bytes_tied g h)
    ∙ ap (λ x. bytes_eq g h && (x && is_eq (dot_cmp c e))) (at_is_same d q)
    ∙ ap (λ x. bytes_eq g h && (is_same_dot d q && x)) (at_is_same c e)
    ∙ last_first (bytes_eq g h) (is_same_dot d q) (is_same_dot c e)
  where
    last_first : (a b c : Bool) → (a && (b && c)) ≡ (c && (a && b))
    last_first true true true = refl
    last_first true true false = refl
    last_first true false true = refl
    last_first true false false = refl
    last_first false b true = refl
    last_first false b false = refl
