-- Dots and tokens that are equal by their tests are equal. Key results:
--   same_dot-true, same_dot-itself       dots are the same by the test exactly if they are equal
--   same_token-true, same_token-itself   tokens are the same by the test exactly if they are equal
--   names_token-true, names_dot-true     an option that names a token or a dot, by the test, has it
use Rattle.std.proofs.Common.{◌≡◌, ◌≢◌, ◌==◌, true, false, Option, Some, None, refl, sym, ap, ◌∙◌}
use Rattle.std.proofs.Common.{arith}
use Rattle.std.proofs.lemmas.Bool.{true≢false, and_parts, and_from, false_from_ne_true}
use Rattle.std.proofs.lemmas.Bool.Decides.{nat_tests}
use Rattle.tk_handle.specs.declared.dot.Dot.{Dot}
use Rattle.tk_handle.specs.declared.kind.Kind.{Kind}
use Rattle.tk_handle.specs.declared.kind.Kind.TheVariants.{Code, Access, Refresh}
use Rattle.tk_handle.specs.declared.token_id.TokenId.{TokenId}
use Rattle.tk_handle.specs.Kind.{kind_number}
use Rattle.tk_ledger.specs.Bodies.{is_same_dot, is_same_token, names_token, names_dot}

-- dots that are the same by the test are equal
pub same_dot-true : (a b : Dot) → is_same_dot a b ≡ true → a ≡ b
same_dot-true a b h =
    let region : a.region ≡ b.region = region_of a b h in
    let serial : a.serial ≡ b.serial = serial_of a b h in
    ap (λ n. record { region = n; serial = a.serial }) region
    ∙ ap (λ n. record { region = b.region; serial = n }) serial
  where
    region_of : (a b : Dot) → is_same_dot a b ≡ true → a.region ≡ b.region
    region_of a b h = grind (arith, nat_tests)

    serial_of : (a b : Dot) → is_same_dot a b ≡ true → a.serial ≡ b.serial
    serial_of a b h = grind (arith, nat_tests)

-- a dot is the same as itself, by the test
pub same_dot-itself : (d : Dot) → is_same_dot d d ≡ true
same_dot-itself d = grind (arith, nat_tests)

-- dots that aren't the same by the test are not equal
pub same_dot-false : (a b : Dot) → is_same_dot a b ≡ false → a ≢ b
same_dot-false a b h same = true≢false (sym (same_dot-itself a) ∙ ap (is_same_dot a) same ∙ h)

-- dots that aren't equal aren't the same by the test
pub same_dot-apart : (a b : Dot) → a ≢ b → is_same_dot a b ≡ false
same_dot-apart a b ne = false_from_ne_true (is_same_dot a b) (λ same. ne (same_dot-true a b same))

-- kinds with equal numbers are equal
same_kind : (k j : Kind) → (kind_number k == kind_number j) ≡ true → k ≡ j
same_kind Code Code h = refl
same_kind Code Access h = absurd (true≢false (sym h))
same_kind Code Refresh h = absurd (true≢false (sym h))
same_kind Access Code h = absurd (true≢false (sym h))
same_kind Access Access h = refl
same_kind Access Refresh h = absurd (true≢false (sym h))
same_kind Refresh Code h = absurd (true≢false (sym h))
same_kind Refresh Access h = absurd (true≢false (sym h))
same_kind Refresh Refresh h = refl

-- the number of a kind equals itself, by the test
kind_itself : (k : Kind) → (kind_number k == kind_number k) ≡ true
kind_itself Code = refl
kind_itself Access = refl
kind_itself Refresh = refl

-- tokens with equal dots and kinds are equal
both : (d e : Dot) (k j : Kind) (a b : TokenId) → d ≡ e → k ≡ j → a ≡ record { dot = d; kind = k }
    → b ≡ record { dot = e; kind = j } → a ≡ b
both d e k j a b h i p q = cc

-- tokens that are the same by the test are equal
pub same_token-true : (a b : TokenId) → is_same_token a b ≡ true → a ≡ b
same_token-true a b h = let p = and_parts _ _ h in
    both a.dot b.dot a.kind b.kind a b (same_dot-true a.dot b.dot p.0) (same_kind a.kind b.kind p.1)
    refl refl

-- a token is the same as itself, by the test
pub same_token-itself : (a : TokenId) → is_same_token a a ≡ true
same_token-itself a = and_from _ _ (same_dot-itself a.dot) (kind_itself a.kind)

-- ---- options

-- an option that names the token, by the test, has it
pub names_token-true : (o : Option TokenId) (k : TokenId) → names_token o k ≡ true → o ≡ Some k
names_token-true None k h = absurd (true≢false (sym h))
names_token-true (Some j) k h = ap (λ (x : TokenId). Some x) (same_token-true j k h)

-- an option that has the token names it, by the test
pub names_token-of : (o : Option TokenId) (k : TokenId) → o ≡ Some k → names_token o k ≡ true
names_token-of o k h = ap (λ (x : Option TokenId). names_token x k) h ∙ same_token-itself k

-- an option that names the dot, by the test, has it
pub names_dot-true : (o : Option Dot) (c : Dot) → names_dot o c ≡ true → o ≡ Some c
names_dot-true None c h = absurd (true≢false (sym h))
names_dot-true (Some d) c h = ap (λ (x : Dot). Some x) (same_dot-true d c h)

-- an option that has the dot names it, by the test
pub names_dot-of : (o : Option Dot) (c : Dot) → o ≡ Some c → names_dot o c ≡ true
names_dot-of o c h = ap (λ (x : Option Dot). names_dot x c) h ∙ same_dot-itself c
