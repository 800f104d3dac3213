-- When a subject last signed out everywhere. Key results:
--   reached              a subject is signed out at the moments up to the last sign-out
--   last_is              what reaches just these moments is the last sign-out
--   last_sign_out_same   two sets that agree on these moments have one last sign-out
use Rattle.std.proofs.Common.{◌≡◌, ℕ, Bool, true, false, ◌&&◌, ◌||◌, cond, List, [], ◌∷◌, Option}
use Rattle.std.proofs.Common.{None, Some, refl, sym, ap, ◌∙◌, arith}
use Rattle.std.proofs.lemmas.Bool.{true≢false}
use Rattle.std.proofs.lemmas.Bool.Decides.{nat_tests}
use Rattle.std.specs.FinMap as map
use Rattle.std.specs.List.{cons_option, filter_map, list_any}
use Rattle.std.specs.Prelude.{nat_le}
use Rattle.std.specs.Str.{bytes_eq}
use Rattle.tk_handle.specs.declared.dot.Dot.{Dot}
use Rattle.tk_fact.specs.declared.body.Body.{Body}
use Rattle.tk_fact.specs.declared.body.Body.TheVariants.{SubjectOut}
use Rattle.tk_store.specs.FactSet.{FactSet}
use Rattle.tk_ledger.specs.SignOuts.{is_signed_out, reaches, signs_out}
use Rattle.tk_message.specs.LastSignOut.{moment_out, later, greatest, last_sign_out}

-- ---- two last moments

-- a moment is at most itself, by the test
itself : (m : ℕ) → nat_le m m ≡ true
itself m = grind (arith, nat_tests)

-- moments that are at most each other are equal
between : (a b : ℕ) → nat_le a b ≡ true → nat_le b a ≡ true → a ≡ b
between a b h k = grind (arith, nat_tests)

-- last sign-outs that reach the same moments are equal
reaches_one : (r s : Option ℕ) → ((m : ℕ) → reaches r m ≡ reaches s m) → r ≡ s
reaches_one None None same = refl
reaches_one None (Some b) same = absurd (true≢false (sym (itself b) ∙ sym (same b)))
reaches_one (Some a) None same = absurd (true≢false (sym (itself a) ∙ same a))
reaches_one (Some a) (Some b) same =
    ap Some (between a b (sym (same a) ∙ itself a) (same b ∙ itself b))

-- ---- the last sign-out

-- a moment is reached by one or by others exactly if it is reached by the later of them
either : (m a : ℕ) (o : Option ℕ) → (nat_le m a || reaches o m) ≡ nat_le m (later a o)
either m a None = elim (nat_le m a) as (λ t. (t || false) ≡ t) [
  | true ↦ refl
  | false ↦ refl
]
either m a (Some b) = grind (arith, nat_tests)

-- one more fact, which may be a sign-out of the subject
one_more : (m a : ℕ) (b : Bool) (others : List ℕ) → b ≡ reaches (greatest others) m → (t : Bool)
    → ((t && nat_le m a) || b)
    ≡ reaches (greatest (cons_option (cond t (Some a) None) others)) m
one_more m a b others before true =
    ap (λ s. nat_le m a || s) before ∙ either m a (greatest others)
one_more m a b others before false = before

-- the moments of sign-outs of the subject among some facts
abbrev moments : List ℕ → List (Dot × Body) → List ℕ
moments subject fs = filter_map (λ f. moment_out subject f.1) fs

-- some facts sign out a subject at a moment exactly if the last of its sign-outs reaches it
reached_in : (subject : List ℕ) (m : ℕ) (fs : List (Dot × Body))
    → list_any (signs_out subject m) fs ≡ reaches (greatest (moments subject fs)) m
reached_in subject m [] = refl
reached_in subject m ((d, SubjectOut f) ∷ fs) =
    one_more m f.moment (list_any (signs_out subject m) fs) (moments subject fs)
    (reached_in subject m fs) (bytes_eq f.subject subject)
reached_in subject m ((d, b) ∷ fs) = reached_in subject m fs

-- a subject is signed out at a moment exactly if the last sign-out reaches it
pub reached : (F : FactSet) (subject : List ℕ) (m : ℕ)
    → is_signed_out F subject m ≡ reaches (last_sign_out F subject) m
reached F subject m = reached_in subject m (map.entries F)

-- what reaches exactly the moments at which the subject is signed out is the last sign-out
pub last_is : (F : FactSet) (subject : List ℕ) (last : Option ℕ)
    → ((m : ℕ) → is_signed_out F subject m ≡ reaches last m) → last ≡ last_sign_out F subject
last_is F subject last says = reaches_one last (last_sign_out F subject)
    (λ m. sym (says m) ∙ reached F subject m)

-- two sets of facts that sign a subject out at the same moments have the same last sign-out of it
pub last_sign_out_same : (F G : FactSet) (subject : List ℕ)
    → ((m : ℕ) → is_signed_out F subject m ≡ is_signed_out G subject m)
    → last_sign_out F subject ≡ last_sign_out G subject
last_sign_out_same F G subject same =
    reaches_one (last_sign_out F subject) (last_sign_out G subject)
    (λ m. sym (reached F subject m) ∙ same m ∙ reached G subject m)
