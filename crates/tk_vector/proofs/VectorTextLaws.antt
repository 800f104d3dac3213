-- Texts of several dots, and texts that are not such texts. Key results:
--   rising        dots that pass the test of neighbours rise
--   entry_there   a text with an entry that is no dot's is not a text of dots
--   none_rising   dots whose regions do not rise have no text
use Rattle.std.proofs.Common.{◌≡◌, ℕ, ◌<◌, Bool, true, false, nat_lt, List, [], ◌∷◌, length, get_or}
use Rattle.std.proofs.Common.{map, sym, ap, ◌∙◌, subst, arith, refl}
use Rattle.std.specs.List.{All, IsAllAdjacentAnswer, slice_split}
use Rattle.std.proofs.lemmas.Bool.Decides.{nat_tests}
use Rattle.std.proofs.lemmas.List.{get_or-map, length-map}
use Rattle.std.proofs.lemmas.List.Elements.{All-head, All-tail}
use Rattle.tk_handle.specs.declared.dot.Dot.{Dot}
use Rattle.tk_handle.specs.Dot.{IsDot}
use Rattle.tk_handle.specs.DotText.{colon, dot_text, IsNoDotText}
use Rattle.tk_handle.proofs.DotTextLaws.{colon_parts, parted_injective}
use Rattle.tk_vector.specs.VectorText.{is_comma, AreNoDots, IsRising}

-- a number that is less by the test is less
lt_from_test : (a b : ℕ) → true ≡ nat_lt a b → a < b
lt_from_test a b h = grind (arith, nat_tests)

-- a number that is less is not found to be no less
test_from_lt : (a b : ℕ) → a < b → ¬ (false ≡ nat_lt a b)
test_from_lt a b lt h = grind (arith, nat_tests)

-- dots with the same texts are equal
same_dots : (xs ys : List Dot) → All IsDot xs → All IsDot ys → map dot_text xs ≡ map dot_text ys
    → xs ≡ ys
same_dots [] [] p q e = refl
same_dots [] (y ∷ ys) p q e = absurd (cc)
same_dots (x ∷ xs) [] p q e = absurd (cc)
same_dots (x ∷ xs) (y ∷ ys) p q e =
    let first : dot_text x ≡ dot_text y = cc in
    let rest : map dot_text xs ≡ map dot_text ys = cc in
    ap (λ z. z ∷ xs)
    (parted_injective colon colon_parts x y (All-head IsDot x xs p) (All-head IsDot y ys q) first)
    ∙ ap (λ zs. y ∷ zs) (same_dots xs ys (All-tail IsDot x xs p) (All-tail IsDot y ys q) rest)

-- what a test of neighbours returns: whether the regions of the dots rise
abbrev pub Answers : List Dot → Bool → Type 0
Answers dots answer =
    IsAllAdjacentAnswer (λ one next b. b ≡ nat_lt one.region next.region) dots answer

-- dots that the answer finds rising rise
pub rising : (dots : List Dot) (answer : Bool) → Answers dots answer → answer ≡ true → IsRising dots
rising dots true h e = λ k d lt. lt_from_test _ _ (h k d lt)
rising dots false h e = absurd (cc)

-- dots that the answer finds not to rise don't rise
not_rising : (dots : List Dot) (answer : Bool) → Answers dots answer → answer ≡ false
    → ¬ (IsRising dots)
not_rising dots true h e up = cc
not_rising dots false (k, lt, h) e up = let d : Dot = record { region = 0; serial = 0 } in
    test_from_lt _ _ (up k d lt) (h d)

-- a text with an entry that is no dot is no list of dots
pub entry_there : (text entry : List ℕ) (k : ℕ)
    → (k < length (slice_split is_comma text))
    × (entry ≡ get_or (slice_split is_comma text) k entry)
    → IsNoDotText entry → AreNoDots text
entry_there text entry k at none dots h =
    let d : Dot = record { region = 0; serial = 0 } in
    let there : k < length dots =
    omega (arith, at.0, ap length h.spelled, length-map dots dot_text) in
    none (get_or dots k d) (record {
      range = h.ranges k d there;
      spelled = at.1 ∙ ap (λ entries. get_or entries k entry) h.spelled
          ∙ get_or-map dot_text dots k d entry there;
    })

-- a text whose dots don't rise is no list of dots
pub none_rising : (text : List ℕ) (dots : List Dot) (answer : Bool)
    → slice_split is_comma text ≡ map dot_text dots → All IsDot dots → Answers dots answer
    → answer ≡ false → AreNoDots text
none_rising text dots answer spelled ranges test is others h =
    not_rising dots answer test is
    (subst IsRising (same_dots others dots h.ranges ranges (sym h.spelled ∙ spelled)) h.rising)
