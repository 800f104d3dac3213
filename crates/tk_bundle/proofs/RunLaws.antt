-- The bytes of a run. Key result: run_written, its parts are the bytes of its piece.
use Rattle.std.proofs.Common.{◌≡◌, ◌≢◌, ℕ, false, eqb, List, [], ◌∷◌, ◌++◌}
use Rattle.std.proofs.Common.{ap, ◌∙◌, append_assoc, arith}
use Rattle.std.specs.Int.{w16, w64}
use Rattle.std.proofs.lemmas.Bool.Decides.{nat_tests}
use Rattle.tk_format.specs.Format.{number_spelling, text_spelling}
use Rattle.tk_handle.specs.declared.dot.Dot.{Dot}
use Rattle.tk_handle.specs.DotBytes.{dot_field}
use Rattle.tk_bundle.specs.declared.piece.Piece.TheVariants.{Marks}
use Rattle.tk_bundle.specs.PieceBytes.{run_kind, piece}
use Rattle.tk_bundle.specs.PiecedLaws.{run_length}

-- numbers that differ fail the test for equal ones
differ : (m n : ℕ) → m ≢ n → eqb m n ≡ false
differ m n h = grind (arith, nat_tests)

-- the length of a run, its first dot, its number and its last serial are the run
pub run_written : (d : Dot) (last : ℕ) (old a b e new : List ℕ) → d.serial ≢ last
    → a ≡ old ++ number_spelling w16 19 → b ≡ a ++ dot_field.spell d → e ≡ b ++ run_kind ∷ []
    → new ≡ e ++ number_spelling w64 last → new ≡ old ++ piece.spell (Marks d last)
unfolding text_spelling
run_written d last old a b e new other size first kind serial =
    let n = number_spelling w16 19 in
    let x = dot_field.spell d in
    let y = number_spelling w64 last in
    let all : new ≡ old ++ (n ++ (x ++ run_kind ∷ y)) =
    serial ∙ ap (λ (l : List ℕ). l ++ y) (kind ∙ ap (λ (l : List ℕ). l ++ run_kind ∷ [])
    (first ∙ ap (λ (l : List ℕ). l ++ x) size))
    ∙ append_assoc ((old ++ n) ++ x) (run_kind ∷ []) y
    ∙ append_assoc (old ++ n) x (run_kind ∷ y)
    ∙ append_assoc old n (x ++ run_kind ∷ y) in
    rw (differ d.serial last other, run_length (d, last)) all
