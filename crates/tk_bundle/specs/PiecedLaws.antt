-- Items that are spelled by pieces are read as these items alone (own). Key results:
--   piece_exact      a piece has one spelling
--   pieced_exact     items have one spelling by pieces
--   run_length       a run has 19 bytes
use Rattle.std.proofs.Common.{◌≡◌, ℕ, zero, suc, ◌+◌, Bool, true, false, cond, eqb, nat_le}
use Rattle.std.proofs.Common.{nat_lt, List, [], ◌∷◌, ◌++◌, length, slice_get, Option, Some, None}
use Rattle.std.proofs.Common.{refl, sym, ap, subst, ◌∙◌, arith}
use Rattle.std.specs.Int.{w64}
use Rattle.std.specs.Option.{option_map, option_map_or}
use Rattle.std.proofs.lemmas.Bool.{eq-eqb, le-leb}
use Rattle.std.proofs.lemmas.Bool.{and_parts as both_true}
use Rattle.std.proofs.lemmas.Bool.Decides.{nat_tests}
use Rattle.std.proofs.lemmas.List.{length-append}
use Rattle.std.proofs.lemmas.Option.{cond_some}
use Rattle.tk_format.specs.Format.{Format, whole, number_spelling}
use Rattle.tk_format.specs.Exact.{IsBytes, IsExact, some_is, whole_takes, whole_again}
use Rattle.tk_format.specs.Laws.{both_exact, only_exact, after_exact, counted_exact, partly_exact}
use Rattle.tk_format.specs.NumberLaws.{u16_exact, u64_exact}
use Rattle.tk_format.specs.Spellings.{number_length}
use Rattle.tk_handle.specs.declared.dot.Dot.{Dot}
use Rattle.tk_handle.specs.Ranges.{is_serial}
use Rattle.tk_handle.specs.DotBytes.{dot_field, serial_field}
use Rattle.tk_handle.proofs.FormatLaws.{dot_field_exact}
use Rattle.tk_fact.specs.declared.body.Body.{Body}
use Rattle.tk_fact.specs.declared.body.Body.TheVariants as bodies
use Rattle.tk_fact.specs.FactBytes.{number_of, body, fact}
use Rattle.tk_fact.specs.FactLaws.{fact_exact}
use Rattle.tk_fact.specs.Followed.{number_by}
use Rattle.tk_fact.proofs.BodyLaws.{body_begins}
use Rattle.tk_bundle.specs.BundleFields.{Items}
use Rattle.tk_bundle.specs.declared.piece.Piece.{Piece}
use Rattle.tk_bundle.specs.declared.piece.Piece.TheVariants.{Fact, Marks}
use Rattle.tk_bundle.specs.Items.{dot_size}
use Rattle.tk_bundle.specs.ItemLaws.{dot_length, fact_no_dot, framed_exact}
use Rattle.tk_bundle.specs.Pieces.{grouped, expanded, is_proper}
use Rattle.tk_bundle.specs.PieceLaws.{grouped_again}
use Rattle.tk_bundle.specs.PieceBytes.{run_kind, max_pieces, run, piece_bytes, PieceFits}
use Rattle.tk_bundle.specs.PieceBytes.{has_run_kind, lone, run_piece, piece_in, piece}
use Rattle.tk_bundle.specs.PieceBytes.{counted_pieces, are_runs, joined, pieced_items}

-- ---- the byte behind a dot

-- the first byte of a list is the number of a run
abbrev begins_run : List ℕ → Bool
begins_run bytes = option_map_or (λ k. eqb k run_kind) (slice_get bytes 0) false

-- the byte behind a dot is the first of what follows it
behind_dot : (d : Dot) (rest : List ℕ) → has_run_kind (dot_field.spell d ++ rest) ≡ begins_run rest
behind_dot d rest = at_length (dot_field.spell d) rest dot_size (dot_length d)
  where
    at_length : (front rest : List ℕ) (n : ℕ) → length front ≡ n
        → option_map_or (λ k. eqb k run_kind) (slice_get (front ++ rest) n) false ≡ begins_run rest
    at_length [] rest zero h = refl
    at_length [] rest (suc n) h = absurd cc
    at_length (x ∷ front) rest zero h = absurd cc
    at_length (x ∷ front) rest (suc n) h = at_length front rest n (omega arith)

-- neither of two numbers is that of a run
no_run : {B : Type 0} (o : Option B) (bare named : ℕ) → eqb bare run_kind ≡ false
    → eqb named run_kind ≡ false → eqb (number_by o bare named) run_kind ≡ false
no_run None bare named h k = h
no_run (Some more) bare named h k = k

-- no kind of fact has the number of a run
number_no_run : (b : Body) → eqb (number_of b) run_kind ≡ false
number_no_run (bodies.ClientAdded f) =
    no_run f.lives (number_by f.by 1 16) (number_by f.by 13 17) (no_run f.by 1 16 refl refl)
    (no_run f.by 13 17 refl refl)
number_no_run (bodies.ClientRetired f) = no_run f.by 2 18 refl refl
number_no_run (bodies.ConsentGiven f) = no_run f.by 3 19 refl refl
number_no_run (bodies.ConsentWithdrawn f) = no_run f.by 4 20 refl refl
number_no_run (bodies.CodeIssued f) = refl
number_no_run (bodies.CodeRedeemed f) = refl
number_no_run (bodies.RefreshRotated f) = refl
number_no_run (bodies.TokenRevoked f) = no_run f.by 8 21 refl refl
number_no_run (bodies.ReuseSeen f) = refl
number_no_run (bodies.SubjectOut f) = no_run f.by 10 22 refl refl
number_no_run (bodies.AccessRefreshed f) = refl
number_no_run (bodies.SecretSet f) = no_run f.by 15 23 refl refl

-- no body begins with the number of a run
body_kind : (b : Body) → begins_run (body.spell b) ≡ false
body_kind b = ap begins_run (body_begins b).1 ∙ number_no_run b

-- the spelling of a fact doesn't begin as that of a run
fact_begins : (f : Dot × Body) → has_run_kind (fact.spell f) ≡ false
fact_begins f = behind_dot f.0 (body.spell f.1) ∙ body_kind f.1

-- the spelling of a run begins as that of a run
run_begins : (r : Dot × ℕ) → has_run_kind (run.spell r) ≡ true
run_begins r = behind_dot r.0 (run_kind ∷ serial_field.spell r.1)

-- ---- a run

-- a run has 19 bytes
pub run_length : (r : Dot × ℕ) → length (run.spell r) ≡ 19
run_length r =
    length-append (dot_field.spell r.0) (run_kind ∷ serial_field.spell r.1)
    ∙ ap (λ n. n + suc (length (number_spelling w64 r.1))) (dot_length r.0)
    ∙ ap (λ n. dot_size + suc n) (number_length w64 r.1)

-- a run has one spelling
run_exact : IsExact run
run_exact = only_exact (λ r. nat_lt r.0.serial r.1) _
    (both_exact _ _ dot_field_exact
    (after_exact (run_kind ∷ []) serial_field (only_exact is_serial _ u64_exact)))

-- a run whose last serial is above its first isn't a lone mark
not_lone : (m n : ℕ) → nat_lt m n ≡ true → eqb m n ≡ false
not_lone m n h = grind (arith, nat_tests)

-- the first serial of a run isn't above the last
no_later : (m n : ℕ) → nat_lt m n ≡ true → nat_le m n ≡ true
no_later m n h = grind (arith, nat_tests)

-- marks from a serial to a later one are a run
is_run : (m n : ℕ) → nat_le m n ≡ true → eqb m n ≡ false → nat_lt m n ≡ true
is_run m n h k = grind (arith, nat_tests)

-- numbers that pass the test for equal ones are equal
same : (m n : ℕ) → eqb m n ≡ true → m ≡ n
same m n h = grind (arith, nat_tests)

-- ---- the piece that all of some bytes spell

-- what a piece that is read from all of some bytes is made of
read_as : {A : Type 0} (f : Format A) → IsExact f → (into : A → Piece) (bytes : List ℕ) (p : Piece)
    → IsBytes bytes → option_map into (whole f bytes) ≡ Some p
    → (a : A) × f.Fits a × (bytes ≡ f.spell a) × (into a ≡ p)
read_as {A} f exact into bytes p fits h = of (whole f bytes) refl h
  where
    of : (o : Option A) → whole f bytes ≡ o → option_map into o ≡ Some p
        → (a : A) × f.Fits a × (bytes ≡ f.spell a) × (into a ≡ p)
    of None is h = absurd cc
    of (Some a) is h =
        let w = whole_takes f exact bytes a fits is in
        (a, w.0, w.1, some_is (into a) p h)

-- bytes spell a piece, which fits
abbrev Spells : List ℕ → Piece → Type 0
Spells bytes p = PieceFits p × (bytes ≡ piece_bytes p)

-- a piece that is read from all of some bytes is spelled by them
piece_takes : (bytes : List ℕ) (p : Piece) → IsBytes bytes → piece_in bytes ≡ Some p
    → PieceFits p × (bytes ≡ piece_bytes p)
piece_takes bytes p fits e = by_length (eqb (length bytes) dot_size) (has_run_kind bytes) e
  where
    by_length : (t u : Bool) → cond t (option_map lone (whole dot_field bytes))
        (cond u (option_map run_piece (whole run bytes)) (option_map Fact (whole fact bytes)))
        ≡ Some p → Spells bytes p
    by_length true u h =
        let r = read_as dot_field dot_field_exact lone bytes p fits h in
        subst (Spells bytes) r.3 (
          (r.1, r.1.1, le-leb r.0.serial r.0.serial (omega arith)),
          r.2 ∙ ap (λ t. cond t (dot_field.spell r.0) (run.spell (r.0, r.0.serial)))
              (sym (eq-eqb r.0.serial r.0.serial refl)),
        )
    by_length false true h =
        let r = read_as run run_exact run_piece bytes p fits h in
        subst (Spells bytes) r.3 (
          (r.1.0.0, r.1.0.1, no_later r.0.0.serial r.0.1 r.1.1),
          r.2 ∙ ap (λ t. cond t (dot_field.spell r.0.0) (run.spell r.0))
              (sym (not_lone r.0.0.serial r.0.1 r.1.1)),
        )
    by_length false false h =
        let r = read_as fact fact_exact Fact bytes p fits h in
        subst (Spells bytes) r.3 (r.1, r.2)

-- a piece is read from all of its bytes
piece_again : (p : Piece) → PieceFits p → piece_in (piece_bytes p) ≡ Some p
piece_again (Fact f) fits =
    rw (fact_no_dot f.0 f.1, fact_begins f, whole_again fact fact_exact f fits) refl
piece_again (Marks d last) fits = by_last (eqb d.serial last) refl
  where
    by_last : (t : Bool) → eqb d.serial last ≡ t
        → piece_in (cond t (dot_field.spell d) (run.spell (d, last))) ≡ Some (Marks d last)
    by_last true is =
        rw (ap (λ n. eqb n dot_size) (dot_length d), whole_again dot_field dot_field_exact d fits.0)
        (ap (λ n. Some (Marks d n)) (same d.serial last is))
    by_last false is =
        rw (
          ap (λ n. eqb n dot_size) (run_length (d, last)),
          run_begins (d, last),
          whole_again run run_exact (d, last)
              ((fits.0, fits.1), is_run d.serial last fits.2 is),
        ) refl

-- a piece has one spelling
pub piece_exact : IsExact piece
piece_exact = framed_exact piece_bytes PieceFits piece_in piece_takes piece_again

-- ---- items by pieces

-- a count and the pieces that it counts have one spelling
counted_pieces_exact : IsExact counted_pieces
counted_pieces_exact =
    counted_exact _ piece (only_exact (λ n. nat_le n max_pieces) _ u16_exact) piece_exact

-- pieces that were joined are the pieces of their items
joined_back : (ps : List Piece) (items : Items) → joined ps ≡ Some items → grouped items ≡ ps
joined_back ps items h =
    let g = cond_some (are_runs ps) (expanded ps) items h in
    ap grouped (sym g.1) ∙ grouped_again ps (both_true (is_proper ps) _ g.0).0

-- items have one spelling by pieces
pub pieced_exact : IsExact pieced_items
pieced_exact = partly_exact joined grouped counted_pieces counted_pieces_exact joined_back
