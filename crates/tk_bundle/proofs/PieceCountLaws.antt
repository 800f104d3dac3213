-- Items by their dots and marks: how many pieces they are. Key results:
--   counted       the number of pieces of items, by their dots and marks
--   fitting_is    the number of the first dots of at most some pieces
--   first_are     the items of the first pieces are the first of the items
--   first_few     the items of the first n pieces are at most n pieces
use Rattle.std.proofs.Common.{◌≡◌, ℕ, zero, suc, ◌+◌, ◌≤◌, ◌-◌, Bool, true, false, cond, eqb}
use Rattle.std.proofs.Common.{List, [], ◌∷◌, ◌++◌, length, map, take, drop, Option, Some}
use Rattle.std.proofs.Common.{None, refl, sym, ap, ◌∙◌, arith}
use Rattle.std.proofs.lemmas.Bool.Decides.{nat_tests}
use Rattle.std.proofs.lemmas.List.{length-append, length-take, take_at}
use Rattle.std.proofs.lemmas.List.{take-append-drop}
use Rattle.std.proofs.lemmas.List.Concat.{flat_map-append}
use Rattle.tk_handle.specs.declared.dot.Dot.{Dot}
use Rattle.tk_store.specs.Slots.{Slot, Held, Skipped}
use Rattle.tk_bundle.specs.declared.piece.Piece.{Piece}
use Rattle.tk_bundle.specs.declared.piece.Piece.TheVariants.{Fact, Marks}
use Rattle.tk_bundle.specs.BundleFields.{Items, is_mark}
use Rattle.tk_bundle.specs.Pieces.{continues, mark_at_end, last_mark, extended, begun, pieces_from}
use Rattle.tk_bundle.specs.Pieces.{grouped, piece_items, expanded, is_stretch, first_pieces}
use Rattle.tk_bundle.specs.Pieces.{is_proper_behind}
use Rattle.tk_bundle.specs.PieceCounts.{marked_item, piece_count, fitting}
use Rattle.tk_bundle.specs.PieceLaws.{goes_on, extended_items, stretch_extended, stretch_begun}
use Rattle.tk_bundle.specs.PieceLaws.{begun_items, grouped_items, grouped_proper, grouped_again}
use Rattle.tk_bundle.specs.PieceLaws.{is_next}

-- ---- pieces by dots and marks

-- the last mark of the piece that an item begins
ends_begun : (i : Dot × Slot) → last_mark (begun i) ≡ mark_at_end i.0 (is_mark i)
ends_begun (d, Held b) = refl
ends_begun (d, Skipped) = refl

-- the last mark of a piece with a mark behind it
ends_extended : (p : Piece) (i : Dot × Slot) → continues (last_mark p) i ≡ true
    → last_mark (extended p i.0) ≡ mark_at_end i.0 (is_mark i)
ends_extended (Fact f) i on = absurd cc
ends_extended (Marks d last) (e, Held b) on = absurd cc
ends_extended (Marks d last) (e, Skipped) on =
    let g = goes_on d last e on in
    ap (λ (r : ℕ). Some (record { region = r; serial = e.serial })) g.region

-- a piece and items grouped behind it are one piece more than the items' dots begin
counted_from : (p : Piece) (items : Items)
    → length (pieces_from p items) ≡ suc (piece_count (last_mark p) (map marked_item items))
counted_from p [] = refl
counted_from p (i ∷ more) =
    by_test (λ q. counted_from q more) (continues (last_mark p) i) refl
  where
    rest : Option Dot → ℕ
    rest last = piece_count last (map marked_item more)

    by_test : ((q : Piece) → length (pieces_from q more) ≡ suc (rest (last_mark q)))
        → (t : Bool) → continues (last_mark p) i ≡ t
        → length (cond t (pieces_from (extended p i.0) more) (p ∷ pieces_from (begun i) more))
        ≡ suc (cond t (rest (mark_at_end i.0 (is_mark i)))
        (suc (rest (mark_at_end i.0 (is_mark i)))))
    by_test next true on =
        next (extended p i.0) ∙ ap (λ (last : Option Dot). suc (rest last)) (ends_extended p i on)
    by_test next false off =
        ap suc (next (begun i) ∙ ap (λ (last : Option Dot). suc (rest last)) (ends_begun i))

-- the number of pieces of items, by their dots and marks
pub counted : (items : Items) → length (grouped items) ≡ piece_count None (map marked_item items)
counted [] = refl
counted (i ∷ more) =
    counted_from (begun i) more
    ∙ ap (λ (last : Option Dot). suc (piece_count last (map marked_item more))) (ends_begun i)

-- ---- the items of the first pieces

-- the first pieces of no pieces are no pieces
take_none : (n : ℕ) → take {A = Piece} n [] ≡ []
take_none zero = refl
take_none (suc n) = refl

-- the first pieces have the items of the first one, and the dots that fit behind it
fits_from : (p : Piece) (room : ℕ) (items : Items) → is_stretch p ≡ true
    → length (expanded (take (suc room) (pieces_from p items)))
    ≡ length (piece_items p) + fitting room (last_mark p) (map marked_item items)
fits_from p room [] low =
    ap (λ (ps : List Piece). length (expanded (p ∷ ps))) (take_none room)
    ∙ length-append (piece_items p) []
fits_from p room (i ∷ more) low =
    by_test (λ q n fits. fits_from q n more fits) (continues (last_mark p) i) refl
  where
    rest : ℕ → Option Dot → ℕ
    rest n last = fitting n last (map marked_item more)

    end : Option Dot
    end = mark_at_end i.0 (is_mark i)

    by_room : ((q : Piece) (n : ℕ) → is_stretch q ≡ true
        → length (expanded (take (suc n) (pieces_from q more)))
        ≡ length (piece_items q) + rest n (last_mark q))
        → (n : ℕ) → length (expanded (take (suc n) (p ∷ pieces_from (begun i) more)))
        ≡ length (piece_items p) + cond (eqb n 0) 0 (suc (rest (n - 1) end))
    by_room next zero = length-append (piece_items p) []
    by_room next (suc n) =
        length-append (piece_items p) (expanded (take (suc n) (pieces_from (begun i) more)))
        ∙ ap (λ k. length (piece_items p) + k) (next (begun i) n (stretch_begun i)
        ∙ ap (λ (l : Items). length l + rest n (last_mark (begun i))) (begun_items i)
        ∙ ap (λ (last : Option Dot). 1 + rest n last) (ends_begun i)
        ∙ less n (rest n end) (rest (suc n - 1) end)
        (ap (λ k. rest k end) (back n)))
      where
        back : (n : ℕ) → n ≡ suc n - 1
        back n = omega arith

        less : (n a b : ℕ) → a ≡ b → 1 + a ≡ cond (eqb (suc n) 0) 0 (suc b)
        less n a b h = grind (arith, nat_tests)

    by_test : ((q : Piece) (n : ℕ) → is_stretch q ≡ true
        → length (expanded (take (suc n) (pieces_from q more)))
        ≡ length (piece_items q) + rest n (last_mark q))
        → (t : Bool) → continues (last_mark p) i ≡ t
        → length (expanded (take (suc room)
        (cond t (pieces_from (extended p i.0) more) (p ∷ pieces_from (begun i) more))))
        ≡ length (piece_items p) + cond t (suc (rest room end))
        (cond (eqb room 0) 0 (suc (rest (room - 1) end)))
    by_test next true on =
        let more_items = ap length (extended_items p i low on)
        ∙ length-append (piece_items p) (i ∷ []) in
        next (extended p i.0) room (stretch_extended p i low on)
        ∙ ap (λ (last : Option Dot). length (piece_items (extended p i.0)) + rest room last)
        (ends_extended p i on)
        ∙ one (length (piece_items (extended p i.0))) (length (piece_items p)) (rest room end)
        more_items
      where
        one : (a b c : ℕ) → a ≡ b + 1 → a + c ≡ b + suc c
        one a b c h = omega arith
    by_test next false off = by_room next room

-- the number of dots that fit into N pieces is the number of items of the first N pieces
pub fitting_is : (room : ℕ) (items : Items)
    → fitting room None (map marked_item items) ≡ length (first_pieces room items)
fitting_is room [] = sym (ap (λ (ps : List Piece). length (expanded ps)) (take_none room))
fitting_is zero (i ∷ more) = refl
fitting_is (suc n) (i ∷ more) =
    sym (fits_from (begun i) n more (stretch_begun i)
    ∙ ap (λ (l : Items). length l + fitting n (last_mark (begun i)) (map marked_item more))
    (begun_items i)
    ∙ ap (λ (last : Option Dot). 1 + fitting n last (map marked_item more)) (ends_begun i)
    ∙ same (fitting n (mark_at_end i.0 (is_mark i)) (map marked_item more))
    (fitting (suc n - 1) (mark_at_end i.0 (is_mark i)) (map marked_item more))
    (ap (λ k. fitting k (mark_at_end i.0 (is_mark i)) (map marked_item more)) (back n)) n)
  where
    back : (n : ℕ) → n ≡ suc n - 1
    back n = omega arith

    same : (a b : ℕ) → a ≡ b → (n : ℕ) → 1 + a ≡ cond (eqb (suc n) 0) 0 (suc b)
    same a b h n = grind (arith, nat_tests)

-- the items of the first pieces are the first of the items
pub first_are : (n : ℕ) (items : Items)
    → first_pieces n items ≡ take (length (first_pieces n items)) items
first_are n items =
    let front = expanded (take n (grouped items)) in
    let back = expanded (drop n (grouped items)) in
    let all : front ++ back ≡ items =
    sym (flat_map-append piece_items (take n (grouped items)) (drop n (grouped items)))
    ∙ ap expanded (take-append-drop n (grouped items)) ∙ grouped_items items in
    sym (ap (take (length front)) (sym all) ∙ take_at front back (length front) refl)

-- the first of proper pieces are proper
proper_take : (last : Option Dot) (n : ℕ) (ps : List Piece) → is_proper_behind last ps ≡ true
    → is_proper_behind last (take n ps) ≡ true
proper_take last zero ps h = refl
proper_take last (suc n) [] h = refl
proper_take last (suc n) (p ∷ ps) h =
    let k = is_next last p ps h in
    rw (k.apart, k.low) (proper_take (last_mark p) n ps k.more)

-- the items of the first n pieces are at most n pieces
pub first_few : (n : ℕ) (items : Items) → length (grouped (first_pieces n items)) ≤ n
first_few n items =
    let same : grouped (first_pieces n items) ≡ take n (grouped items) =
    grouped_again (take n (grouped items)) (proper_take None n (grouped items)
    (grouped_proper items)) in
    omega (arith, ap (λ (ps : List Piece). length ps) same, length-take n (grouped items))

-- pieces are no more than their items
pub few_pieces : (items : Items) → length (grouped items) ≤ length items
few_pieces items = omega (arith, counted items, few_counted None items)
  where
    few_counted : (last : Option Dot) (items : Items)
        → piece_count last (map marked_item items) ≤ length items
    few_counted last [] = omega arith
    few_counted last (i ∷ more) =
        elim (continues last i) as (λ t.
        cond t (piece_count (mark_at_end i.0 (is_mark i)) (map marked_item more))
        (suc (piece_count (mark_at_end i.0 (is_mark i)) (map marked_item more)))
        ≤ suc (length more)) [
          | true ↦ omega (arith, few_counted (mark_at_end i.0 (is_mark i)) more)
          | false ↦ omega (arith, few_counted (mark_at_end i.0 (is_mark i)) more)
        ]
