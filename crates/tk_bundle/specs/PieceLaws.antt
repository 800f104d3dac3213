-- Items as pieces, and pieces as items (own). Key results:
--   marks_more       one mark more at the end
--   grouped_items    the pieces of items have these items
--   grouped_proper   the pieces of items are proper
--   grouped_again    proper pieces are the pieces of their items
use Rattle.std.proofs.Common.{◌≡◌, ℕ, zero, suc, ◌+◌, ◌-◌, ◌≤◌, Bool, true, false, cond, eqb}
use Rattle.std.proofs.Common.{nat_le}
use Rattle.std.proofs.Common.{List, [], ◌∷◌, ◌++◌, length, Option, None, refl, sym, ap, ◌∙◌}
use Rattle.std.proofs.Common.{append_assoc, add-zero, arith, not, ◌&&◌}
use Rattle.std.proofs.lemmas.Bool.{eqb-true, eq-eqb}
use Rattle.std.proofs.lemmas.Bool.{and_parts as both_true}
use Rattle.std.proofs.lemmas.Bool.Decides.{nat_tests}
use borrow.Author.Tests.{leb-true}
use Rattle.tk_handle.specs.declared.dot.Dot.{Dot}
use Rattle.tk_store.specs.Slots.{Slot, Held, Skipped}
use Rattle.tk_bundle.specs.BundleFields.{Items}
use Rattle.tk_bundle.specs.declared.piece.Piece.{Piece}
use Rattle.tk_bundle.specs.declared.piece.Piece.TheVariants.{Fact, Marks}
use Rattle.tk_bundle.specs.Pieces.{continues, last_mark, extended, begun, pieces_from, grouped}
use Rattle.tk_bundle.specs.Pieces.{marks_from, piece_items, expanded, first_item, is_stretch}
use Rattle.tk_bundle.specs.Pieces.{is_proper_behind, is_proper}

-- ---- marks one after another

-- the dot n dots behind another in its region
abbrev pub behind : Dot → ℕ → Dot
behind d n = record { region = d.region; serial = d.serial + n }

-- the marks of one dot more
pub marks_more : (d : Dot) (n : ℕ)
    → marks_from d (suc n) ≡ marks_from d n ++ (behind d n, Skipped) ∷ []
unfolding marks_from
marks_more d zero =
    ap (λ (s : ℕ). (record { region = d.region; serial = s }, Skipped) ∷ [])
    (sym (add-zero d.serial))
marks_more d (suc n) =
    let e : Dot = behind d 1 in
    let s : (d.serial + 1) + n ≡ d.serial + suc n = omega arith in
    ap (λ (l : Items). (d, Skipped) ∷ l) (marks_more e n
    ∙ ap (λ (s : ℕ). marks_from e n ++ (record { region = d.region; serial = s }, Skipped) ∷ []) s)

-- the marks of n dots are n
pub length_marks : (d : Dot) (n : ℕ) → length (marks_from d n) ≡ n
unfolding marks_from
length_marks d zero = refl
length_marks d (suc n) = ap suc (length_marks (behind d 1) n)

-- ---- an item behind a piece

-- a mark that goes on behind marks is the next one of their region
pub record GoesOn (d : Dot) (last : ℕ) (e : Dot) : Type 0 where
  pub region : d.region ≡ e.region
  pub serial : last + 1 ≡ e.serial

-- a mark that continues a run is at its next dot
pub goes_on : (d : Dot) (last : ℕ) (e : Dot)
    → continues (last_mark (Marks d last)) (e, Skipped) ≡ true → GoesOn d last e
goes_on d last e h =
    let p = both_true (eqb d.region e.region) (eqb (last + 1) e.serial) h in
    record { region = eqb-true _ _ p.0; serial = eqb-true _ _ p.1 }

-- a number that isn't above another, by the test, isn't above it
le_of : (m n : ℕ) → nat_le m n ≡ true → m ≤ n
le_of m n h = leb-true m n h

-- a piece with a mark behind it has one item more
pub extended_items : (p : Piece) (i : Dot × Slot) → is_stretch p ≡ true
    → continues (last_mark p) i ≡ true → piece_items (extended p i.0) ≡ piece_items p ++ i ∷ []
extended_items (Fact f) i low on = absurd cc
extended_items (Marks d last) (e, Held b) low on = absurd cc
extended_items (Marks d last) (e, Skipped) low on =
    let g = goes_on d last e on in
    let first : d.serial ≤ last = le_of d.serial last low in
    let n : e.serial - d.serial ≡ suc (last - d.serial) = omega (arith, g.serial) in
    let s : d.serial + suc (last - d.serial) ≡ e.serial = omega (arith, g.serial) in
    ap (λ (n : ℕ). marks_from d (suc n)) n
    ∙ marks_more d (suc (last - d.serial))
    ∙ ap (λ (x : Dot). marks_from d (suc (last - d.serial)) ++ (x, Skipped) ∷ [])
    (λ j. record { region = g.region j; serial = s j })

-- the last mark of a piece isn't before its first, with one more mark behind
pub stretch_extended : (p : Piece) (i : Dot × Slot) → is_stretch p ≡ true
    → continues (last_mark p) i ≡ true → is_stretch (extended p i.0) ≡ true
stretch_extended (Fact f) i low on = absurd cc
stretch_extended (Marks d last) (e, Held b) low on = absurd cc
stretch_extended (Marks d last) (e, Skipped) low on =
    later d.serial last e.serial low (goes_on d last e on).serial
  where
    later : (m n k : ℕ) → nat_le m n ≡ true → n + 1 ≡ k → nat_le m k ≡ true
    later m n k h s = grind (arith, nat_tests)

-- the last mark of a piece that was begun isn't before its first
pub stretch_begun : (i : Dot × Slot) → is_stretch (begun i) ≡ true
stretch_begun (d, Held b) = refl
stretch_begun (d, Skipped) = same d.serial
  where
    same : (n : ℕ) → nat_le n n ≡ true
    same n = grind (arith, nat_tests)

-- a piece that was begun has its one item
pub begun_items : (i : Dot × Slot) → piece_items (begun i) ≡ i ∷ []
unfolding marks_from
begun_items (d, Held b) = refl
begun_items (d, Skipped) = ap (λ (n : ℕ). marks_from d (suc n)) (none d.serial)
  where
    none : (n : ℕ) → n - n ≡ 0
    none n = omega arith

-- the first item of a piece of one item is that item
first_begun : (i : Dot × Slot) → first_item (begun i) ≡ i
first_begun (d, Held b) = refl
first_begun (d, Skipped) = refl

-- a mark at the end of a piece leaves the first item as it is
first_extended : (p : Piece) (e : Dot) → first_item (extended p e) ≡ first_item p
first_extended (Fact f) e = refl
first_extended (Marks d last) e = refl

-- ---- the pieces of items have these items

-- a piece and items grouped behind it have the items of the piece, then these
from_items : (p : Piece) (items : Items) → is_stretch p ≡ true
    → expanded (pieces_from p items) ≡ piece_items p ++ items
from_items p [] low = refl
from_items p (i ∷ more) low =
    by_test (λ q fits. from_items q more fits) (continues (last_mark p) i) refl
  where
    by_test : ((q : Piece) → is_stretch q ≡ true
        → expanded (pieces_from q more) ≡ piece_items q ++ more)
        → (t : Bool) → continues (last_mark p) i ≡ t
        → expanded (cond t (pieces_from (extended p i.0) more) (p ∷ pieces_from (begun i) more))
        ≡ piece_items p ++ i ∷ more
    by_test next true on =
        next (extended p i.0) (stretch_extended p i low on)
        ∙ ap (λ (l : Items). l ++ more) (extended_items p i low on)
        ∙ append_assoc (piece_items p) (i ∷ []) more
    by_test next false off =
        ap (λ (l : Items). piece_items p ++ l) (next (begun i) (stretch_begun i)
        ∙ ap (λ (l : Items). l ++ more) (begun_items i))

-- the items of grouped pieces are the items
pub grouped_items : (items : Items) → expanded (grouped items) ≡ items
grouped_items [] = refl
grouped_items (i ∷ more) =
    from_items (begun i) more (stretch_begun i) ∙ ap (λ (l : Items). l ++ more) (begun_items i)

-- ---- the pieces of items are proper

-- of a piece and items grouped behind it, no piece continues the one before
from_proper : (last : Option Dot) (p : Piece) (items : Items) → is_stretch p ≡ true
    → continues last (first_item p) ≡ false → is_proper_behind last (pieces_from p items) ≡ true
from_proper last p [] low apart = rw (apart, low) refl
from_proper last p (i ∷ more) low apart =
    by_test (λ e q fits off. from_proper e q more fits off) (continues (last_mark p) i) refl
  where
    by_test : ((e : Option Dot) (q : Piece) → is_stretch q ≡ true
        → continues e (first_item q) ≡ false → is_proper_behind e (pieces_from q more) ≡ true)
        → (t : Bool) → continues (last_mark p) i ≡ t → is_proper_behind last
        (cond t (pieces_from (extended p i.0) more) (p ∷ pieces_from (begun i) more)) ≡ true
    by_test next true on = next last (extended p i.0) (stretch_extended p i low on)
        (ap (continues last) (first_extended p i.0) ∙ apart)
    by_test next false off = rw (apart, low) (next (last_mark p) (begun i) (stretch_begun i)
        (ap (continues (last_mark p)) (first_begun i) ∙ off))

-- grouped pieces are proper: no run follows another without a gap
pub grouped_proper : (items : Items) → is_proper (grouped items) ≡ true
grouped_proper [] = refl
grouped_proper (i ∷ more) = from_proper None (begun i) more (stretch_begun i) refl

-- ---- proper pieces are the pieces of their items

-- the items of a piece behind the first
abbrev tail_items : Piece → Items
tail_items (Fact f) = []
tail_items (Marks d last) = marks_from (behind d 1) (last - d.serial)

-- the items of a piece are its first item and the items behind the first
first_of_all : (p : Piece) → piece_items p ≡ first_item p ∷ tail_items p
unfolding marks_from
first_of_all (Fact f) = refl
first_of_all (Marks d last) = refl

-- marks that go on behind a run belong to it
absorbed : (d : Dot) (m k : ℕ) (rest : Items)
    → pieces_from (Marks d m) (marks_from (record { region = d.region; serial = m + 1 }) k ++ rest)
    ≡ pieces_from (Marks d (m + k)) rest
unfolding marks_from
absorbed d m zero rest = ap (λ (n : ℕ). pieces_from (Marks d n) rest) (sym (add-zero m))
absorbed d m (suc k) rest =
    let s : (m + 1) + k ≡ m + suc k = omega arith in
    rw (eq-eqb d.region d.region refl, eq-eqb (m + 1) (m + 1) refl)
    (absorbed d (m + 1) k rest ∙ ap (λ (n : ℕ). pieces_from (Marks d n) rest) s)

-- a piece is what its items begin
begun_whole : (p : Piece) (rest : Items) → is_stretch p ≡ true
    → pieces_from (begun (first_item p)) (tail_items p ++ rest) ≡ pieces_from p rest
begun_whole (Fact f) rest low = refl
begun_whole (Marks d last) rest low =
    let first : d.serial ≤ last = le_of d.serial last low in
    let s : d.serial + (last - d.serial) ≡ last = omega arith in
    absorbed d d.serial (last - d.serial) rest ∙ ap (λ (n : ℕ). pieces_from (Marks d n) rest) s

-- what a proper list of pieces says of the first of them
pub record IsNext (last : Option Dot) (p : Piece) (ps : List Piece) : Type 0 where
  pub apart : continues last (first_item p) ≡ false
  pub low : is_stretch p ≡ true
  pub more : is_proper_behind (last_mark p) ps ≡ true

-- a proper piece is the next one behind the last mark
pub is_next : (last : Option Dot) (p : Piece) (ps : List Piece)
    → is_proper_behind last (p ∷ ps) ≡ true → IsNext last p ps
is_next last p ps h = of (continues last (first_item p)) (is_stretch p) refl refl h
  where
    of : (t u : Bool) → continues last (first_item p) ≡ t → is_stretch p ≡ u
        → (not t && (u && is_proper_behind (last_mark p) ps)) ≡ true → IsNext last p ps
    of true u a l k = absurd cc
    of false false a l k = absurd cc
    of false true a l k = record { apart = a; low = l; more = k }

-- pieces of which none continues the one before are their own items, grouped again
from_again : (p : Piece) (ps : List Piece) → is_proper_behind (last_mark p) ps ≡ true
    → pieces_from p (expanded ps) ≡ p ∷ ps
from_again p [] h = refl
from_again p (q ∷ ps) h =
    let n = is_next (last_mark p) q ps h in
    ap (λ (l : Items). pieces_from p (l ++ expanded ps)) (first_of_all q)
    ∙ rw n.apart (ap (λ (l : List Piece). p ∷ l) (begun_whole q (expanded ps) n.low
    ∙ from_again q ps n.more))

-- proper pieces are what their items are grouped to
pub grouped_again : (ps : List Piece) → is_proper ps ≡ true → grouped (expanded ps) ≡ ps
grouped_again [] h = refl
grouped_again (p ∷ ps) h =
    let n = is_next None p ps h in
    ap (λ (l : Items). grouped (l ++ expanded ps)) (first_of_all p)
    ∙ begun_whole p (expanded ps) n.low ∙ from_again p ps n.more
