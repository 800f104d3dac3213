-- Bundles and vectors one behind the other, and their lines. Key results:
--   shows_none     before the first, there are no lines
--   shows_one      the lines of the first
--   shows_trans    some, and then some more
--   shows_extend   more bytes at the end
--   shows_next     one more
--   next_printed   one more is printed
--   next_failed    the output failed as one more was printed
--   ended_bad      the rest is bad
--   prints_more    some lines, and then a beginning of more
use Rattle.std.proofs.Common.{◌≡◌, ℕ, ◌+◌, ◌≤◌, List, [], ◌∷◌, ◌++◌, length, drop, Option, inr}
use Rattle.std.proofs.Common.{refl, sym, ap, subst, ◌∙◌, append_assoc, arith, length-drop}
use Rattle.std.proofs.KnownBytes.{Appends-kept, Appends-trans}
use Rattle.std.specs.Io.KnownBytes.{Appends}
use Rattle.std.specs.List.{flat_map}
use Rattle.std.proofs.lemmas.List.{append-nil, drop-drop, take-append-drop}
use Rattle.std.proofs.lemmas.Grind.{flat_map-append}
use Rattle.tk_put.specs.Put.{AppendsFront}
use Rattle.tk_listing.specs.Pieces.{ArePieces, IsFront, Shows, piece_bytes, piece_lines}
use Rattle.tk_listing.specs.Printing.{PrintsFirst, PrintsWhole}
use Rattle.tk_listing.specs.declared.piece.Piece.{Piece}
use Rattle.tk_listing.specs.declared.print.End.TheVariants as ends
use Rattle.tk_listing.specs.declared.print.Step.TheVariants as step

-- nothing is shown of no bytes
pub shows_none : (bytes : List ℕ) → Shows bytes bytes []
shows_none bytes = record { pieces = []; fit = tt; parts = refl; shown = refl }

-- one piece is shown by its lines
pub shows_one : (bytes : List ℕ) (piece : Piece) (n : ℕ) → IsFront bytes piece n
    → Shows bytes (drop n bytes) (piece_lines piece)
shows_one bytes piece n front = record {
  pieces = piece ∷ [];
  fit = (front.fits, tt);
  parts = sym (take-append-drop n bytes)
      ∙ ap (λ (l : List ℕ). l ++ drop n bytes)
      (front.spelled ∙ sym (append-nil (piece_bytes piece)));
  shown = sym (append-nil (piece_lines piece));
}

-- pieces, and more pieces behind them, are pieces
are_more : (some more : List Piece) → ArePieces some → ArePieces more → ArePieces (some ++ more)
are_more [] more all others = others
are_more (p ∷ some) more all others = (all.0, are_more some more all.1 others)

-- pieces that follow one another are shown one after the other
pub shows_trans : (bytes mid rest before after : List ℕ) → Shows bytes mid before
    → Shows mid rest after → Shows bytes rest (before ++ after)
shows_trans bytes mid rest before after one two = record {
  pieces = one.pieces ++ two.pieces;
  fit = are_more one.pieces two.pieces one.fit two.fit;
  parts = one.parts ∙ ap (λ (l : List ℕ). flat_map piece_bytes one.pieces ++ l) two.parts
      ∙ sym (append_assoc (flat_map piece_bytes one.pieces) (flat_map piece_bytes two.pieces) rest)
      ∙ ap (λ (l : List ℕ). l ++ rest) (sym (flat_map-append piece_bytes one.pieces two.pieces));
  shown = ap (λ (l : List ℕ). l ++ after) one.shown
      ∙ ap (λ (l : List ℕ). flat_map piece_lines one.pieces ++ l) two.shown
      ∙ sym (flat_map-append piece_lines one.pieces two.pieces);
}

-- what is shown of bytes is shown of them with more behind
pub shows_extend : (bytes rest lines more : List ℕ) → Shows bytes rest lines
    → Shows (bytes ++ more) (rest ++ more) lines
shows_extend bytes rest lines more one = record {
  pieces = one.pieces;
  fit = one.fit;
  parts = ap (λ (l : List ℕ). l ++ more) one.parts
      ∙ append_assoc (flat_map piece_bytes one.pieces) rest more;
  shown = one.shown;
}

-- one more piece is shown behind the others
pub shows_next : (bytes lines : List ℕ) (used n : ℕ) (piece : Piece)
    → Shows bytes (drop used bytes) lines → IsFront (drop used bytes) piece n
    → Shows bytes (drop (used + n) bytes) (lines ++ piece_lines piece)
shows_next bytes lines used n piece before front =
    subst (λ (rest : List ℕ). Shows bytes rest (lines ++ piece_lines piece))
    (drop-drop n used bytes)
    (shows_trans bytes (drop used bytes) (drop n (drop used bytes)) lines (piece_lines piece) before
    (shows_one (drop used bytes) piece n front))

-- some lines were written, and then a beginning of more
pub prints_more : (old mid new : Option (List ℕ)) (before text : List ℕ) → Appends old mid before
    → AppendsFront mid new text → AppendsFront old new (before ++ text)
prints_more old mid new before text done begun = record {
  front = before ++ begun.front;
  rest = begun.rest;
  parts = ap (λ (t : List ℕ). before ++ t) begun.parts
      ∙ sym (append_assoc before begun.front begun.rest);
  appended = Appends-trans old mid new before begun.front done begun.appended;
}

-- the bundles and vectors of the first bytes are printed
abbrev pub Printed : List ℕ → ℕ → Option (List ℕ) → Option (List ℕ) → Type 0
Printed bytes used old now = (used ≤ length bytes)
    × ((lines : List ℕ) × Shows bytes (drop used bytes) lines × Appends old now lines)

-- an offset within the rest of some bytes is within the bytes
within : (bytes : List ℕ) (used n : ℕ) → used ≤ length bytes → n ≤ length (drop used bytes)
    → used + n ≤ length bytes
within bytes used n low more = omega (arith, length-drop used bytes, low, more)

-- one more piece was printed
pub next_printed : (bytes rest : List ℕ) (used n : ℕ) (old mid new : Option (List ℕ))
    → Printed bytes used old mid → rest ≡ drop used bytes
    → PrintsFirst rest (step.Printed n) mid new → Printed bytes (used + n) old new
next_printed bytes rest used n old mid new so_far is first =
    let one : PrintsFirst (drop used bytes) (step.Printed n) mid new =
    subst (λ (l : List ℕ). PrintsFirst l (step.Printed n) mid new) is first in (
      within bytes used n so_far.0 one.1.within,
      (
        so_far.1.0 ++ piece_lines one.0,
        shows_next bytes so_far.1.0 used n one.0 so_far.1.1 one.1,
        Appends-trans old mid new so_far.1.0 (piece_lines one.0) so_far.1.2 one.2,
      ),
    )

-- an output that fails at a piece has printed those before it
pub next_failed : (bytes rest : List ℕ) (used n : ℕ) (old mid new : Option (List ℕ))
    → Printed bytes used old mid → rest ≡ drop used bytes
    → PrintsFirst rest (step.Failed n) mid new → PrintsWhole bytes (used + n) ends.Output old new
next_failed bytes rest used n old mid new so_far is first =
    let one : PrintsFirst (drop used bytes) (step.Failed n) mid new =
    subst (λ (l : List ℕ). PrintsFirst l (step.Failed n) mid new) is first in record {
      within = within bytes used n so_far.0 one.1.within;
      lines = so_far.1.0 ++ piece_lines one.0;
      shows = shows_next bytes so_far.1.0 used n one.0 so_far.1.1 one.1;
      ends = prints_more old mid new so_far.1.0 (piece_lines one.0) so_far.1.2 one.2;
    }

-- bytes that are no piece end the listing as malformed
pub ended_bad : (bytes rest : List ℕ) (used : ℕ) (old mid new : Option (List ℕ))
    → Printed bytes used old mid → rest ≡ drop used bytes
    → PrintsFirst rest step.Malformed mid new → PrintsWhole bytes used ends.Malformed old new
ended_bad bytes rest used old mid new so_far is first =
    let one : PrintsFirst (drop used bytes) step.Malformed mid new =
    subst (λ (l : List ℕ). PrintsFirst l step.Malformed mid new) is first in
    record {
      within = so_far.0;
      lines = so_far.1.0;
      shows = so_far.1.1;
      ends = (one.0, Appends-kept _ _ _ _ so_far.1.2 one.1);
    }

-- bytes that begin a piece end it for now
pub ended_cut : (bytes rest : List ℕ) (used : ℕ) (old mid new : Option (List ℕ))
    → Printed bytes used old mid → rest ≡ drop used bytes
    → PrintsFirst rest step.Cut mid new → PrintsWhole bytes used ends.More old new
ended_cut bytes rest used old mid new so_far is first =
    let one : PrintsFirst (drop used bytes) step.Cut mid new =
    subst (λ (l : List ℕ). PrintsFirst l step.Cut mid new) is first in
    record {
      within = so_far.0;
      lines = so_far.1.0;
      shows = so_far.1.1;
      ends = (inr one.0, Appends-kept _ _ _ _ so_far.1.2 one.1);
    }
