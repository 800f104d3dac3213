-- Printing an input piece by piece. Key results:
--   going_first   before the first read
--   went_on       the bundles and vectors of one read more are printed
--   goes_on       reading goes on
--   stops         a fault of what was read ends the printing
--   stopped       a fault of the input, or of memory, ends the printing
--   more_goes, more_stops, read_stops   these, by what the parts of a turn ensure
use Rattle.std.proofs.Common.{◌≡◌, ℕ, ◌+◌, List, [], ◌++◌, length, length-append, length-drop, drop}
use Rattle.std.proofs.Common.{Option, Some, None, Result, Ok, Err, Bool, inl, inr, refl, sym}
use Rattle.std.proofs.Common.{ap, subst, ◌∙◌, append-nil, arith}
use Rattle.std.specs.Prelude.{IfSome}
use Rattle.std.proofs.KnownBytes.{Appends-nil, Appends-trans, Consumes-nil, Consumes-trans}
use Rattle.std.specs.Io.KnownBytes.{Appends, Consumes, IsAtEnd}
use Rattle.tk_listing.specs.Pieces.{Shows}
use Rattle.tk_listing.specs.Printing.{EndsAt, Ends, IsLeft, IsOver, IsReadFault, IsSeen}
use Rattle.tk_listing.specs.Printing.{PrintsInput, PrintsMore, PrintsWhole, ReadsMore, outcome}
use Rattle.tk_listing.specs.declared.print.End.{End}
use Rattle.tk_listing.specs.declared.print.End.TheVariants as ends
use Rattle.tk_listing.specs.declared.print.PrintFault.{PrintFault}
use Rattle.tk_listing.specs.declared.print.PrintFault.TheVariants.{CannotRead, Memory}
use Rattle.tk_listing.proofs.Showing.{shows_none, shows_trans, shows_extend, prints_more}

-- what was read and printed before a read
pub record Going (known left : Option (List ℕ)) (buffer : List ℕ) (offset : ℕ)
    (old now : Option (List ℕ)) : Type 0 where
  pub seen : List ℕ
  pub lines : List ℕ
  pub sees : Consumes known left seen
  pub shows : Shows seen buffer lines
  pub over : IsOver buffer
  pub printed : Appends old now lines
  pub place : offset + length buffer ≡ length seen

-- at first nothing is read and nothing printed
pub going_first : (known old : Option (List ℕ)) → Going known known [] 0 old old
going_first known old = record {
  seen = [];
  lines = [];
  sees = Consumes-nil known;
  shows = shows_none [];
  over = inl refl;
  printed = Appends-nil old;
  place = refl;
}

-- what was read and printed after a read
pub record Went (known left : Option (List ℕ)) (grown : List ℕ) (offset used : ℕ) (end : End)
    (old now : Option (List ℕ)) : Type 0 where
  pub seen : List ℕ
  pub lines : List ℕ
  pub sees : Consumes known left seen
  pub shows : Shows seen (drop used grown) lines
  pub place : (offset + used) + length (drop used grown) ≡ length seen
  pub ends : EndsAt end (drop used grown) lines old now

-- an end with some lines is, with the lines that were printed before, an end too
ends_later : (end : End) (rest before lines : List ℕ) (old mid new : Option (List ℕ))
    → Appends old mid before → EndsAt end rest lines mid new
    → EndsAt end rest (before ++ lines) old new
ends_later ends.More rest before lines old mid new done h =
    (h.0, Appends-trans old mid new before lines done h.1)
ends_later ends.Malformed rest before lines old mid new done h =
    (h.0, Appends-trans old mid new before lines done h.1)
ends_later ends.Memory rest before lines old mid new done h =
    Appends-trans old mid new before lines done h
ends_later ends.Output rest before lines old mid new done h =
    prints_more old mid new before lines done h

-- a piece that was read and printed is one step
pub went_on : (known left left2 : Option (List ℕ)) (buffer more : List ℕ) (offset used : ℕ)
    (end : End) (old now new : Option (List ℕ))
    → Going known left buffer offset old now → Consumes left left2 more
    → PrintsWhole (buffer ++ more) used end now new
    → Went known left2 (buffer ++ more) offset used end old new
went_on known left left2 buffer more offset used end old now new going reads prints = record {
  seen = going.seen ++ more;
  lines = going.lines ++ prints.lines;
  sees = Consumes-trans known left left2 going.seen more going.sees reads;
  shows = shows_trans (going.seen ++ more) (buffer ++ more) (drop used (buffer ++ more)) going.lines
      prints.lines
      (shows_extend going.seen buffer going.lines more going.shows) prints.shows;
  place = omega (
    arith,
    going.place,
    prints.within,
    length-append buffer more,
    length-append going.seen more,
    length-drop used (buffer ++ more),
  );
  ends = ends_later end (drop used (buffer ++ more)) going.lines prints.lines old now new
      going.printed prints.ends;
}

-- after a step whose lines are whole the listing goes on
pub goes_on : (known left : Option (List ℕ)) (grown : List ℕ) (offset used : ℕ)
    (old now : Option (List ℕ))
    → Went known left grown offset used ends.More old now
    → Going known left (drop used grown) (offset + used) old now
goes_on known left grown offset used old now went = record {
  seen = went.seen;
  lines = went.lines;
  sees = went.sees;
  shows = went.shows;
  over = went.ends.0;
  printed = went.ends.1;
  place = went.place;
}

-- the bytes that were consumed of an input are a beginning of that input
is_seen : (known left : Option (List ℕ)) (seen : List ℕ) → Consumes known left seen
    → IsSeen known seen
is_seen None left seen h = tt
is_seen (Some x) None seen h = absurd h
is_seen (Some x) (Some y) seen h = (y, h)

-- the fault of what was read ends it at the rest, with the lines so far
faulty : (known : Option (List ℕ)) (seen rest lines : List ℕ) (offset : ℕ) (end : End)
    (place : Option ℕ) (fault : PrintFault) (old now : Option (List ℕ))
    → EndsAt end rest lines old now → IfSome place (λ p. p + length rest ≡ length seen)
    → outcome end place ≡ Err fault
    → Ends known (Err fault) seen rest lines old now
faulty known seen rest lines offset ends.More (Some p) fault old now h at is = absurd (cc)
faulty known seen rest lines offset ends.More None fault old now h at is =
    subst (λ (r : Result ℕ PrintFault). Ends known r seen rest lines old now) is h.1
faulty known seen rest lines offset ends.Malformed (Some p) fault old now h at is =
    subst (λ (r : Result ℕ PrintFault). Ends known r seen rest lines old now) is (h.0, at, h.1)
faulty known seen rest lines offset ends.Malformed None fault old now h at is =
    subst (λ (r : Result ℕ PrintFault). Ends known r seen rest lines old now) is h.1
faulty known seen rest lines offset ends.Memory place fault old now h at is =
    subst (λ (r : Result ℕ PrintFault). Ends known r seen rest lines old now) is h
faulty known seen rest lines offset ends.Output place fault old now h at is =
    subst (λ (r : Result ℕ PrintFault). Ends known r seen rest lines old now) is h

-- a step that ends early ends the listing with its fault
pub stops : (known left : Option (List ℕ)) (grown : List ℕ) (offset used : ℕ) (end : End)
    (place : Option ℕ) (fault : PrintFault) (old now : Option (List ℕ))
    → Went known left grown offset used end old now → IfSome place (λ p. p ≡ offset + used)
    → outcome end place ≡ Err fault
    → PrintsInput known (Err fault) old now
stops known left grown offset used end place fault old now went at is = record {
  seen = went.seen;
  rest = drop used grown;
  lines = went.lines;
  begins = is_seen known left went.seen went.sees;
  shows = went.shows;
  ends = faulty known went.seen (drop used grown) went.lines offset end place fault old now
      went.ends (placed place at) is;
}
  where
    placed : (place : Option ℕ) → IfSome place (λ p. p ≡ offset + used)
        → IfSome place (λ p. p + length (drop used grown) ≡ length went.seen)
    placed None at = tt
    placed (Some p) at = ap (λ (n : ℕ). n + length (drop used grown)) at ∙ went.place

-- a fault between steps ends the listing
pub stopped : (known left : Option (List ℕ)) (buffer : List ℕ) (offset : ℕ)
    (old now : Option (List ℕ)) (fault : PrintFault)
    → Going known left buffer offset old now
    → ((s r l : List ℕ) → Appends old now l → Ends known (Err fault) s r l old now)
    → PrintsInput known (Err fault) old now
stopped known left buffer offset old now fault going ends = record {
  seen = going.seen;
  rest = buffer;
  lines = going.lines;
  begins = is_seen known left going.seen going.sees;
  shows = going.shows;
  ends = ends going.seen buffer going.lines going.printed;
}

-- all of the input was seen
whole : (known left last : Option (List ℕ)) (seen : List ℕ) → Consumes known left seen
    → Consumes left last [] → IsAtEnd last
    → IfSome known (λ input. input ≡ seen)
whole None left last seen one two end = tt
whole (Some x) None last seen one two end = absurd one
whole (Some x) (Some y) None seen one two end = absurd two
whole (Some x) (Some y) (Some z) seen one two end =
    one ∙ ap (λ (l : List ℕ). seen ++ l) (two ∙ end) ∙ append-nil seen

-- printing a buffer that was read goes on from what was read and printed before
went : (known left left2 : Option (List ℕ)) (buffer grown : List ℕ) (offset : ℕ)
    (result : Result (List ℕ × ℕ) PrintFault) (old now new : Option (List ℕ)) (more : Bool)
    → Going known left buffer offset old now → ReadsMore more left left2 buffer grown
    → (prints : PrintsMore grown offset result now new)
    → Went known left2 grown offset prints.used prints.end old new
went known left left2 buffer grown offset result old now new more going reads prints =
    subst (λ (l : List ℕ). Went known left2 l offset prints.used prints.end old new) (sym reads.2)
    (went_on known left left2 buffer reads.0 offset prints.used prints.end old now new going reads.1
    (subst (λ (l : List ℕ). PrintsWhole l prints.used prints.end now new) reads.2 prints.whole))

-- reading goes on if the outcome is an offset
goes : (known left : Option (List ℕ)) (grown : List ℕ) (offset used : ℕ) (end : End)
    (place : Option ℕ) (p : ℕ) (old now : Option (List ℕ))
    → Went known left grown offset used end old now → IfSome place (λ q. q ≡ offset + used)
    → outcome end place ≡ Ok p
    → Going known left (drop used grown) p old now
goes known left grown offset used ends.More (Some q) p old now went at is =
    subst (λ (n : ℕ). Going known left (drop used grown) n old now) (sym at ∙ same q p is)
    (goes_on known left grown offset used old now went)
  where
    same : (q p : ℕ) → outcome ends.More (Some q) ≡ Ok p → q ≡ p
    same q p e = cc
goes known left grown offset used ends.More None p old now went at is = absurd (cc)
goes known left grown offset used ends.Malformed (Some q) p old now went at is = absurd (cc)
goes known left grown offset used ends.Malformed None p old now went at is = absurd (cc)
goes known left grown offset used ends.Memory place p old now went at is = absurd (cc)
goes known left grown offset used ends.Output place p old now went at is = absurd (cc)

-- the rest of the bytes and the offset after success
abbrev ok_of : Result (List ℕ × ℕ) PrintFault → List ℕ × ℕ
ok_of (Ok x) = x
ok_of (Err e) = ([], 0)

-- the next buffer and offset
pub more_goes : (known left left2 : Option (List ℕ)) (buffer grown rest : List ℕ) (offset p : ℕ)
    (old now new : Option (List ℕ)) (more : Bool)
    → Going known left buffer offset old now → ReadsMore more left left2 buffer grown
    → PrintsMore grown offset (Ok (rest, p)) now new
    → Going known left2 rest p old new
more_goes known left left2 buffer grown rest offset p old now new more going reads prints =
    by (outcome prints.end prints.place) refl prints.left
  where
    made : Went known left2 grown offset prints.used prints.end old new
    made =
        went known left left2 buffer grown offset (Ok (rest, p)) old now new more going reads prints

    by : (r : Result ℕ PrintFault) → outcome prints.end prints.place ≡ r
        → IsLeft r (drop prints.used grown) (Ok (rest, p)) → Going known left2 rest p old new
    by (Err fault) is e = absurd (cc)
    by (Ok q) is (inr e) = absurd (cc)
    by (Ok q) is (inl e) =
        subst (λ (x : List ℕ × ℕ). Going known left2 x.0 x.1 old new) (sym (ap ok_of e))
        (goes known left2 grown offset prints.used prints.end prints.place q old new made prints.at
        is)

-- the fault after an error
abbrev err_of : Result (List ℕ × ℕ) PrintFault → PrintFault
err_of (Ok x) = CannotRead
err_of (Err e) = e

-- a fault ends the printing
pub more_stops : (known left left2 : Option (List ℕ)) (buffer grown : List ℕ) (offset : ℕ)
    (fault : PrintFault) (old now new : Option (List ℕ)) (more : Bool)
    → Going known left buffer offset old now → ReadsMore more left left2 buffer grown
    → PrintsMore grown offset (Err fault) now new
    → PrintsInput known (Err fault) old new
more_stops known left left2 buffer grown offset fault old now new more going reads prints =
    by (outcome prints.end prints.place) refl prints.left
  where
    made : Went known left2 grown offset prints.used prints.end old new
    made = went known left left2 buffer grown offset (Err fault) old now new more going reads prints

    by : (r : Result ℕ PrintFault) → outcome prints.end prints.place ≡ r
        → IsLeft r (drop prints.used grown) (Err fault) → PrintsInput known (Err fault) old new
    by (Err why) is e =
        subst (λ (f : PrintFault). PrintsInput known (Err f) old new) (sym (ap err_of e))
        (stops known left2 grown offset prints.used prints.end prints.place why old new made
        prints.at is)
    by (Ok q) is (inl e) = absurd (cc)
    by (Ok q) is (inr e) =
        subst (λ (f : PrintFault). PrintsInput known (Err f) old new) (sym (ap err_of e))
        (stopped known left2 (drop prints.used grown) q old new Memory
        (goes known left2 grown offset prints.used prints.end prints.place q old new made prints.at
        is) (λ s r l h.
        h))

-- a fault of a read ends the printing
pub read_stops : (known left : Option (List ℕ)) (buffer : List ℕ) (offset : ℕ) (fault : PrintFault)
    (old now : Option (List ℕ))
    → Going known left buffer offset old now → IsReadFault fault
    → PrintsInput known (Err fault) old now
read_stops known left buffer offset fault old now going (inl e) =
    subst (λ (f : PrintFault). PrintsInput known (Err f) old now) (sym e)
    (stopped known left buffer offset old now CannotRead going (λ s r l h. h))
read_stops known left buffer offset fault old now going (inr e) =
    subst (λ (f : PrintFault). PrintsInput known (Err f) old now) (sym e)
    (stopped known left buffer offset old now Memory going (λ s r l h. h))
