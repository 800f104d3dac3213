use Rattle.std.proofs.Common.{subst, Option, refl}
use Rattle.tk_handle.specs.declared.dot.Dot.{Dot}
use Rattle.tk_dots.specs.Marks.{marked}
use Rattle.tk_dots.specs.Runs.{IsNextIn}
use Rattle.tk_dots.proofs.MarkWalkLaws.{next_mark, next_place, next_mark_alone, next_none}
use Rattle.tk_dots.proofs.MarkWalkLaws.{next_copied}
use Rattle.tk_dots.proofs.marks.next_of.Goals as goal

pub returns-in-Some-mark_below : goal.returns-in-Some-mark_below
returns-in-Some-mark_below g c = next_mark c.args.pages.now c.args.runs.now
    (marked c.args.pages.now c.args.runs.now) refl c.requires.apart c.args.after
    c.in-Some-mark_below.marked
    (c.in-Some.next.0, c.in-Some.next.1.now)
    (subst (λ (o : Option Dot). IsNextIn c.args.runs.now c.args.after o)
    c.in-Some-mark_below.ensures.0 c.requires.mark) c.in-Some.ensures c.in-Some-mark_below.ensures.1

pub returns-in-None-mark_below : goal.returns-in-None-mark_below
returns-in-None-mark_below g c = next_copied (marked c.args.pages.now c.args.runs.now) c.args.after
    c.in-Some.next.0 c.in-Some.next.1.now _ c.as_ref.ensures.value
    (next_place c.args.pages.now c.args.runs.now (marked c.args.pages.now c.args.runs.now) refl
    c.requires.apart c.args.after c.args.mark (c.in-Some.next.0, c.in-Some.next.1.now)
    c.requires.mark c.in-Some.ensures c.in-None-mark_below.ensures)

pub returns-in-Some-mark : goal.returns-in-Some-mark
returns-in-Some-mark g c = next_mark_alone c.args.pages.now c.args.runs.now
    (marked c.args.pages.now c.args.runs.now) refl c.requires.apart c.args.after
    c.in-Some-mark.marked
    (subst (λ (o : Option Dot). IsNextIn c.args.runs.now c.args.after o) c.in-Some-mark.is
    c.requires.mark) c.in-None.ensures

pub returns-in-None-mark : goal.returns-in-None-mark
returns-in-None-mark g c = next_none c.args.pages.now c.args.runs.now
    (marked c.args.pages.now c.args.runs.now) refl c.requires.apart c.args.after
    (subst (λ (o : Option Dot). IsNextIn c.args.runs.now c.args.after o) c.in-None-mark.is
    c.requires.mark) c.in-None.ensures
