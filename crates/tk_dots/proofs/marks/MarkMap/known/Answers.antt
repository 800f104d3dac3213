use Rattle.std.proofs.Common.{inl, inr, IsSome, subst}
use Rattle.std.proofs.lemmas.Bool.{cases_Bool}
use Rattle.std.specs.FinSet as set
use Rattle.tk_dots.proofs.MarkLaws.{at_page}
use Rattle.tk_dots.proofs.marks.MarkMap.known.Goals as goal

pub returns : goal.returns
returns g c = λ d some. elim (cases_Bool (set.contains c.self.inside.runs d)) [
  | inl on ↦ c.known-2.ensures d on
  | inr off ↦ c.known.ensures d
      (subst IsSome
      (at_page c.self.inside.pages c.self.inside.runs c.args.self.now c.self.view_is d off) some)
]
