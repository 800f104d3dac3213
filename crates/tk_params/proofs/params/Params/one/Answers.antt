use Rattle.std.proofs.Common.{sym, subst}
use Rattle.std.specs.Prelude.{All}
use Rattle.tk_params.specs.Places.{IsPlace}
use Rattle.tk_params.proofs.params.Params.one.Goals as goal

pub find_one-requires : goal.find_one-requires
find_one-requires c =
    subst (λ text. All (IsPlace text) c.deref-2.result.now) (sym c.deref.ensures.value)
    (subst (λ places. All (IsPlace c.self.inside.text.items) places) (sym c.deref-2.ensures.value)
    c.self.invariant)
