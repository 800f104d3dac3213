use Rattle.std.proofs.Common.{◌-◌, suc, length, ap, arith}
use Rattle.tk_bundle.specs.PieceLaws.{length_marks}
use Rattle.tk_bundle.specs.Pieces as spec
use Rattle.tk_bundle.proofs.pieces.size_of.Goals as goal

pub returns-in-Marks : goal.returns-in-Marks
returns-in-Marks c =
    let size = length_marks c.in-Marks.first (suc (c.in-Marks.last - c.in-Marks.first.serial)) in
    let same = ap (λ p. length (spec.piece_items p)) c.in-Marks.is in
    omega (arith, size, same)
