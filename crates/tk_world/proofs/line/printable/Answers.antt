use Rattle.std.proofs.Common.{rules, arith}
use Rattle.std.specs.Str.{IsUtf8}
use Rattle.std.proofs.lemmas.Str.{IsUtf8-from_ascii}
use Rattle.std.proofs.lemmas.Str.Ascii.{IsAscii-from_all}
use Rattle.tk_world.specs.Line.{IsPrintable}
use Rattle.tk_world.proofs.line.printable.Goals as goal

pub returns-clause-printable : goal.returns-clause-printable
returns-clause-printable c =
    let plain : IsPrintable c.args.line.now = search rules in
    let utf8 : IsUtf8 c.args.line.now =
    IsUtf8-from_ascii _ (IsAscii-from_all _ (λ k d lt. let p = plain k d lt in omega arith)) in
    (λ _. plain, λ _. search rules)
