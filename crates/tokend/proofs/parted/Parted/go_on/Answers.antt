use Rattle.std.proofs.Common.{rules}
use Rattle.tokend.proofs.PartLaws.{turned}
use Rattle.tokend.proofs.parted.Parted.go_on.Goals as goal

pub returns-in-Some-make-clause-kept : goal.returns-in-Some-make-clause-kept
returns-in-Some-make-clause-kept g c =
    turned (g.P.Parts.closed c.args.self.now.parts) (g.F.Write.contents c.args.self.now.file)
    (g.P.Parts.closed c.close.new.self) (g.F.Write.contents c.replace.new.dest)
    (search rules) (search rules)
