use Rattle.std.proofs.Common.{refl}
use Rattle.tk_family.specs.Children.{others_in}
use Rattle.tk_family.specs.Rows.{table}
use Rattle.tk_family.proofs.HangLaws.{Hangs-seen}
use Rattle.tk_family.proofs.Taking.{Takes-seen}
use Rattle.tk_family.proofs.take.take_at.Goals as goal

pub returns-clause-hung : goal.returns-clause-hung
returns-clause-hung c = Hangs-seen (table c.take_link.new.rows) (table c.drop_blanks.new.rows)
    (others_in c.take_link.new.others) (others_in c.take_link.new.others) c.drop_blanks.ensures.same
    (λ k e. refl) c.take_link.ensures.hung

pub returns-clause-takes : goal.returns-clause-takes
returns-clause-takes c = Takes-seen (table c.args.rows.now) (table c.take_link.new.rows)
    (table c.drop_blanks.new.rows) c.args.dot c.take_link.ensures.takes c.drop_blanks.ensures.same
