use Rattle.tk_family.specs.Rows.{table, links_of}
use Rattle.tk_family.proofs.Gathering.{Gathers-permuted}
use Rattle.tk_family.proofs.put.answer.Goals as goal

pub returns-clause-whole : goal.returns-clause-whole
returns-clause-whole c = λ _. Gathers-permuted (links_of (table c.args.rows.now)) c.args.dot
    c.args.link.now _ _ c.sort_unstable.ensures.permutation c.in_ok-dots.ensures
