use Rattle.tk_ledger.proofs.BeginningLaws.{empty_indexed}
use Rattle.tk_ledger.proofs.index.Index.new.Goals as goal

pub returns : goal.returns
returns c = empty_indexed _ c.new.ensures.empty c.new-2.ensures.empty c.new-3.ensures.empty
    c.new-4.ensures.empty c.new-5.ensures.empty c.new-6.ensures.empty c.new-7.ensures.empty
    c.new-8.ensures.empty c.new-9.ensures.empty c.new-10.ensures.links
