use Rattle.std.proofs.Common.{nat_lt, rules}
use borrow.Author.Tests.{tests}
use Rattle.std.proofs.lemmas.List.Sorted.{answers_always}
use Rattle.tk_vector.proofs.EntriesLaws.{is_rising}
use Rattle.tk_vector.proofs.bytes.is_rising.Goals as goal

pub returns : goal.returns
returns c = is_rising c.args.entries.now _
    (c.is_sorted_by.ensures.cases (λ one next. nat_lt one.0 next.0)
    (answers_always _ _ _ (λ f a r f' called. search (rules, tests))))
