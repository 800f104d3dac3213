use Rattle.std.proofs.Common.{lit<, rules}
use borrow.Author.Tests.{tests}
use Rattle.std.proofs.lemmas.Iterator.Search.{all_from_yields_List}
use Rattle.std.proofs.lemmas.Iterator.Splits.{YieldsList-from_str_split}
use Rattle.tk_scope.specs.Scope.{is_token}
use Rattle.tk_scope.proofs.grammar.is_list_of_tokens.Goals as goal

pub returns : goal.returns
returns c = all_from_yields_List is_token _ _ _ c.all.ensures.ran
    (YieldsList-from_str_split 0x20 c.args.text.now (lit< tt) c.split.ensures.text
    c.split.ensures.has_more c.split.ensures.pattern) (λ x b q k.
    search (rules, tests))
