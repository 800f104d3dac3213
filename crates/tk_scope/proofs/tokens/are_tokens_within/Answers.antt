use Rattle.std.proofs.Common.{lit<, rules, bytes_eq}
use Rattle.std.specs.List.{list_any}
use borrow.Author.Tests.{tests}
use Rattle.std.proofs.lemmas.Iterator.Search.{all_from_yields_List}
use Rattle.std.proofs.lemmas.Iterator.Splits.{YieldsList-from_str_split}
use Rattle.tk_scope.specs.Scope.{tokens_of}
use Rattle.tk_scope.proofs.tokens.are_tokens_within.Goals as goal

pub returns : goal.returns
returns c = all_from_yields_List (λ t. list_any (bytes_eq t) (tokens_of c.args.other.now)) _ _ _
    c.all.ensures.ran
    (YieldsList-from_str_split 0x20 c.args.text.now (lit< tt) c.split.ensures.text
    c.split.ensures.has_more c.split.ensures.pattern) (λ x b q k.
    search (rules, tests))
