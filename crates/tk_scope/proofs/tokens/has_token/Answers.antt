use Rattle.std.proofs.Common.{lit<, rules, bytes_eq}
use borrow.Author.Tests.{tests}
use Rattle.std.proofs.lemmas.Iterator.Search.{any_from_yields_List}
use Rattle.std.proofs.lemmas.Iterator.Splits.{YieldsList-from_str_split}
use Rattle.tk_scope.proofs.tokens.has_token.Goals as goal

pub returns : goal.returns
returns c = any_from_yields_List (bytes_eq c.args.token.now) _ _ _ c.any.ensures.ran
    (YieldsList-from_str_split 0x20 c.args.text.now (lit< tt) c.split.ensures.text
    c.split.ensures.has_more c.split.ensures.pattern) (λ x b q k.
    search (rules, tests))
