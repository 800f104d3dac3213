use Rattle.std.proofs.Common.{rules}
use Rattle.tk_match.proofs.AsciiTexts.{uri_utf8}
use Rattle.tk_match.proofs.uri.Uri.read.Goals as goal

pub unreachable-requires : goal.unreachable-requires
unreachable-requires c = search (rules, uri_utf8)

pub returns-clause-ok : goal.returns-clause-ok
returns-clause-ok c = search rules
