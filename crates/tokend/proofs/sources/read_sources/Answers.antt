use Rattle.std.proofs.Common.{ap, map, string_bytes, codes, ◌∙◌}
use Rattle.clap.specs.Words.{found_of}
use Rattle.tokend.proofs.FactsLaws.{none_named, some_named}
use Rattle.tokend.proofs.sources.read_sources.Goals as goal

pub returns-in-Ok : goal.returns-in-Ok
returns-in-Ok c =
    c.in-Ok.ensures
    ∙ some_named (found_of c.args.matches.now) (codes "file") c.get_strs.result c.in-Some.names
    c.in-Some.is c.get_strs.ensures

pub returns-in-None : goal.returns-in-None
returns-in-None c =
    ap (map string_bytes) c.new.ensures.items
    ∙ none_named (found_of c.args.matches.now) (codes "file") c.get_strs.result c.in-None.is
    c.get_strs.ensures
