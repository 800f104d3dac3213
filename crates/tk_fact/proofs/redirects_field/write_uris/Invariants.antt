use Rattle.std.proofs.Common.{◌≡◌, ◌++◌, take}
use Rattle.std.specs.List.{flat_map}
use Rattle.tk_format.specs.Format.{text}
use Rattle.tk_fact.proofs.redirects_field.write_uris.Given as goal

abbrev pub invariant-loop-uri : goal.invariant-loop-uri
invariant-loop-uri l = l.writer ≡ l.fn.writer ++ flat_map text.spell (take l.uri-index l.uris)
