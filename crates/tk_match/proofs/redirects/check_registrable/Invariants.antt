use Rattle.std.proofs.Common.{◌≡◌, true, take}
use Rattle.std.specs.List.{list_all}
use Rattle.tk_match.specs.Redirects.{is_registrable}
use Rattle.tk_match.proofs.redirects.check_registrable.Given as goal

abbrev pub invariant-loop-uri : goal.invariant-loop-uri
invariant-loop-uri l = list_all is_registrable (take l.uri-index l.uris) ≡ true
