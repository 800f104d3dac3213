use Rattle.std.proofs.Common.{◌≡◌, true, take}
use Rattle.std.specs.List.{list_all}
use Rattle.tk_match.specs.RedirectKinds.{is_listed}
use Rattle.tk_match.proofs.redirect_kinds.are_listed.Given as goal

abbrev pub invariant-loop-uri : goal.invariant-loop-uri
invariant-loop-uri l = list_all (is_listed l.kinds) (take l.uri-index l.uris) ≡ true
