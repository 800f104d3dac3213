use Rattle.std.proofs.Common.{◌≡◌, take}
use Rattle.tk_match.proofs.redirects.copied.Given as goal

abbrev pub invariant-loop-uri : goal.invariant-loop-uri
invariant-loop-uri l = l.copies.items ≡ take l.uri-index l.uris
