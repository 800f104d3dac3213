use Rattle.std.proofs.Common.{◌≡◌, ◌++◌, take, codes}
use Rattle.std.specs.List.{flat_map}
use Rattle.tk_listing.specs.Members.{quoted}
use Rattle.tk_listing.proofs.members.put_more.Given as goal

abbrev pub invariant-loop-uri : goal.invariant-loop-uri
invariant-loop-uri l =
    l.writer ≡ l.fn.writer ++ flat_map (λ text. codes "," ++ quoted text) (take l.uri-index l.uris)
