use Rattle.std.proofs.Common.{◌≡◌, true, take, map}
use Rattle.std.specs.List.{list_all}
use Rattle.tk_match.specs.Redirects.{is_uri}
use Rattle.tk_match.proofs.redirects.read_each.Given as goal

abbrev pub invariant-loop-text : goal.invariant-loop-text
invariant-loop-text l = record {
  read : l.uris.items ≡ map (λ x. x.now) (take l.text-index l.texts);
  kept : list_all is_uri (map (λ x. x.now) (take l.text-index l.texts)) ≡ true;
}
