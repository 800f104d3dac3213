use Rattle.std.proofs.Common.{rules}
use Rattle.std.proofs.lemmas.List.Sorted.{answers_always}
use Rattle.tk_world.proofs.RegionLaws.{searched_entries}
use Rattle.tk_world.proofs.world.find_region.Goals as goal

pub returns : goal.returns
returns c =
    let by_key = c.binary_search_by_key.ensures.position (λ edge. edge.region.number)
    (answers_always _ _ _ (λ f a r g called. search rules)) in
    searched_entries c.args.regions.now c.requires c.args.number c.binary_search_by_key.result
    c.binary_search_by_key.ensures.bound by_key
