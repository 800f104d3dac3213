use Rattle.std.proofs.Common.{◌≤◌, length, rules}
use Rattle.tk_edge.specs.Heads.{head_limit}
use Rattle.tk_edge.proofs.FrontLaws.{full_none, headless_comes}
use Rattle.tk_edge.proofs.front.partial_front.Goals as goal

pub returns : goal.returns
returns c = λ reach.
    let full : head_limit ≤ length c.args.bytes.now = search rules in
    rw (c.headless_front-2.ensures) (headless_comes reach c.args.bytes.now c.args.is_over
    c.requires.some (λ tail follows. full_none c.args.bytes.now tail c.requires.none full))
