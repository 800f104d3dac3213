use Rattle.std.proofs.Common.{rules, Some, None}
use Rattle.tk_match.proofs.PickLaws.{pick_matches}
use Rattle.tk_match.proofs.redirects.Redirects.pick.Goals as goal

pub returns-in-Some-clause-matches : goal.returns-in-Some-clause-matches
returns-in-Some-clause-matches c =
    pick_matches c.args.self.now (Some c.in-Some.sent.now) c.sent_uri.result (search rules)

pub returns-in-None-clause-matches : goal.returns-in-None-clause-matches
returns-in-None-clause-matches c =
    pick_matches c.args.self.now None c.only_uri.result (search rules)
