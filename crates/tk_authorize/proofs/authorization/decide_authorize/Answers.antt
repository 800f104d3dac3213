-- The URI that the decision leads to follows from which decision it is.
use Rattle.std.proofs.Common.{rules}
use Rattle.tk_store.specs.StoreFields.{held_facts}
use Rattle.tk_authorize.proofs.RedirectLaws.{decision_leads}
use Rattle.tk_authorize.proofs.authorization.decide_authorize.Goals as goal

pub returns-clause-leads : goal.returns-clause-leads
returns-clause-leads c =
    decision_leads (held_facts c.args.ledger.now) c.args.place.now c.args.now c.args.words.now
    c.args.request.now c.decide_by.result (search rules)
