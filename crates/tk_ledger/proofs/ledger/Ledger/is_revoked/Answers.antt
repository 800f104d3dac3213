use Rattle.std.proofs.Common.{ap, ◌∙◌}
use Rattle.tk_store.specs.StoreFields.{held_facts}
use Rattle.tk_ledger.specs.Tokens.{is_revoked}
use Rattle.tk_ledger.proofs.RevocationLaws.{has_revocation_is}
use Rattle.tk_ledger.proofs.ledger.Ledger.is_revoked.Goals as goal

pub returns-clause-value : goal.returns-clause-value
returns-clause-value c =
    c.is_revoked.ensures
    ∙ has_revocation_is (held_facts c.self.inside.store) c.self.inside.index.revocations
    c.args.token.now c.args.digest.now c.args.client c.self.invariant.revocations_are
    ∙ ap (λ F. is_revoked F c.args.token.now c.args.digest.now c.args.client)
    (ap held_facts c.self.view_is)
