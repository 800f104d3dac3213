use Rattle.std.proofs.Common.{◌≡◌, ap, sym, ◌∙◌}
use Rattle.tk_store.specs.StoreFields.{held_facts}
use Rattle.tk_ledger.specs.Tokens.{is_revoked}
use Rattle.tk_ledger.proofs.RevocationLaws.{has_revocation_is}
use Rattle.tk_ledger.proofs.TokenLaws.{is_revoked-sound, is_revoked-complete}
use Rattle.tk_ledger.proofs.ledger.Ledger.revoked.Goals as goal

pub returns-clause-value : goal.returns-clause-value
returns-clause-value c =
    c.is_revoked.ensures
    ∙ has_revocation_is (held_facts c.self.inside.store) c.self.inside.index.revocations
    c.args.token.now c.args.digest.now c.args.client c.self.invariant.revocations_are
    ∙ ap (λ F. is_revoked F c.args.token.now c.args.digest.now c.args.client)
    (ap held_facts c.self.view_is)

pub returns-clause-meaning : goal.returns-clause-meaning
returns-clause-meaning c =
    let value : c.is_revoked.result
    ≡ is_revoked (held_facts c.args.self.now) c.args.token.now c.args.digest.now c.args.client =
    c.is_revoked.ensures
    ∙ has_revocation_is (held_facts c.self.inside.store) c.self.inside.index.revocations
    c.args.token.now c.args.digest.now c.args.client c.self.invariant.revocations_are
    ∙ ap (λ F. is_revoked F c.args.token.now c.args.digest.now c.args.client)
    (ap held_facts c.self.view_is) in (
      λ revoked. is_revoked-sound (held_facts c.args.self.now) c.args.token.now c.args.digest.now
          c.args.client (sym value ∙ revoked),
      λ revoked. value
          ∙ is_revoked-complete (held_facts c.args.self.now) c.args.token.now c.args.digest.now
          c.args.client revoked,
    )
