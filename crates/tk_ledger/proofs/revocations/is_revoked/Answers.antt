use Rattle.tk_ledger.proofs.RevocationLaws.{revocations_forward}
use Rattle.tk_ledger.proofs.revocations.is_revoked.Goals as goal

pub range-requires : goal.range-requires
range-requires c = revocations_forward c.args.token.now c.args.digest.now c.args.client
    c.revocation_span-first.result.0 c.revocation_span-first.result.1
    c.revocation_span-first.ensures.first c.revocation_span-first.ensures.last
