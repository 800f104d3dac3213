use Rattle.std.proofs.Common.{None}
use Rattle.tk_ledger.proofs.SpanLaws.{span_forward}
use Rattle.tk_ledger.proofs.ledger.Ledger.first_key.Goals as goal

pub range-requires : goal.range-requires
range-requires c = span_forward c.subject_digest-digest.result None
    c.consents_from-first.result c.last_consent-last.result c.consents_from-first.ensures.value
    c.last_consent-last.ensures c.consents_from-first.ensures.ranged
