use Rattle.tk_ledger.proofs.SubjectKeyLaws.{outs_forward}
use Rattle.tk_ledger.proofs.sign_outs.last_key.Goals as goal

pub range-requires : goal.range-requires
range-requires c = outs_forward c.subject_digest.result c.out_span-first.result.0
    c.out_span-first.result.1 c.out_span-first.ensures.first c.out_span-first.ensures.last
