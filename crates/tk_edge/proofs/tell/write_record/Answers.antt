use Rattle.tk_edge.proofs.RecordLaws.{whole_kept}
use Rattle.tk_edge.proofs.tell.write_record.Goals as goal

pub returns-clause-bytes : goal.returns-clause-bytes
returns-clause-bytes g c =
    whole_kept c.flush.result _ _ _ _ c.in_ok-put_whole.ensures.bytes c.flush.ensures.bytes
