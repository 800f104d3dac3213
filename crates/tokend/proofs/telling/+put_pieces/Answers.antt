use Rattle.tokend.proofs.Tellings.{pieces_then}
use Rattle.tokend.proofs.telling.+put_pieces.Goals as goal

pub returns-in-Ok-clause-bytes : goal.returns-in-Ok-clause-bytes
returns-in-Ok-clause-bytes g t c =
    pieces_then c.put_pieces.result _ _ _ c.args.pieces.now _ c.in-len1-up.len_at_least
    c.in-Ok.ensures.bytes c.put_pieces.ensures.bytes
