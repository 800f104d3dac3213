use Rattle.tokend.proofs.listen.put_path.Goals as goal

pub returns : goal.returns
returns g c = rw c.as_bytes.ensures.value at c.put_and_flush.ensures
