use Rattle.std.proofs.Common.{rules}
use Rattle.tk_format.specs.Format.{bytes_at}
use Rattle.tk_format.proofs.reader.Reader.take_magic.Goals as goal

pub returns-clause-read : goal.returns-clause-read
unfolding bytes_at
returns-clause-read c = search rules
