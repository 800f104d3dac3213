use Rattle.std.proofs.Common.{arith}
use Rattle.tk_handle.proofs.HandleLaws.{words_fit}
use Rattle.tk_handle.proofs.handle.known_words.Goals as goal

pub returns : goal.returns
returns c = words_fit c.args.words.now (λ i. omega (arith, c.type_inv.words i))
