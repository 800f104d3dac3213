use Rattle.std.proofs.Common.{rules}
use Rattle.tk_message.proofs.place.Place.next_dot.Goals as goal

pub returns : goal.returns
returns c = search rules
