use Rattle.std.proofs.Common.{rules}
use Rattle.tk_message.proofs.place.Place.new.Goals as goal

pub returns : goal.returns
returns c = search rules
