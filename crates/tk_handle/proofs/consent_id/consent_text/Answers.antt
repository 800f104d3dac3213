use Rattle.std.proofs.Common.{rules}
use Rattle.tk_handle.proofs.consent_id.consent_text.Goals as goal

pub returns : goal.returns
returns c = search rules
