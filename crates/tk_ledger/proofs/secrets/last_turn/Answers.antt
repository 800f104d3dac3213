use Rattle.std.proofs.Common.{ap, sym}
use Rattle.tk_ledger.specs.SecretTables.{turn_of}
use Rattle.tk_ledger.proofs.SecretKeyLaws.{client_forward}
use Rattle.tk_ledger.proofs.SecretLaws.{first_found}
use Rattle.tk_ledger.proofs.secrets.last_turn.Goals as goal

pub range-requires : goal.range-requires
range-requires c = client_forward c.args.client c.client_span-first.result.0
    c.client_span-first.result.1 c.client_span-first.ensures.first c.client_span-first.ensures.last

pub returns-in-Some-clause-value : goal.returns-in-Some-clause-value
returns-in-Some-clause-value c = ap turn_of
    (sym (first_found c.args.secrets.now c.args.client c.client_span-first.result.0
    c.client_span-first.result.1 c.in-Some.key.now c.range.result c.next.new.self
    c.client_span-first.ensures.first c.client_span-first.ensures.last (c.range.ensures.between tt)
    c.in-Some.ensures.steps))
