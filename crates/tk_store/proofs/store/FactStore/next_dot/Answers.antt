use Rattle.std.proofs.Common.{ap, ◌∙◌}
use Rattle.std.specs.FinMap as sets
use Rattle.tk_store.specs.StoreFields.{StoreFields}
use Rattle.tk_store.specs.NextDot as next
use Rattle.tk_store.proofs.NextDotLaws.{next_dot_there}
use Rattle.tk_store.proofs.store.FactStore.next_dot.Goals as goal

pub returns : goal.returns
returns c =
    let last = c.last_serial.ensures.value
    ∙ ap (λ (P : StoreFields). next.last_serial c.args.region (sets.entries P.slots))
    c.self.view_is in
    next_dot_there c.args.self.now.slots c.args.region c.last_serial.result c.new.result last
    c.new.ensures
