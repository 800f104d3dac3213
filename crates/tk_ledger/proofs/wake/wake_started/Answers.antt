use Rattle.std.proofs.Common.{Bool, ◌&&◌, ap}
use Rattle.std.proofs.lemmas.Bool.{le-leb}
use Rattle.std.specs.Prelude.{nat_le}
use Rattle.tk_family.specs.Dots.{has}
use Rattle.tk_store.specs.StoreFields.{held_facts}
use Rattle.tk_ledger.specs.SubjectTables.{codes_started, dots_of}
use Rattle.tk_ledger.proofs.WakeLaws.{wakes_as}
use Rattle.tk_ledger.proofs.wake.wake_started.Goals as goal

pub returns-then-first-last : goal.returns-then-first-last
returns-then-first-last c =
    wakes_as (held_facts c.args.facts.now) c.args.forest.now c.wake_codes.new.forest
    (has (dots_of (codes_started c.args.codes.now c.args.prefix c.args.first c.args.last)))
    (λ q. nat_le c.args.first c.args.last
    && has (dots_of (codes_started c.args.codes.now c.args.prefix c.args.first c.args.last)) q)
    (λ q. ap (λ (b : Bool).
    b && has (dots_of (codes_started c.args.codes.now c.args.prefix c.args.first c.args.last))
    q) (le-leb c.args.first c.args.last c.if-first-last.true))
    c.wake_codes.ensures
