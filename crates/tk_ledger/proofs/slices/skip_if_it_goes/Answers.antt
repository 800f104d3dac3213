use Rattle.std.proofs.Common.{sym, ap, subst, ◌∙◌}
use Rattle.std.proofs.lemmas.Bool.{true≢false}
use Rattle.std.specs.FinMap as map
use Rattle.std.specs.Option.{option_copied}
use Rattle.tk_store.specs.StoreFields.{held_facts}
use Rattle.tk_ledger.specs.Slices.{Goes}
use Rattle.tk_ledger.proofs.SkipLaws.{never_refused}
use Rattle.tk_ledger.proofs.SlicePassLaws.{go_known}
use Rattle.tk_ledger.proofs.TopLaws.{found_dot}
use Rattle.tk_ledger.proofs.slices.skip_if_it_goes.Goals.{in-Some, in-None}
use Rattle.tk_ledger.proofs.slices.skip_if_it_goes.Goals as goal

pub unreachable-requires : goal.unreachable-requires
unreachable-requires c = elim c.match-get.branch [
  | in-Some w ↦
      let at = found_dot c.args.dot (map.get (held_facts c.args.store.now) c.args.dot)
      w.in-Some.fact.now (sym (ap option_copied w.in-Some.is) ∙ c.get.ensures) in
      let go =
      subst (Goes c.args.store.now) at (w.goes-may.ensures.0 (sym w.may-is ∙ c.if-not-may.false)) in
      never_refused c.args.store.now c.skip_at.new.store c.args.dot c.in-Err.field-0
      (go_known c.args.store.now c.args.dot go) c.in-Err.ensures.skips
  | in-None w ↦ true≢false (sym c.if-not-may.false ∙ w.may-is)
]
