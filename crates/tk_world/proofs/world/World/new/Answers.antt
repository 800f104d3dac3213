use Rattle.std.proofs.Common.{◌≡◌, T, [], ap, sym, subst, ◌∙◌}
use Rattle.std.specs.Ordering.{nat_cmp}
use Rattle.std.specs.FinMap as map
use Rattle.tk_handle.proofs.SortedEntriesLaws.{from_sorted_nil}
use Rattle.tk_world.specs.Regions.{entries_of, HaveSettings}
use Rattle.tk_world.specs.State.{new_state}
use Rattle.tk_world.specs.WorldFields.{new_world}
use Rattle.tk_world.specs.WorldStands.{IsStanding, WorldStands}
use Rattle.tk_world.proofs.PartLaws.{fields_of, world}
use Rattle.tk_world.proofs.StandsLaws.{new_stands}
use Rattle.tk_world.proofs.world.World.new.Goals as goal

pub invariant_of-result : goal.invariant_of-result
invariant_of-result c = (
  subst (λ rs. T (map.is_sorted nat_cmp (entries_of rs))) (sym c.new.ensures.items) tt,
  subst (HaveSettings c.args.settings) (sym c.new.ensures.items) tt,
  subst (λ rs. IsStanding (world c.args.settings rs c.new-2.result.items)) (sym c.new.ensures.items)
      (subst (λ bs. IsStanding (fields_of c.args.settings [] bs)) (sym c.new-2.ensures.items)
      (subst (λ m. IsStanding (record { settings = c.args.settings; regions = m; bundles = [] }))
      (sym (from_sorted_nil nat_cmp)) (
        map.empty,
        new_state c.args.settings,
        new_stands c.args.settings c.cap-cap.ensures.range.1,
      ))),
)

-- the world of no edges and no bundles is a new one
is_new : (settings : _) (rs : _) (bs : _) → rs ≡ [] → bs ≡ []
    → world settings rs bs ≡ new_world settings
is_new settings rs bs none nothing =
    ap (λ x. world settings x bs) none ∙ ap (λ x. fields_of settings [] x) nothing
    ∙ ap (λ m. record { settings = settings; regions = m; bundles = [] }) (from_sorted_nil nat_cmp)

pub returns-clause-empty : goal.returns-clause-empty
returns-clause-empty c = is_new c.args.settings c.new.result.items c.new-2.result.items
    c.new.ensures.items c.new-2.ensures.items

pub returns-clause-stands : goal.returns-clause-stands
returns-clause-stands c =
    subst (λ w. WorldStands w map.empty (new_state c.args.settings))
    (sym (is_new c.args.settings c.new.result.items c.new-2.result.items c.new.ensures.items
    c.new-2.ensures.items))
    (new_stands c.args.settings c.cap-cap.ensures.range.1)
