use Rattle.std.proofs.Common.{ap, refl, ◌∙◌, max, arith}
use Rattle.std.specs.FinMap as map
use Rattle.tk_store.specs.Slots.{with_slots}
use Rattle.tk_store.specs.StoreFields.{StoreFields}
use Rattle.tk_store.proofs.SlotOrderLaws.{is_join, joined_least, slots_trans}
use Rattle.tk_store.proofs.join.FactStoreJoin.join_from.Goals as goal

pub returns-in-Ok-clause-ok : goal.returns-in-Ok-clause-ok
returns-in-Ok-clause-ok c = is_join c.args.self.now c.args.other.now c.raise_horizon.new.self
    (c.if-not-agrees.ensures.0 refl)
    (ap (λ (P : StoreFields). P.slots) c.raise_horizon.ensures ∙ c.in-Ok.ensures.ok)
    (ap (λ (P : StoreFields). P.horizon) c.raise_horizon.ensures
    ∙ ap (λ n. max n c.horizon.result) c.take_all.ensures.horizon
    ∙ ap (max c.args.self.now.horizon) c.horizon.ensures)

pub returns-in-Err-clause-memory : goal.returns-in-Err-clause-memory
returns-in-Err-clause-memory c h = (
  c.if-not-agrees.ensures.0 refl,
  record {
    slots = c.take_all.ensures.above;
    horizon = let same = c.take_all.ensures.horizon in
        omega (arith, same);
  },
  λ R a b. record {
    slots = slots_trans c.take_all.new.self.slots
        (with_slots c.args.self.now.slots (map.entries c.args.other.now.slots)) R.slots
        c.take_all.ensures.below
        (joined_least c.args.self.now.slots c.args.other.now.slots R.slots a.slots b.slots);
    horizon = let same = c.take_all.ensures.horizon in
        let low = a.horizon in omega (arith, same, low);
  },
)
