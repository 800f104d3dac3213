-- The status of a handle by the store of a set of facts. Key results:
--   whole_status   it is that by the facts
use Rattle.std.proofs.Common.{◌≡◌, ℕ, false, cond, Option, None, Some, option_map, refl, ap, ◌∙◌}
use Rattle.std.specs.FinMap as map
use Rattle.tk_handle.specs.declared.handle.Handle.{Handle}
use Rattle.tk_fact.specs.declared.body.Body.{Body}
use Rattle.tk_store.specs.FactSet.{FactSet}
use Rattle.tk_store.specs.Slots.{Held, is_skipped_slot}
use Rattle.tk_store.specs.StoreFields.{held_facts}
use Rattle.tk_store.specs.WholeStores.{whole_store}
use Rattle.tk_store.proofs.WholeStoreLaws.{get_whole_store, held_whole_store}
use Rattle.tk_ledger.specs.Status.{status_here, status_in}
use Rattle.tk_ledger.specs.declared.status.Status.TheVariants.{Wrong}

-- no dot is skipped in the store of a set of facts
unskipped : (o : Option Body) → is_skipped_slot (option_map Held o) ≡ false
unskipped None = refl
unskipped (Some b) = refl

-- the status of a handle by the whole store of a set of facts is that by the facts
pub whole_status : (F : FactSet) (now : ℕ) (h : Handle)
    → status_here (whole_store F) now h ≡ status_in F now h
whole_status F now h =
    ap (λ t. cond t Wrong (status_in (held_facts (whole_store F)) now h))
    (ap is_skipped_slot (get_whole_store F h.id.dot) ∙ unskipped (map.get F h.id.dot))
    ∙ ap (λ (G : FactSet). status_in G now h) (held_whole_store F)
