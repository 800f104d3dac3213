-- Regions whose facts are within one set agree. Key result: all_agree.
use Rattle.std.proofs.Common.{ℕ, Option, Some, None, unwrap_or, sym, ap, ◌∙◌}
use Rattle.std.specs.FinMap as map
use Rattle.tk_handle.specs.Dot.{dot_cmp}
use Rattle.tk_store.specs.FactSet.{Agree, IsSubset}
use Rattle.tk_store.specs.Slots.{held_slot}
use Rattle.tk_store.specs.StoreFields.{StoreFields, empty_store, held_facts}
use Rattle.tk_store.proofs.PutLaws.{some_injective, none_is_not_some}
use Rattle.tk_store.proofs.SlotLaws.{get_held}
use Rattle.tk_retention.proofs.StandingLaws.{held_made}
use Rattle.tk_world.specs.State.{Kept}
use Rattle.tk_world.specs.WorldFields.{WorldFields, store_in}
use Rattle.tk_world.specs.WorldStands.{RegionFor, IsStanding}

-- the facts that a region holds are within the set
facts_below : (w : WorldFields) (standing : IsStanding w) (r : ℕ)
    → IsSubset (held_facts (store_in w r)) standing.0
facts_below w standing r =
    below (map.get w.regions r) (map.get standing.1.regions r) (standing.2.regions r)
  where
    below : (o : Option StoreFields) (k : Option Kept) → RegionFor standing.0 o k
        → IsSubset (held_facts (unwrap_or o empty_store)) standing.0
    below None None x d b h = absurd
        (none_is_not_some b
        (sym (get_held empty_store.slots d ∙ ap held_slot (map.get-empty dot_cmp d)) ∙ h))
    below None (Some k) x d b h = absurd x
    below (Some P) None x d b h = absurd x
    below (Some P) (Some k) x d b h = held_made P standing.0 k.facts x.0 d b h

-- no two regions of a world hold two facts at one dot
pub all_agree : (w : WorldFields) → IsStanding w → (q r : ℕ)
    → Agree (held_facts (store_in w q)) (held_facts (store_in w r))
all_agree w standing q r d b c here there =
    some_injective b c
    (sym (facts_below w standing q d b here) ∙ facts_below w standing r d c there)
