-- Slots of a list that fit what is known are joined to it. Key results:
--   fit_below    what was known of each dot is still known, or is skipped
--   fit_first    the first slots of a list that fits, fit
use Rattle.std.proofs.Common.{ℕ, zero, suc, List, [], ◌∷◌, take, Option, Some, None, subst, sym}
use Rattle.std.specs.FinMap as map
use Rattle.tk_handle.specs.declared.dot.Dot.{Dot}
use Rattle.tk_store.specs.Slots.{Slot, Slots, Held, Skipped, joined_slot, with_slots}
use Rattle.tk_store.specs.SlotOrder.{SlotBelow, SlotsBelow, SlotAgrees}
use Rattle.tk_store.specs.SlotJoining.{AllFit}
use Rattle.tk_store.proofs.SlotOrderLaws.{slots_itself}
use Rattle.tk_store.proofs.PutLaws.{by_dot}

-- a slot that agrees with what is known, joined to what is known by now
joined_above : (known now : Option Slot) (s : Slot) → SlotBelow known now
    → SlotAgrees known (Some s) → SlotBelow known (Some (joined_slot now s))
joined_above None now s below agrees = tt
joined_above (Some (Held b)) None s below agrees = absurd below
joined_above (Some (Held b)) (Some (Held c)) (Held e) below agrees = below
joined_above (Some (Held b)) (Some (Held c)) Skipped below agrees = agrees
joined_above (Some (Held b)) (Some Skipped) s below agrees = below
joined_above (Some Skipped) None s below agrees = absurd below
joined_above (Some Skipped) (Some (Held c)) s below agrees = absurd below
joined_above (Some Skipped) (Some Skipped) s below agrees = tt

-- what is below the slots stays below them with a list that fits joined to them
grown : (S T : Slots) (items : List (Dot × Slot)) → SlotsBelow S T → AllFit S items
    → SlotsBelow S (with_slots T items)
grown S T [] below fit = below
grown S T (i ∷ more) below fit =
    grown S (map.insert T i.0 (joined_slot (map.get T i.0) i.1)) more one fit.1
  where
    one : SlotsBelow S (map.insert T i.0 (joined_slot (map.get T i.0) i.1))
    one q = by_dot (λ o. SlotBelow (map.get S q) o) T i.0 (joined_slot (map.get T i.0) i.1) q
        (λ same. subst (λ d. SlotBelow (map.get S d) (Some (joined_slot (map.get T i.0) i.1)))
        (sym same)
        (joined_above (map.get S i.0) (map.get T i.0) i.1 (below i.0) fit.0)) (below q)

-- what was known of each dot is still known, or is skipped
pub fit_below : (S : Slots) (items : List (Dot × Slot)) → AllFit S items
    → SlotsBelow S (with_slots S items)
fit_below S items fit = grown S S items (slots_itself S) fit

-- the first slots of a list that fits, fit
pub fit_first : (S : Slots) (k : ℕ) (items : List (Dot × Slot)) → AllFit S items
    → AllFit S (take k items)
fit_first S zero items fit = tt
fit_first S (suc k) [] fit = tt
fit_first S (suc k) (i ∷ more) fit = (fit.0, fit_first S k more fit.1)
