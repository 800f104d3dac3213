-- What a log gains of a connection, and what that says of the store.
--   IsSame    the store is as it was
--   Brings    a bundle in the log says how a store became another
--   Grows     the log gains nothing, or such a bundle
use Rattle.std.proofs.Common.{◌≡◌, ℕ, ◌≤◌, max, Bool, true, false, nat_lt, List, [], ◌∷◌}
use Rattle.std.proofs.Common.{append-nil, Option, None, Some, Result, Ok, Err, sym, arith, ◌∙◌}
use Rattle.std.specs.Prelude.{◌⊎◌}
use Rattle.std.specs.FinMap as map
use Rattle.std.specs.Io.KnownBytes.{Appends, Keeps}
use Rattle.std.proofs.lemmas.Bool.Decides.{nat_tests}
use Rattle.tk_handle.specs.declared.dot.Dot.{Dot}
use Rattle.tk_fact.specs.declared.body.Body.{Body}
use Rattle.tk_store.specs.SlotJoining.{AllBelow, AllFit}
use Rattle.tk_store.specs.SlotOrder.{SlotsBelow}
use Rattle.tk_store.specs.Slots.{Slot, Slots, Held, with_slots}
use Rattle.tk_store.specs.StoreFields.{StoreFields}
use Rattle.tk_bundle.specs.BundleFields.{BundleFields, Items}
use Rattle.tk_bundle.specs.Bundle.{bundle, bundle_bytes}
use Rattle.tk_message.specs.declared.status_code.StatusCode.{StatusCode}
use Rattle.tk_region.specs.declared.take.TakeError.TheVariants as Take
use Rattle.tk_edge.specs.declared.edge.Served.{Served}
use Rattle.tk_edge.specs.declared.ahead.PushError.{PushError}
use Rattle.tk_edge.specs.declared.ahead.PushError.TheVariants as push
use Rattle.tk_edge.specs.declared.tell.Fault.{Fault}
use Rattle.tk_edge.specs.declared.tell.Fault.TheVariants.{Write, Log, Memory}
use Rattle.tokend.specs.KeptLog.{IsCalm}
use Rattle.tokend.proofs.KeptSlots.{IsFrom}
use Rattle.tokend.proofs.LogBundles.{IsNotLater}

-- the store is as it was
pub record IsSame (F G : StoreFields) : Type 0 where
  pub slots : (d : Dot) → map.get G.slots d ≡ map.get F.slots d
  pub horizon : G.horizon ≡ F.horizon

-- A bundle in the log says how a store became another. If memory didn't run out, what is below the
-- store can take the bundle in, and stays below.
pub record Brings (end : Result Served Fault) (F G : StoreFields) (b : BundleFields) : Type 0 where
  pub fits : bundle.Fits b
  pub from : (U : Slots) → AllBelow U b.items → (d : Dot)
      → IsFrom (map.get U d) (map.get F.slots d) (map.get G.slots d)
  pub late : (u : ℕ) → IsNotLater b.horizon u → G.horizon ≤ max F.horizon u
  pub loads : IsCalm end → (L : Slots) → SlotsBelow L F.slots
      → AllFit L b.items × SlotsBelow (with_slots L b.items) G.slots
  pub known : IsCalm end → AllBelow G.slots b.items

-- the log gains nothing and the store is as it was, or the log gains a bundle
abbrev pub Grows : Result Served Fault → Option (List ℕ) → Option (List ℕ) → StoreFields
    → StoreFields → Type 0
Grows end before after F G = (Appends before after [] × IsSame F G)
    ⊎ ((b : BundleFields) × Appends before after (bundle_bytes b) × Brings end F G b)

-- a log that stays as it is gets no bytes
pub keeps_nothing : (before after : Option (List ℕ)) → Keeps before after → Appends before after []
keeps_nothing None after h = tt
keeps_nothing (Some xs) None h = absurd h
keeps_nothing (Some xs) (Some ys) h = h ∙ sym (append-nil xs)

-- no is not yes
pub sealed_clash : false ≡ true → ⊥
sealed_clash e = cc

-- a connection that ended with a status
abbrev pub ended : StatusCode → Result StatusCode Fault
ended status = Ok status

-- a connection that ended with a fault
abbrev fails : Fault → Result StatusCode Fault
fails fault = Err fault

-- a connection that ended with a status did not end with a fault
pub ok_fault : (status : StatusCode) (fault : Fault) → ended status ≡ fails fault → ⊥
ok_fault status fault e = cc

-- a fault of a connection is none of the log
pub write_log : fails Write ≡ fails Log → ⊥
write_log e = cc

-- a fault of a connection is not that memory ran out
pub write_memory : fails Write ≡ fails Memory → ⊥
write_memory e = cc

-- the items of a record
abbrev pub one : Dot × Body → Items
one f = (f.0, Held f.1) ∷ []

-- each item
abbrev pub all_items : Dot × Slot → Bool
all_items i = true

-- the later of two moments is the first, if that isn't before the second
pub no_earlier : (h m : ℕ) → nat_lt h m ≡ false → max h m ≡ h
no_earlier h m e = grind (arith, nat_tests)

-- memory ran out while a pushed bundle was taken in
abbrev pub short_push : Result ℕ PushError
short_push = Err (push.Take Take.Memory)

-- the later of two moments isn't before the first
itself : (n u : ℕ) → n ≤ max n u
itself n u = omega (arith)

-- an equal moment is not later than the later of it and another
pub same_late : (m n u : ℕ) → m ≡ n → m ≤ max n u
same_late m n u e = omega (arith, e)
