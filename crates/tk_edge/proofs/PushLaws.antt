-- Laws of pushed bundles. Key results:
--   refused_lost   RefusedIsLost
--   taken_as       TakesAsRegion
--   all_accepted   AcceptsAll
use Rattle.std.proofs.Common.{◌≡◌, ◌⊎◌, inl, inr, ℕ, false, [], ◌∷◌, None}
use Rattle.std.proofs.Common.{Some, Result, Ok, Err, refl, subst, ap}
use Rattle.tk_bundle.specs.BundleFields.{Items}
use Rattle.tk_region.specs.declared.take.TakeError.{TakeError}
use Rattle.tk_region.specs.declared.take.TakeError.TheVariants as take
use Rattle.tk_edge.specs.Ahead.{first_refusal, lifted}
use Rattle.tk_edge.specs.Exchanges.{PushesBy, TakesBundle}
use Rattle.tk_edge.specs.Laws.{AcceptsAll, RefusedIsLost, TakesAsRegion}
use Rattle.tk_edge.specs.declared.ahead.PushError.{PushError}
use Rattle.tk_edge.specs.declared.ahead.PushError.TheVariants.{HorizonAhead, OutOfRange, Take}
use Rattle.tk_edge.specs.Terms.{accept_all, has_outside}
use Rattle.tk_edge.specs.declared.tell.Fault.TheVariants.{Memory}

-- a bundle that the terms refuse changes nothing
pub refused_lost : RefusedIsLost
refused_lost terms now old new bytes taken why is h =
    by taken (subst (λ r. PushesBy r old bytes taken new) is h)
  where
    by : (t : Result ℕ PushError) → PushesBy (Some why) old bytes t new
        → ((t ≡ Err why) ⊎ (t ≡ Err (Take take.Memory))) × (new ≡ old)
    by (Err HorizonAhead) h = (inl (ap Err h.0), h.1)
    by (Err OutOfRange) h = (inl (ap Err h.0), h.1)
    by (Err (Take take.Memory)) h = (inr refl, h)
    by (Err (Take take.Malformed)) h = (inl (ap Err h.0), h.1)
    by (Err (Take take.OwnNumber)) h = (inl (ap Err h.0), h.1)
    by (Err (Take take.Conflict)) h = (inl (ap Err h.0), h.1)
    by (Ok n) h = absurd h

-- no item is outside a region that accepts all
none_outside : (items : Items) → has_outside accept_all items ≡ false
none_outside [] = refl
none_outside (i ∷ items) = none_outside items

-- the terms that accept all refuse no bundle
pub all_accepted : AcceptsAll
all_accepted now None = refl
all_accepted now (Some b) = ap (first_refusal false) (none_outside b.items)

-- a bundle that the terms don't refuse is taken in as the region does
pub taken_as : TakesAsRegion
taken_as terms now old new bytes taken is h =
    by taken (subst (λ r. PushesBy r old bytes taken new) is h)
  where
    by : (t : Result ℕ PushError) → PushesBy None old bytes t new
        → (result : Result ℕ TakeError) × (t ≡ lifted result) × TakesBundle old bytes result new
    by (Ok n) h = (Ok n, refl, h)
    by (Err (Take error)) h = (Err error, refl, h)
    by (Err HorizonAhead) h = absurd h
    by (Err OutOfRange) h = absurd h
