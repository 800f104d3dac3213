-- Adding a prepared fact, by the values that contracts see. Key results:
--   next_given   the prepared fact is the region's next
--   gains_next   the region gains the prepared fact
--   gains_none   the region gains nothing if no fact is prepared
use Rattle.std.proofs.Common.{◌≡◌, Option, Some, None, IfSome, refl, sym, subst}
use Rattle.tk_handle.specs.declared.dot.Dot.{Dot}
use Rattle.tk_fact.specs.declared.body.Body.{Body}
use Rattle.tk_store.specs.StoreFields.{StoreFields, with_fact}
use Rattle.tk_region.specs.RegionFields.{RegionFields, Gains}
use Rattle.tk_region.specs.Step.{PreparedFields, IsNextFact}

module _ (r R : RegionFields) (p P : PreparedFields) (same_region : r ≡ R) (same : p ≡ P) where
  -- the fact that was prepared is the region's next
  pub next_given : (f : Dot × Body) → p.fact ≡ Some f → IfSome P.fact (IsNextFact R)
      → IsNextFact r f
  next_given f is given =
      let there =
      subst (λ (R : RegionFields). IfSome P.fact (IsNextFact R)) (sym same_region) given in
      let here = subst (λ (P : PreparedFields). IfSome P.fact (IsNextFact r)) (sym same) there in
      subst (λ (o : Option (Dot × Body)). IfSome o (IsNextFact r)) is here

  -- a region gains the fact that was prepared
  pub gains_next : (f : Dot × Body) (Q : StoreFields) → p.fact ≡ Some f
      → Q ≡ with_fact r.facts f.0 f.1
      → Gains R P.fact (record { number = r.number; settings = r.settings; facts = Q })
  gains_next f Q is with_it =
      let new : RegionFields = record { number = r.number; settings = r.settings; facts = Q } in
      let one : Gains r (Some f) new = record { number = refl; settings = refl; facts = with_it } in
      let made = subst (λ (o : Option (Dot × Body)). Gains r o new) (sym is) one in
      let prepared = subst (λ (P : PreparedFields). Gains r P.fact new) same made in
      subst (λ (R : RegionFields). Gains R P.fact new) same_region prepared

  -- a region gains nothing if no fact was prepared
  pub gains_none : p.fact ≡ None → Gains R P.fact R
  gains_none is =
      let none : Gains R None R = record { number = refl; settings = refl; facts = refl } in
      let made = subst (λ (o : Option (Dot × Body)). Gains R o R) (sym is) none in
      subst (λ (P : PreparedFields). Gains R P.fact R) same made
