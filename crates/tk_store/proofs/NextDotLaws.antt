-- The next dot of a region is free. Key results:
--   at_most_last_serial          no fact of a region has a greater serial than its greatest
--   next_is_free                 no fact is at a region's next dot
--   next_dot_there               the next dot, if a serial is left
use Rattle.std.proofs.Common.{◌≡◌, ℕ, ◌+◌, ◌≤◌, ◌==◌, true, false, cond, if◌then◌else◌, max}
use Rattle.std.proofs.Common.{List, [], ◌∷◌, Option, Some, None, refl, sym, ap}
use Rattle.std.proofs.Common.{◌∙◌, arith}
use Rattle.std.specs.Ordering.{eq_by_cmp}
use Rattle.std.specs.FinMap as map
use Rattle.std.specs.Option.{SomeIff}
use Rattle.std.proofs.lemmas.Bool.Decides.{nat_tests}
use Rattle.tk_handle.specs.declared.dot.Dot.{Dot}
use Rattle.tk_handle.specs.Dot.{dot_cmp}
use Rattle.tk_handle.specs.Ranges.{IsSerial, max_serial}
use Rattle.tk_store.specs.FactSet.{AllIn}
use Rattle.tk_store.specs.NextDot.{last_serial, next_serial, next_dot}
use Rattle.tk_handle.proofs.TestLaws.{tied}
use Rattle.std.proofs.lemmas.Option.{none-some as none_is_not_some}

module _ {X : Type 0} where
  -- no serial of a region is above its last
  pub at_most_last_serial : (r : ℕ) (es : List (Dot × X)) (q : Dot) (b : X) → q.region ≡ r
      → map.find dot_cmp q es ≡ Some b → q.serial ≤ last_serial r es
  at_most_last_serial r [] q b here h = absurd (none_is_not_some b h)
  at_most_last_serial r (e ∷ es) q b here h =
      elim (eq_by_cmp dot_cmp q e.0) as
      (λ t. eq_by_cmp dot_cmp q e.0 ≡ t → cond t (Some e.1) (map.find dot_cmp q es) ≡ Some b
      → q.serial ≤ last_serial r (e ∷ es)) [
        | true ↦ λ same _. let region = ap (λ d. d.region) (tied q e.0 same) in
            let serial = ap (λ d. d.serial) (tied q e.0 same) in
            first_counts r e.0.region e.0.serial (last_serial r es) q.serial
            (sym region ∙ here) serial
        | false ↦ λ _ k. let rest = at_most_last_serial r es q b here k in omega arith
      ] refl h
    where
      first_counts : (r region serial rest n : ℕ) → region ≡ r → n ≡ serial
          → n ≤ max (if region == r then serial else 0) rest
      first_counts r region serial rest n e f = grind (arith, nat_tests)

  -- the next dot of a region is free
  pub next_is_free : (F : map.FinMap dot_cmp X) (r : ℕ) → map.get F (next_dot F r) ≡ None
  next_is_free F r =
      elim (map.get F (next_dot F r)) as (λ o. map.get F (next_dot F r) ≡ o → o ≡ None) [
        | None ↦ λ _. refl
        | Some b ↦ λ h. let m = at_most_last_serial r (map.entries F) (next_dot F r) b refl
            (sym (map.get-entries F (next_dot F r)) ∙ h) in absurd (omega arith)
      ] refl

  -- the next dot has the serial after the greatest, if that is a serial
  pub next_dot_there : (F : map.FinMap dot_cmp X) (r n : ℕ) (result : Option Dot)
      → n ≡ last_serial r (map.entries F)
      → SomeIff result (IsSerial (n + 1)) (record { region = r; serial = n + 1 })
      → SomeIff result (next_serial F r ≤ max_serial) (next_dot F r)
  next_dot_there F r n None same h = λ left. h (omega arith, omega arith)
  next_dot_there F r n (Some d) same h =
      (omega (arith, h.0.1, same), h.1 ∙ ap (λ (m : ℕ). record { region = r; serial = m + 1 }) same)

  -- ---- the greatest serial

  -- no fact of the region is above a number, so neither is the greatest serial
  pub at_most : (F : map.FinMap dot_cmp X) (r m : ℕ) (fs : List (Dot × X)) → AllIn F fs
      → ((q : Dot) (b : X) → map.get F q ≡ Some b → q.region ≡ r → q.serial ≤ m)
      → last_serial r fs ≤ m
  at_most F r m [] a all = omega arith
  at_most F r m (f ∷ fs) a all =
      first f.0.region f.0.serial (last_serial r fs) (all f.0 f.1 a.0) (at_most F r m fs a.1 all)
    where
      first : (region serial rest : ℕ) → (region ≡ r → serial ≤ m) → rest ≤ m
          → max (if region == r then serial else 0) rest ≤ m
      first region serial rest h k = grind (arith, nat_tests)
