-- The order of dots, their code, and their range (own).
--   IsDot       a dot that a program can hold
--   dot_cmp     the order of dots: by region, then by serial
--   coded_dot   a dot as a pair of numbers
--   least_dot, greatest_dot   the dots at both ends of the order
use Rattle.std.specs.Prelude.{ℕ, refl}
use Rattle.std.proofs.Common.{ap}
use Rattle.std.specs.Ordering.{nat_cmp, ordering_then}
use Rattle.std.specs.declared.cmp.Ordering.{Ordering}
use Rattle.std.specs.Coded.{Coded, code_by, coded×, coded_ℕ}
use Rattle.std.specs.Cmp.{IsTotalOrder, nat_cmp_total}
use Rattle.std.specs.FinMap.{IsAntisymmetric}
use Rattle.std.proofs.lemmas.Cmp.{on_total, then_total}
use Rattle.std.proofs.lemmas.Map.Lookups.{exact_pairs, exact_unsigned}
use Rattle.tk_handle.specs.declared.dot.Dot.{Dot}
use Rattle.tk_handle.specs.Ranges.{IsRegion, IsSerial, max_region, max_serial}

-- a dot that a program can hold: region and serial are in their ranges
abbrev pub IsDot : Dot → Type 0
IsDot d = IsRegion d.region × IsSerial d.serial

-- the order of dots: by region, then by serial
abbrev pub dot_cmp : Dot → Dot → Ordering
dot_cmp a b = ordering_then (nat_cmp a.region b.region) (nat_cmp a.serial b.serial)

-- the least dot
abbrev pub least_dot : Dot
least_dot = record { region = 1; serial = 1 }

-- the greatest dot
abbrev pub greatest_dot : Dot
greatest_dot = record { region = max_region; serial = max_serial }

-- the code of a dot: a pair of numbers
abbrev pub coded_dot : Coded Dot
coded_dot = code_by (ℕ × ℕ) (coded× coded_ℕ coded_ℕ) (λ d. (d.region, d.serial))
    (λ p. record { region = p.0; serial = p.1 }) (λ _. refl)

-- dots that compare as equal are equal
pub dot_cmp-IsAntisymmetric : IsAntisymmetric dot_cmp
dot_cmp-IsAntisymmetric a b h =
    ap (λ (p : ℕ × ℕ). record { region = p.0; serial = p.1 })
    (exact_pairs nat_cmp nat_cmp exact_unsigned exact_unsigned (a.region, a.serial)
    (b.region, b.serial) h)

-- the order of dots is total
pub dot_cmp_total : IsTotalOrder dot_cmp
dot_cmp_total = then_total (on_total (λ d. d.region) nat_cmp_total)
    (on_total (λ d. d.serial) nat_cmp_total)
