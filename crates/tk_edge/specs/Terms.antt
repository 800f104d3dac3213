-- The terms of an edge: which pushed bundles it refuses, whatever its region would do with them,
-- and which notices of itself it gives (own).
--   TermsFields       what contracts see of the terms
--   is_within         a range has a number
--   is_accepted       a bundle may have items under a number
--   is_out_of_range   an item of a bundle is under a number that isn't accepted
--   accept_all        the terms that refuse no bundle and give no notice
use Rattle.std.specs.Prelude.{ℕ, Bool, false, ◌&&◌, ◌||◌, not, ◌==◌, nat_le, List, [], length}
use Rattle.std.specs.Prelude.{Option, None, Some, refl}
use Rattle.std.specs.List.{list_any}
use Rattle.std.specs.Coded.{Coded, code_by, coded×, coded_bool, coded_list, coded_option, coded_ℕ}
use Rattle.tk_bundle.specs.BundleFields.{BundleFields, Items}
use Rattle.tk_edge.specs.declared.terms.RegionRange.{RegionRange}

-- whether bundles that are ahead are refused, the ranges of accepted numbers, a range of numbers
-- that aren't, the issuer, whether health is given, and the text of the metrics
pub record TermsFields : Type 0 where
  pub refuses_ahead : Bool
  pub accepted : List RegionRange
  pub barred : Option RegionRange
  pub issuer : Option (List ℕ)
  pub health : Bool
  pub metrics : Option (List ℕ)

-- the code of a range, as a pair
abbrev pub coded_range : Coded RegionRange
coded_range =
    code_by (ℕ × ℕ) (coded× coded_ℕ coded_ℕ) (λ r. (r.first, r.last))
    (λ p. record { first = p.0; last = p.1 }) (λ _. refl)

-- the code of the terms, as nested pairs
abbrev pub coded_terms : Coded TermsFields
coded_terms =
    code_by
    (Bool × (List RegionRange
    × (Option RegionRange × (Option (List ℕ) × (Bool × Option (List ℕ))))))
    (coded× coded_bool
    (coded× (coded_list coded_range)
    (coded× (coded_option coded_range)
    (coded× (coded_option (coded_list coded_ℕ))
    (coded× coded_bool (coded_option (coded_list coded_ℕ)))))))
    (λ t. (t.refuses_ahead, (t.accepted, (t.barred, (t.issuer, (t.health, t.metrics))))))
    (λ p. record {
      refuses_ahead = p.0;
      accepted = p.1.0;
      barred = p.1.1.0;
      issuer = p.1.1.1.0;
      health = p.1.1.1.1.0;
      metrics = p.1.1.1.1.1;
    }) (λ _. refl)

-- the range has the number
abbrev pub is_within : ℕ → RegionRange → Bool
is_within number range = nat_le range.first number && nat_le number range.last

-- one of the ranges has the number, or there is no range
abbrev pub is_listed : List RegionRange → ℕ → Bool
is_listed ranges number = (length ranges == 0) || list_any (is_within number) ranges

-- the range, if there is one, has the number
abbrev pub is_barred : Option RegionRange → ℕ → Bool
is_barred None number = false
is_barred (Some range) number = is_within number range

-- a bundle may have items, facts or marks, under the number
abbrev pub is_accepted : TermsFields → ℕ → Bool
is_accepted terms number = is_listed terms.accepted number && not (is_barred terms.barred number)

-- one of the items is under a number that isn't accepted
abbrev pub has_outside : TermsFields → Items → Bool
has_outside terms items = list_any (λ i. not (is_accepted terms i.0.region)) items

-- an item of the bundle is under a number that isn't accepted
abbrev pub is_out_of_range : TermsFields → BundleFields → Bool
is_out_of_range terms b = has_outside terms b.items

-- the terms that refuse no bundle and give no notice
abbrev pub accept_all : TermsFields
accept_all = record {
  refuses_ahead = false;
  accepted = [];
  barred = None;
  issuer = None;
  health = false;
  metrics = None;
}
