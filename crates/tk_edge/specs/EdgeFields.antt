-- What contracts see of an edge (own).
--   EdgeFields   an edge: its region, its terms, and whether it is sealed
--   reach_of     the reach of some paths, with the notices that terms give
use Rattle.std.specs.Prelude.{Bool, is_some, refl}
use Rattle.std.specs.Coded.{Coded, code_by, coded×, coded_bool}
use Rattle.tk_region.specs.RegionFields.{RegionFields, coded_region}
use Rattle.tk_edge.specs.Terms.{TermsFields, coded_terms}
use Rattle.tk_edge.specs.declared.reach.PathSet.{PathSet}
use Rattle.tk_edge.specs.declared.reach.Reach.{Reach}

-- an edge: its region, its terms, and whether it is sealed
pub record EdgeFields : Type 0 where
  pub region : RegionFields
  pub terms : TermsFields
  pub sealed : Bool

-- the code of an edge, as nested pairs
abbrev pub coded_edge : Coded EdgeFields
coded_edge =
    code_by (RegionFields × (TermsFields × Bool))
    (coded× coded_region (coded× coded_terms coded_bool))
    (λ e. (e.region, (e.terms, e.sealed)))
    (λ p. record { region = p.0; terms = p.1.0; sealed = p.1.1 }) (λ _. refl)

-- the reach of these paths, with the notices that the terms give
abbrev pub reach_of : TermsFields → PathSet → Reach
reach_of terms set = record {
  paths = set;
  discovery = is_some terms.issuer;
  health = terms.health;
  metrics = is_some terms.metrics;
}
