-- A bundle's bytes are read as that bundle alone (own). Key results:
--   bundle_exact     a bundle has one spelling
--   one_front        no bundle's bytes begin those of another bundle
--   versions_tell    a bundle's first four bytes show whether runs, marks, sign-outs and facts of
--                    clients that keep their refresh tokens are inside
use Rattle.std.proofs.Common.{◌≡◌, ℕ, Bool, true, false, cond, eqb, nat_le, List, [], ◌∷◌, ◌++◌}
use Rattle.std.proofs.Common.{Option, Some, None}
use Rattle.std.proofs.Common.{refl, sym, ap, subst, ◌∙◌}
use Rattle.std.proofs.lemmas.Bool.{eqb-true, eq-eqb}
use Rattle.std.proofs.lemmas.List.{append-nil}
use Rattle.std.proofs.lemmas.Option.{cond_some}
use Rattle.tk_format.specs.Format.{◌>>=◌, Format, byte}
use Rattle.tk_format.specs.Exact.{IsBytes, IsExact, Takes, Takes-then, bind_some, prefix_free}
use Rattle.tk_format.specs.Exact.{some_is}
use Rattle.tk_format.specs.NumberLaws.{byte_exact, u16_exact}
use Rattle.tk_format.specs.Laws.{only_exact, after_exact, counted_exact, both_exact, shaped_exact}
use Rattle.tk_handle.specs.Moment.{moment}
use Rattle.tk_handle.proofs.FormatLaws.{moment_exact}
use Rattle.tk_bundle.specs.BundleFields.{BundleFields}
use Rattle.tk_bundle.specs.Items.{item}
use Rattle.tk_bundle.specs.ItemLaws.{item_exact}
use Rattle.tk_bundle.specs.PiecedLaws.{pieced_exact}
use Rattle.tk_bundle.specs.Versions.{version_of, has_horizon, has_runs}
use Rattle.tk_bundle.specs.VersionLaws.{version_tells}
use Rattle.tk_bundle.specs.Bundle.{ascends, magic, max_items, marked, counted_items, versioned}
use Rattle.tk_bundle.specs.Bundle.{listed, bundle, VersionsTold, HorizonFits, horizon_bytes}
use Rattle.tk_bundle.specs.Bundle.{horizon_field, items_by, runs_field, contents}

-- a value that is read behind its mark is spelled with that mark
marked_takes : {A : Type 0} (mark : A → ℕ) (f : ℕ → Format A) → ((m : ℕ) → IsExact (f m))
    → (bytes : List ℕ) (x : A × List ℕ) → IsBytes bytes → (marked mark f).read bytes ≡ Some x
    → Takes bytes (mark x.0 ∷ (f (mark x.0)).spell x.0) x.1 × (f (mark x.0)).Fits x.0
marked_takes {A} mark f p bytes x fits e =
    let m = bind_some (byte.read bytes) (λ m. (f m.0).read m.1 >>= λ a.
    cond (eqb m.0 (mark a.0)) (Some a) None) x e in
    let a = bind_some ((f m.0.0).read m.0.1) (λ a. cond (eqb m.0.0 (mark a.0)) (Some a) None) x
    m.2 in
    let g = cond_some (eqb m.0.0 (mark a.0.0)) a.0 x a.2 in
    let first = byte_exact.takes bytes m.0 fits m.1 in
    let second = (p m.0.0).takes m.0.1 a.0 first.0.rest_fits a.1 in
    let both = Takes-then bytes (m.0.0 ∷ []) m.0.1 ((f m.0.0).spell a.0.0) a.0.1 first.0 second.0 in
    subst (λ (y : A × List ℕ). Takes bytes (mark y.0 ∷ (f (mark y.0)).spell y.0) y.1
    × (f (mark y.0)).Fits y.0) g.1
    (subst (λ (t : ℕ). Takes bytes (t ∷ (f t).spell a.0.0) a.0.1 × (f t).Fits a.0.0)
    (eqb-true _ _ g.0) (both, second.1))

-- a value behind its mark has one spelling if each value alone has one
pub marked_exact : {A : Type 0} (mark : A → ℕ) (f : ℕ → Format A) → ((m : ℕ) → IsExact (f m))
    → IsExact (marked mark f)
marked_exact mark f p = record {
  takes = marked_takes mark f p;
  again = λ a rest fits. rw ((p (mark a)).again a rest fits, eq-eqb (mark a) (mark a) refl) refl;
}

-- a count and items have one spelling
counted_items_exact : IsExact counted_items
counted_items_exact =
    counted_exact _ item (only_exact (λ n. nat_le n max_items) _ u16_exact) item_exact

-- items have one spelling without runs, and one with them
items_exact : (runs : Bool) → IsExact (items_by runs)
items_exact false = counted_items_exact
items_exact true = pieced_exact

-- whether there are runs has one spelling, without a byte
runs_exact : (digit : ℕ) → IsExact (runs_field digit)
runs_exact digit = record {
  takes = λ bytes x fits e.
      subst (λ (y : Bool × List ℕ). Takes bytes [] y.1 × (y.0 ≡ has_runs digit))
      (some_is (has_runs digit, bytes) x e) (record { parts = refl; rest_fits = fits }, refl);
  again = λ runs rest fits. ap (λ (t : Bool). Some (t, rest)) (sym fits);
}

-- the horizon that is read, if the version has one
abbrev Read : Bool → List ℕ → Option (Option ℕ × List ℕ)
Read t bytes = cond t (moment.read bytes >>= λ m. Some (Some m.0, m.1)) (Some (None, bytes))

-- a horizon, which is there if the version has one, has one spelling
horizon_exact : (digit : ℕ) → IsExact (horizon_field digit)
horizon_exact digit = record {
  takes = λ bytes x fits e. taken (has_horizon digit) refl bytes x fits e;
  again = λ o rest fits. again o rest fits;
}
  where
    taken : (t : Bool) → has_horizon digit ≡ t → (bytes : List ℕ) (x : Option ℕ × List ℕ)
        → IsBytes bytes → Read t bytes ≡ Some x
        → Takes bytes (horizon_bytes x.0) x.1 × HorizonFits digit x.0
    taken true is bytes x fits e =
        let m = bind_some (moment.read bytes) (λ m. Some (Some m.0, m.1)) x e in
        let t = moment_exact.takes bytes m.0 fits m.1 in
        subst (λ (y : Option ℕ × List ℕ). Takes bytes (horizon_bytes y.0) y.1
        × HorizonFits digit y.0)
        (some_is (Some m.0.0, m.0.1) x m.2) (t.0, (t.1, is))
    taken false is bytes x fits e =
        subst (λ (y : Option ℕ × List ℕ). Takes bytes (horizon_bytes y.0) y.1
        × HorizonFits digit y.0)
        (some_is (None, bytes) x e) (record { parts = refl; rest_fits = fits }, is)

    again : (o : Option ℕ) (rest : List ℕ) → HorizonFits digit o
        → Read (has_horizon digit) (horizon_bytes o ++ rest) ≡ Some (o, rest)
    again None rest fits = rw fits refl
    again (Some h) rest fits = rw (fits.1, moment_exact.again h rest fits.0) refl

-- what follows the digit of a version has one spelling
contents_exact : (digit : ℕ) → IsExact (contents digit)
contents_exact digit =
    shaped_exact _ _ _
    (both_exact _ _ (runs_exact digit)
    (both_exact _ _ (horizon_exact digit) (items_exact (has_runs digit)))) (λ _. refl) (λ _. refl)

-- a bundle has one spelling
pub bundle_exact : IsExact bundle
bundle_exact =
    only_exact (λ b. ascends None b.items) listed
    (after_exact magic versioned
    (marked_exact (λ b. version_of b.runs b.items) contents contents_exact))

-- no bundle's bytes begin those of another bundle
pub one_front : (a b : BundleFields) (rest : List ℕ) → bundle.Fits a → bundle.Fits b
    → bundle.spell a ++ rest ≡ bundle.spell b → (a ≡ b) × (rest ≡ [])
one_front a b rest fa fb e =
    prefix_free bundle bundle_exact a b rest [] fa fb (e ∙ sym (append-nil (bundle.spell b)))

-- a bundle's first four bytes show whether runs, marks, sign-outs and facts of clients that keep
-- their refresh tokens are inside
pub versions_tell : VersionsTold
versions_tell b = ap (λ digit. magic ++ digit ∷ []) (version_tells b.runs b.items)
