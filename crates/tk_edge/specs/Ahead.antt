-- Pushed bundles that the terms refuse: those whose horizon is later than the moment, and those
-- with an item under a number that isn't accepted (own).
--   is_later     a horizon, if there is one, is later than the moment
--   is_ahead     the bundle's horizon is later than the moment
--   refused      why the terms refuse the bundle that the bytes spell
--   lifted       the result of a push, by that of taking the bundle in
--   ReadsPushed  how reading a pushed bundle may end
use Rattle.std.specs.Prelude.{◌≡◌, ⊤, ℕ, Bool, true, false, ◌&&◌, nat_lt, List, Option, None, Some}
use Rattle.std.specs.Prelude.{Result, Ok, Err}
use Rattle.tk_format.specs.Format.{whole}
use Rattle.tk_bundle.specs.BundleFields.{BundleFields}
use Rattle.tk_bundle.specs.Bundle.{bundle, bundle_bytes}
use Rattle.tk_region.specs.declared.take.TakeError.{TakeError}
use Rattle.tk_region.specs.declared.take.TakeError.TheVariants.{Malformed, Memory}
use Rattle.tk_edge.specs.Terms.{TermsFields, is_out_of_range}
use Rattle.tk_edge.specs.declared.ahead.PushError.{PushError}
use Rattle.tk_edge.specs.declared.ahead.PushError.TheVariants.{HorizonAhead, OutOfRange, Take}

-- a horizon, if there is one, is later than the moment
abbrev pub is_later : ℕ → Option ℕ → Bool
is_later now None = false
is_later now (Some horizon) = nat_lt now horizon

-- the bundle's horizon is later than the moment
abbrev pub is_ahead : ℕ → BundleFields → Bool
is_ahead now b = is_later now b.horizon

-- the first refusal: by whether the bundle is ahead and such bundles are refused, and by whether it
-- is out of range
abbrev pub first_refusal : Bool → Bool → Option PushError
first_refusal true out = Some HorizonAhead
first_refusal false true = Some OutOfRange
first_refusal false false = None

-- why the terms refuse the bundle at the moment, if they do
abbrev pub refusal_by : TermsFields → ℕ → BundleFields → Option PushError
refusal_by terms now b =
    first_refusal (terms.refuses_ahead && is_ahead now b) (is_out_of_range terms b)

-- why the terms refuse the bundle that the bytes spell, if they spell one and the terms refuse it
abbrev pub refused : TermsFields → ℕ → Option BundleFields → Option PushError
refused terms now None = None
refused terms now (Some b) = refusal_by terms now b

-- the result of a push, by that of taking the bundle in
abbrev pub lifted : Result ℕ TakeError → Result ℕ PushError
lifted (Ok n) = Ok n
lifted (Err error) = Err (Take error)

-- how reading a pushed bundle may end: with a bundle that isn't refused; or it is refused; or the
-- bytes spell none, or memory ran out
abbrev pub ReadsPushed : TermsFields → ℕ → List ℕ → Result BundleFields PushError → Type 0
ReadsPushed terms now bytes (Ok b) =
    bundle.Fits b × (bytes ≡ bundle_bytes b) × (whole bundle bytes ≡ Some b)
    × (refused terms now (whole bundle bytes) ≡ None)
ReadsPushed terms now bytes (Err (Take Malformed)) = whole bundle bytes ≡ None
ReadsPushed terms now bytes (Err (Take Memory)) = ⊤
ReadsPushed terms now bytes (Err (Take error)) = ⊥
ReadsPushed terms now bytes (Err why) = refused terms now (whole bundle bytes) ≡ Some why
