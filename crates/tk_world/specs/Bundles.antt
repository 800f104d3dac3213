-- A bundle in bytes, seen as its horizon and items (own).
--   bundle_in_bytes   the bundle that the bytes spell
--   IsReadable        the bytes spell a bundle
use Rattle.std.specs.Prelude.{◌≡◌, ℕ, false, List, [], None, Some, unwrap_or}
use Rattle.tk_format.specs.Format.{whole}
use Rattle.tk_bundle.specs.Bundle.{bundle}
use Rattle.tk_bundle.specs.BundleFields.{BundleFields}

-- the bundle without items
abbrev pub no_bundle : BundleFields
no_bundle = record { horizon = None; runs = false; items = [] }

-- the bundle that the bytes spell
abbrev pub bundle_in_bytes : List ℕ → BundleFields
bundle_in_bytes bytes = unwrap_or (whole bundle bytes) no_bundle

-- the bytes spell a bundle
abbrev pub IsReadable : List ℕ → Type 0
IsReadable bytes = whole bundle bytes ≡ Some (bundle_in_bytes bytes)
