-- A bundle in bytes is read as its horizon and items, which spell it. Key results:
--   made_bundle      bytes that spell a bundle are read as that bundle
--   readable_bytes   readable bytes are the spelling of their bundle
use Rattle.std.proofs.Common.{◌≡◌, ℕ, List, Option, Some, unwrap_or, sym, ap, ◌∙◌}
use Rattle.tk_format.specs.Format.{whole}
use Rattle.tk_format.specs.Exact.{IsBytes, whole_takes, whole_again}
use Rattle.tk_bundle.specs.Bundle.{bundle, bundle_bytes}
use Rattle.tk_bundle.specs.BundleFields.{BundleFields}
use Rattle.tk_bundle.specs.BundleLaws.{bundle_exact}
use Rattle.tk_world.specs.Bundles.{bundle_in_bytes, no_bundle, IsReadable}

-- the bytes of a bundle that fits are read as that bundle
spelled_bundle : (bytes : List ℕ) (b : BundleFields) → bundle.Fits b → bytes ≡ bundle_bytes b
    → whole bundle bytes ≡ Some b
spelled_bundle bytes b fits e = ap (whole bundle) e ∙ whole_again bundle bundle_exact b fits

-- bytes that spell a bundle are read as that bundle
pub made_bundle : (bytes : List ℕ) (b : BundleFields) → bundle.Fits b → bytes ≡ bundle_bytes b
    → bundle_in_bytes bytes ≡ b
made_bundle bytes b fits e =
    ap (λ (o : Option BundleFields). unwrap_or o no_bundle) (spelled_bundle bytes b fits e)

-- bytes that spell a bundle can be read
pub made_readable : (bytes : List ℕ)
    → ((b : BundleFields) × bundle.Fits b × (bytes ≡ bundle_bytes b)) → IsReadable bytes
made_readable bytes made = spelled_bundle bytes made.0 made.1 made.2
    ∙ ap (λ (b : BundleFields). Some b) (sym (made_bundle bytes made.0 made.1 made.2))

-- readable bytes are the spelling of their bundle
pub readable_bytes : (bytes : List ℕ) → IsBytes bytes → IsReadable bytes
    → bytes ≡ bundle_bytes (bundle_in_bytes bytes)
readable_bytes bytes fits readable =
    (whole_takes bundle bundle_exact bytes (bundle_in_bytes bytes) fits readable).1
