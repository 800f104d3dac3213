use Rattle.std.proofs.Common.{Some, ap, ◌∙◌}
use Rattle.tk_bundle.specs.Bundle.{bundle_bytes}
use Rattle.tk_bundle.specs.BundleFields.{BundleFields}
use Rattle.tk_world.specs.Bundles.{bundle_in_bytes}
use Rattle.tk_world.proofs.bundle.MadeBundle.bytes.Goals as goal

pub returns-clause-spelled : goal.returns-clause-spelled
returns-clause-spelled c = c.spelling.ensures.spelled
    ∙ ap (λ bytes. bundle_bytes (bundle_in_bytes bytes)) c.deref.ensures.value
    ∙ ap bundle_bytes c.self.view_is

pub returns-clause-read : goal.returns-clause-read
returns-clause-read c = c.spelling.ensures.read
    ∙ ap (λ bytes. Some (bundle_in_bytes bytes)) c.deref.ensures.value
    ∙ ap (λ (b : BundleFields). Some b) c.self.view_is

pub spelling-requires : goal.spelling-requires
spelling-requires c = rw c.deref.ensures.value c.self.invariant
