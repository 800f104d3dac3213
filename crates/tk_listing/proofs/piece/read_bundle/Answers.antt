use Rattle.std.proofs.Common.{◌≡◌, ◌<◌, ℕ, zero, suc, false, List, ◌∷◌, ◌++◌, take, Result, Err}
use Rattle.std.proofs.Common.{refl, sym, ap, ◌∙◌, inr, arith}
use Rattle.tk_bundle.specs.BundleFields.{BundleFields}
use Rattle.tk_bundle.specs.Bundle.{bundle, bundle_bytes}
use Rattle.tk_bundle.specs.Front.{IsFrontOf}
use Rattle.tk_bundle.specs.Front as bundles
use Rattle.tk_bundle.specs.declared.error.FrontError.{FrontError}
use Rattle.tk_bundle.specs.declared.error.FrontError.TheVariants.{Malformed, Memory, Cut}
use Rattle.tk_listing.specs.Pieces.{ReadsPiece, is_vector}
use Rattle.tk_listing.proofs.piece.read_bundle.Goals as goal

-- bytes that begin with a byte are some
some : (n x : ℕ) (bytes rest : List ℕ) → take n bytes ≡ x ∷ rest → 0 < n
some zero x bytes rest h = absurd cc
some (suc n) x bytes rest h = omega arith

pub returns-in-Ok : goal.returns-in-Ok
returns-in-Ok c =
    let found = c.in-Ok.ensures.found in
    record {
      fits = found.1;
      some = some c.in-Ok.count _ c.args.bytes.now _ found.2;
      within = found.0;
      spelled = found.2;
    }

-- the result of a reading that ended with an error
abbrev failed : FrontError → Result (BundleFields × ℕ) FrontError
failed error = Err error

-- what an error of a front shows of bytes that don't begin as a vector does
unread : (bytes : List ℕ) (error : FrontError) → is_vector bytes ≡ false
    → ((e : FrontError) → bundles.walk bytes ≡ Err e → failed error ≡ failed e)
    → (error ≡ Cut → bundles.IsCut bytes)
    → ((b : BundleFields) (more : List ℕ) → bundle.Fits b → bytes ≡ bundle_bytes b ++ more
    → IsFrontOf (failed error) b)
    → ReadsPiece bytes (Err error)
unread bytes Malformed other walked cut only =
    inr (other, (λ is. let e = walked Cut is in cc), λ b more fits e. only b more fits e)
unread bytes Memory other walked cut only = tt
unread bytes Cut other walked cut only = inr (other, cut refl)

pub returns-in-Err : goal.returns-in-Err
returns-in-Err c = unread c.args.bytes.now c.in-Err.error c.requires
    (λ e is. sym c.in-Err.is ∙ c.read_front.ensures.walked e is)
    (λ is. c.in-Err.ensures.cut (ap failed is))
    (λ b more fits e. c.in-Err.ensures.only b more fits e)
