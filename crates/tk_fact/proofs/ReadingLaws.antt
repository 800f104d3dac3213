-- A reading that fails when the format reads nothing (`none_by`).
use Rattle.std.proofs.Common.{◌≡◌, List, ℕ, None, Result, Ok, Err}
use Rattle.std.specs.Result.{IsErrAnd}
use Rattle.tk_format.specs.declared.error.ReadError.{ReadError}
use Rattle.tk_format.specs.declared.error.ReadError.TheVariants.{Malformed, Memory}
use Rattle.tk_format.specs.Format.{Format}
use Rattle.tk_format.specs.Reading.{Gets}

-- if the format reads nothing, a reader may return any error
pub none_by : {X A : Type 0} (view : X → A) (f : Format A) (r : Result X ReadError)
    (Q : ReadError → Type 0) (old new : List ℕ)
    → IsErrAnd r Q → f.read old ≡ None → Gets view f r old new
none_by view f (Ok x) Q old new is h = absurd is
none_by view f (Err Malformed) Q old new is h = h
none_by view f (Err Memory) Q old new is h = tt
