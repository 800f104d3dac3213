-- A record that a device holds whole. Key result:
--   whole_kept   the whole record stays, or is a beginning of itself if a later call fails
use Rattle.std.proofs.Common.{ℕ, List, [], Option, Result, Ok, Err, sym, append-nil}
use Rattle.std.specs.Io.KnownBytes.{Appends, Keeps}
use Rattle.std.proofs.KnownBytes.{Appends-kept}
use Rattle.tk_put.specs.Put.{Prints}

-- the whole record stays, or is a beginning of itself if a later call fails
pub whole_kept : {A E : Type 0} (result : Result A E) (old mid new : Option (List ℕ))
    (bytes : List ℕ)
    → Appends old mid bytes → Keeps mid new → Prints result old new bytes
whole_kept (Ok a) old mid new bytes all kept = Appends-kept old mid new bytes all kept
whole_kept (Err e) old mid new bytes all kept =
    record {
      front = bytes;
      rest = [];
      parts = sym (append-nil bytes);
      appended = Appends-kept old mid new bytes all kept;
    }
